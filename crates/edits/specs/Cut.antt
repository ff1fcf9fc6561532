-- A parse in S slots looks at no token beyond the first S + 1.
use Rattle.std.specs.Prelude.{ℕ, suc, ◌+◌, ◌≤◌, ◌≡◌, refl, ◌⊎◌, List, [], ◌∷◌, ◌++◌, length, take, drop}
use Rattle.std.proofs.Common.{subst, inl, inr, take-append-drop, length-append, drop_of_length-le, take_all, length-take-le, arith}
use Rattle.std.proofs.Math.Logic.{by_cases}
use Rattle.std.proofs.Math.Decide.{dec_lt}
use Rattle.base.specs.Choose.{never}
use Rattle.grammar.specs.Grammar.{Grammar}
use Rattle.grammar.specs.Prediction.{Predicts}
use Rattle.grammar.specs.Forest.{Token}
use Rattle.plain.specs.Plain.{ahead, Verdict, accepted, Expects, Runs, accepts, matches, expands, crowded, stuck, Parses}

-- behind i tokens that are matched come u, then r: r is empty, or the last of u is token S
abbrev Enough : ℕ → ℕ → List Token → List Token → Type 0
Enough S i u r = (r ≡ []) ⊎ (i + length u ≡ suc S)

same_ahead : (S i : ℕ) (u r : List Token) → i ≤ S → Enough S i u r → ahead (u ++ r) ≡ ahead u
same_ahead S i (k ∷ u) r l o = refl
same_ahead S i [] r l (inl e) = rw e
same_ahead S i [] r l (inr e) = absurd (omega (arith, e))

module _ {G : Grammar} {S : ℕ} where
  -- so the parse of u ends as that of u and r does
  run_more : {xs : List ℕ} {u : List Token} {c i : ℕ} {v : Verdict} (r : List Token) → i + length xs ≤ c → c ≤ S → Enough S i u r → Runs G S xs u c i v → Runs G S xs (u ++ r) c i v
  run_more r m l (inl e) accepts = rw e accepts
  run_more r m l (inr e) accepts = absurd (omega (arith, e))
  run_more r m l o (matches {i = i} {w = w} t q h) = matches t q (run_more r (omega arith) l (next o) h)
    where
      next : (r ≡ []) ⊎ (i + suc (length w) ≡ suc S) → Enough S (suc i) w r
      next (inl e) = inl e
      next (inr e) = inr (omega (arith, e))
  run_more {i = i} r m l o (expands {M = M} {p = p} {γ = γ} {xs = xs} {w = w} x q n h) =
      let y : Predicts G M (ahead (w ++ r)) p = rw (same_ahead S i w r (omega arith) o) x in
      expands y q n (run_more r (omega (arith, length-append γ xs)) n o h)
  run_more {i = i} r m l o (crowded {M = M} {p = p} {w = w} x q n) =
      let y : Predicts G M (ahead (w ++ r)) p = rw (same_ahead S i w r (omega arith) o) x in
      crowded y q n
  run_more {i = i} r m l o (stuck {xs = xs} {w = w} x e) =
      let y : Expects G xs (ahead (w ++ r)) → ⊥ = rw (same_ahead S i w r (omega arith) o) x in
      stuck y e

  -- an accepted sentence has no more tokens than slots
  few_tokens : {xs : List ℕ} {u : List Token} {c i : ℕ} {v : Verdict} (n : ℕ) → i + length xs ≤ c → c ≤ S → v ≡ accepted n → Runs G S xs u c i v → i + length u ≤ S
  few_tokens n m l e accepts = omega arith
  few_tokens n m l e (matches t q h) = omega (arith, few_tokens n (omega arith) l e h)
  few_tokens n m l e (expands {γ = γ} {xs = xs} x q o h) = few_tokens n (omega (arith, length-append γ xs)) o e h
  few_tokens n m l e (crowded x q o) = never (cc)
  few_tokens n m l e (stuck x o) = never (cc)

  pub accepted_few : (w : List Token) (n : ℕ) → 1 ≤ S → Parses G S w (accepted n) → length w ≤ S
  accepted_few w n l h = omega (arith, few_tokens n (omega arith) l refl h)

  -- the first S + 1 tokens have the verdict of the whole sentence
  pub cut_run : (w : List Token) (v : Verdict) → 1 ≤ S → Parses G S (take (suc S) w) v → Parses G S w v
  cut_run w v l h =
      let o : Enough S 0 (take (suc S) w) (drop (suc S) w) =
      by_cases (dec_lt S (length w)) (λ m. inr (omega (arith, length-take-le (suc S) w m))) (λ m. inl (drop_of_length-le w {i = suc S} (omega arith)))
      in
      subst (λ (u : List Token). Parses G S u v) (take-append-drop (suc S) w) (run_more (drop (suc S) w) (omega arith) l o h)

  -- and an accepted sentence is those alone
  pub cut_accepted : (w : List Token) (n : ℕ) → 1 ≤ S → Parses G S (take (suc S) w) (accepted n) → take (suc S) w ≡ w
  cut_accepted w n l h = take_all (suc S) w (omega (arith, accepted_few w n l (cut_run w (accepted n) l h)))
