-- A parse has one verdict.
use Rattle.std.specs.Prelude.{ℕ, ◌+◌, ◌≡◌, refl, List, ◌∷◌, ◌++◌, length}
use Rattle.std.proofs.Common.{ap, subst, arith}
use Rattle.base.specs.Bits.{bits_one}
use Rattle.grammar.specs.Limits.{columns}
use Rattle.grammar.specs.Grammar.{Grammar, Rule, Terminal}
use Rattle.grammar.specs.Rules.{rule_one, rule_left}
use Rattle.grammar.specs.Prediction.{Predicts, Prepared}
use Rattle.grammar.specs.Single.{ll1_one}
use Rattle.grammar.specs.Forest.{Token}
use Rattle.plain.specs.Plain.{Expects, prediction, itself, end, Expected, Verdict, syntax, Runs, accepts, matches, expands, crowded, stuck}

pub expected_one : {G : Grammar} {xs : List ℕ} {e d : ℕ} → Expected G xs e → Expected G xs d → e ≡ d
expected_one {e = e} {d = d} h k =
    bits_one columns e d h.small k.small (λ i _ x. k.all i (h.only i x)) (λ i _ x. h.all i (k.only i x))

module _ {G : Grammar} (g : Prepared G) where
  pub no_rule : {A : Type 0} {M p : ℕ} {γ : List ℕ} → Terminal G M → Rule G p M γ → A
  no_rule t r = absurd (let l = rule_left g.formed r in omega (arith, t.1, l.0))

  same_body : {M a p q : ℕ} {γ δ : List ℕ} → Predicts G M a p → Rule G p M γ → Predicts G M a q → Rule G q M δ → δ ≡ γ
  same_body {M} {γ = γ} x r y s = (rule_one s (subst (λ (q : ℕ). Rule G q M γ) (ll1_one g.ll1 x y) r)).1

  goes : {M a : ℕ} {xs : List ℕ} → Terminal G M → M ≡ a → Expects G (M ∷ xs) a
  goes {M} {xs = xs} t e = subst (λ (a : ℕ). Expects G (M ∷ xs) a) e (itself t)

  pub runs_one : {S : ℕ} {xs : List ℕ} {w : List Token} {c i : ℕ} {v u : Verdict} → Runs G S xs w c i v → Runs G S xs w c i u → v ≡ u
  runs_one accepts accepts = refl
  runs_one accepts (stuck n d) = absurd (n end)
  runs_one (matches t e h) (matches t' e' k) = runs_one h k
  runs_one (matches t e h) (expands x r l k) = no_rule t r
  runs_one (matches t e h) (crowded x r l) = no_rule t r
  runs_one (matches t e h) (stuck n d) = absurd (n (goes t e))
  runs_one (expands x r l h) (matches t e k) = no_rule t r
  runs_one {S = S} {c = c} {i = i} {u = u} (expands {xs = xs} {w = w} x r l h) (expands y s m k) =
      runs_one h (subst (λ (δ : List ℕ). Runs G S (δ ++ xs) w (c + length δ) i u) (same_body x r y s) k)
  runs_one (expands x r l h) (crowded y s m) = absurd (let e = ap length (same_body x r y s) in omega (arith, e, l, m))
  runs_one (expands x r l h) (stuck n d) = absurd (n (prediction x))
  runs_one (crowded x r l) (matches t e k) = no_rule t r
  runs_one (crowded x r l) (expands y s m k) = absurd (let e = ap length (same_body x r y s) in omega (arith, e, l, m))
  runs_one (crowded x r l) (crowded y s m) = refl
  runs_one (crowded x r l) (stuck n d) = absurd (n (prediction x))
  runs_one (stuck n d) accepts = absurd (n end)
  runs_one (stuck n d) (matches t e k) = absurd (n (goes t e))
  runs_one (stuck n d) (expands y s m k) = absurd (n (prediction y))
  runs_one (stuck n d) (crowded y s m) = absurd (n (prediction y))
  runs_one {i = i} (stuck n d) (stuck n' d') = ap (syntax i) (expected_one d d')
