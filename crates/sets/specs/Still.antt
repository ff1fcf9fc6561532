-- A sweep over the productions that changes no word: then no production has anything to add.
use Prim.Native.Nat.{ℕ, zero, suc, ◌+◌, ◌<◌}
use Rattle.std.specs.Prelude.{◌≡◌, refl, Bool, length, get_or}
use Rattle.std.proofs.Common.{ap}
use Rattle.std.proofs.Math.Bool.{true, false}
use Rattle.std.proofs.Math.Logic.{by_cases}
use mathlib.Core.List.{List, [], ◌∷◌}
use Rattle.std.proofs.Math.Decide.{ℕ_discrete}
use native.Mathlib.Omega.{arith}
use Rattle.base.specs.Choose.{choose}
use Rattle.grammar.specs.Each.{Each}
use Rattle.grammar.specs.Rows.{symbol_space, left_at, length_at, symbols_from, symbols_small, left_small}
use Rattle.sets.specs.Growth.{Sub, Within, within_refl, within_trans, within_raised, raised_still, still_both}
use Rattle.sets.specs.Words.{follows, marks, sets_size, leads, suffix, made, raised, high, stepped, Pass, turn, passed, closing, produced, produced_at, turned, swept}

-- ---- what a body has to add is there

-- of each symbol of a body of m: what may follow it, and whether it is reachable
pub data Behind (s : List ℕ) (m : ℕ) : List ℕ → Type 0 where
  nil : Behind s m []
  cons : {x : ℕ} {xs : List ℕ} → Sub (leads (suffix s xs) (get_or s (follows + m) 0)) (get_or s (follows + x) 0)
      → Sub (high (get_or s (marks + m) 0)) (get_or s (marks + x) 0) → Behind s m xs → Behind s m (x ∷ xs)

pub record Closed (s : List ℕ) (m : ℕ) (γ : List ℕ) : Type 0 where
  pub behind : Behind s m γ
  pub first : Sub (suffix s γ) (get_or s m 0)
  pub makes : Sub (made s γ) (get_or s (marks + m) 0)

-- ---- words only grow

within_stepped : (m x tail : ℕ) (s : List ℕ) → Within s (stepped m x tail s)
unfolding stepped
within_stepped m x tail s = within_trans (within_raised s _ _) (within_raised _ _ _)

within_passed : (m : ℕ) (xs s : List ℕ) → Within s (passed m xs s).sets
unfolding passed turn
within_passed m [] s = within_refl s
within_passed m (x ∷ xs) s = within_trans (within_passed m xs s) (within_stepped m x _ _)

within_closing : (m : ℕ) (w : Pass) → Within w.sets (closing m w)
unfolding closing
within_closing m w = within_trans (within_raised w.sets _ _) (within_raised _ _ _)

within_produced : (m : ℕ) (xs s : List ℕ) → Within s (produced m xs s)
unfolding produced
within_produced m xs s = within_trans (within_passed m xs s) (within_closing m (passed m xs s))

pub within_swept : (rows : List ℕ) (back : Bool) (count k : ℕ) (s : List ℕ) → Within s (swept rows back count k s)
unfolding swept produced_at
within_swept rows back count zero s = within_refl s
within_swept rows back count (suc k) s = within_trans (within_swept rows back count k s) (within_produced _ _ _)

-- ---- nothing changed

-- a pass that changed nothing
record StillPass (s : List ℕ) (m : ℕ) (w : Pass) (xs : List ℕ) : Type 0 where
  tail : w.tail ≡ suffix s xs
  made : w.made ≡ made s xs
  behind : Behind s m xs

module _ {s : List ℕ} (long : length s ≡ sets_size) {m : ℕ} (low : m < symbol_space) where
  -- two words are raised, and both stay
  two_still : (i j u v : ℕ) → i < sets_size → j < sets_size → raised (raised s i u) j v ≡ s → Sub u (get_or s i 0) × Sub v (get_or s j 0)
  two_still i j u v li lj e =
      let q = still_both (within_raised s i u) (within_raised (raised s i u) j v) e in
      let w : Sub v (get_or (raised s i u) j 0) = raised_still (raised s i u) j v (omega (arith, ap length q.0)) q.1 in
      (raised_still s i u (omega arith) q.0, rw q.0 at w)

  still_passed : (xs : List ℕ) → Each (λ x. x < symbol_space) xs → (passed m xs s).sets ≡ s → StillPass s m (passed m xs s) xs
  unfolding passed turn suffix made stepped
  still_passed [] l e = record { tail = refl; made = refl; behind = Behind.nil }
  still_passed (x ∷ xs) (Each.cons l ls) e =
      let q = still_both (within_passed m xs s) (within_stepped m x (passed m xs s).tail (passed m xs s).sets) e in
      go q.0 (still_passed xs ls q.0) q.1
    where
      go : (passed m xs s).sets ≡ s → StillPass s m (passed m xs s) xs → stepped m x (passed m xs s).tail (passed m xs s).sets ≡ (passed m xs s).sets
          → StillPass s m (turn m x (passed m xs s)) (x ∷ xs)
      go z h k =
          let b : stepped m x (suffix s xs) s ≡ s = rw (z, h.tail) at k in
          let t = two_still (follows + x) (marks + x) _ _ (omega arith) (omega arith) b in
          record {
            tail = rw (z, h.tail);
            made = rw (z, h.made);
            behind = Behind.cons t.0 t.1 h.behind;
          }

  pub still_produced : (xs : List ℕ) → Each (λ x. x < symbol_space) xs → produced m xs s ≡ s → Closed s m xs
  unfolding produced closing
  still_produced xs l e =
      let q = still_both (within_passed m xs s) (within_closing m (passed m xs s)) e in
      let h = still_passed xs l q.0 in
      let b : raised (raised s m (suffix s xs)) (marks + m) (made s xs) ≡ s = rw (q.0, h.tail, h.made) at q.1 in
      let t = two_still m (marks + m) _ _ (omega arith) (omega arith) b in
      record { behind = h.behind; first = t.0; makes = t.1 }

-- ---- a sweep

module _ (rows : List ℕ) (back : Bool) (count : ℕ) where
  -- every production has its turn
  turned_back : (p : ℕ) → p < count → (turned back count p < count) × (turned back count (turned back count p) ≡ p)
  unfolding turned choose
  turned_back p l = go back
    where
      go : (b : Bool) → (turned b count p < count) × (turned b count (turned b count p) ≡ p)
      go true = (omega arith, omega arith)
      go false = (l, refl)

  pub turned_low : (p : ℕ) → p < count → turned back count p < count
  turned_low p l = (turned_back p l).0

  still_swept : (k : ℕ) (s : List ℕ) → swept rows back count k s ≡ s → (j : ℕ) → j < k → produced_at rows (turned back count j) s ≡ s
  unfolding swept produced_at
  still_swept zero s e j l = absurd (omega arith)
  still_swept (suc k) s e j l =
      let q = still_both (within_swept rows back count k s) (within_produced _ _ _) e in
      by_cases (ℕ_discrete j k)
      (λ z. rw z (rw q.0 at q.1))
      (λ z. still_swept k s q.0 j (omega arith))

  pub closed_swept : (s : List ℕ) → length s ≡ sets_size → swept rows back count count s ≡ s → (p : ℕ) → p < count
      → Closed s (left_at rows p) (symbols_from rows p (length_at rows p) 0)
  unfolding produced_at
  closed_swept s long e p l =
      let q = turned_back p l in
      let h : produced_at rows p s ≡ s = rw q.1 at (still_swept count s e (turned back count p) q.0) in
      still_produced long (left_small rows p) (symbols_from rows p (length_at rows p) 0) (symbols_small rows p (length_at rows p) 0) h
