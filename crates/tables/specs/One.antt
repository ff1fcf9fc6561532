-- Only one list of bytes is the tables of a prepared grammar.
use Rattle.std.specs.Prelude.{ℕ, ◌+◌, ◌-◌, ◌*◌, ◌/◌, ◌%◌, ◌<◌, ◌≡◌, refl, get_or}
use Rattle.std.proofs.Common.{sym, ◌∙◌, ext_get_or, arith}
use Rattle.std.proofs.Math.Logic.{by_cases}
use mathlib.Core.List.{List, [], ◌∷◌, ◌++◌, Memᴰ}
use Rattle.std.proofs.Math.Decide.{dec_lt}
use Rattle.grammar.specs.Limits.{columns}
use Rattle.grammar.specs.Grammar.{Grammar}
use Rattle.grammar.specs.Prediction.{Highest, Break, not_first, both_first, may_vanish, no_break_lem, Prepared}
use Rattle.grammar.specs.Single.{ll1_one}
use Rattle.tables.specs.Tables.{table_rows, predictions_size, breaks_size, prediction_place, break_place, Prediction, some, none, Tables}
use Rattle.predictions.specs.Stems.{stem_one}

-- the highest shared symbol is one only
pub highest_one : {x x' : ℕ} {s s' : List ℕ} → Highest x s s' → Highest x' s s' → x ≡ x'
highest_one {x} {x'} {s} {s'} h k = go h.above k.above h.below k.below (sym h.is ∙ k.is) h.first k.first h.shared k.shared
  where
    go : (u v b c : List ℕ) → u ++ x ∷ b ≡ v ++ x' ∷ c → ((y : ℕ) → Memᴰ y u → Memᴰ y s' → ⊥) → ((y : ℕ) → Memᴰ y v → Memᴰ y s' → ⊥)
        → Memᴰ x s' → Memᴰ x' s' → x ≡ x'
    go [] [] b c e f g m n = cc
    go [] (z ∷ v) b c e f g m n = let q : x ≡ z = cc in absurd (g x (Memᴰ.head q) m)
    go (z ∷ u) [] b c e f g m n = let q : z ≡ x' = cc in absurd (f x' (Memᴰ.head (sym q)) n)
    go (z ∷ u) (w ∷ v) b c e f g m n = go u v b c (cc) (λ y i. f y (Memᴰ.tail i)) (λ y i. g y (Memᴰ.tail i)) m n

module _ {G : Grammar} (ok : Prepared G) where
  pub prediction_one : {M a v v' : ℕ} → Prediction G M a v → Prediction G M a v' → v ≡ v'
  prediction_one (some p) (some q) = ll1_one ok.ll1 p q
  prediction_one (some {p = p} h) (none n) = absurd (n p h)
  prediction_one (none n) (some {p = p} h) = absurd (n p h)
  prediction_one (none n) (none m) = refl

  pub break_one : {M N a v v' : ℕ} → Break G M N a v → Break G M N a v' → v ≡ v'
  break_one (not_first h) (not_first k) = refl
  break_one (not_first h) (both_first f g s s' x) = absurd (h f)
  break_one (not_first h) (may_vanish f n v c) = absurd (h f)
  break_one (not_first h) (no_break_lem f n c) = absurd (h f)
  break_one (both_first f g s s' x) (not_first k) = absurd (k f)
  break_one (both_first f g s s' x) (both_first f' g' u u' y) = highest_one (rw (stem_one ok s u, stem_one ok s' u') at x) y
  break_one (both_first f g s s' x) (may_vanish f' n v c) = absurd (n g)
  break_one (both_first f g s s' x) (no_break_lem f' n c) = absurd (n g)
  break_one (may_vanish f n v c) (not_first k) = absurd (k f)
  break_one (may_vanish f n v c) (both_first f' g s s' x) = absurd (n g)
  break_one (may_vanish f n v c) (may_vanish f' n' v' c') = refl
  break_one (may_vanish f n v c) (no_break_lem f' n' c') = absurd (c' v c)
  break_one (no_break_lem f n c) (not_first k) = absurd (k f)
  break_one (no_break_lem f n c) (both_first f' g s s' x) = absurd (n g)
  break_one (no_break_lem f n c) (may_vanish f' n' v' c') = absurd (c v' c')
  break_one (no_break_lem f n c) (no_break_lem f' n' c') = refl

  module _ {w w' : List ℕ} (u : Tables G w) (u' : Tables G w') where
    front : (i : ℕ) → i < predictions_size → get_or w i 0 ≡ get_or w' i 0
    front i l =
        let q : prediction_place (i / columns) (i % columns) ≡ i = omega arith in
        let z = prediction_one (u.prediction (i / columns) (i % columns) (omega arith) (omega arith)) (u'.prediction (i / columns) (i % columns) (omega arith) (omega arith)) in
        rw q at z

    back : (i : ℕ) → i < breaks_size → get_or w (predictions_size + i) 0 ≡ get_or w' (predictions_size + i) 0
    back i l =
        let R : ℕ = i / (table_rows * columns) in
        let Q : ℕ = i / columns % table_rows in
        let a : ℕ = i % columns in
        let q : break_place R Q a ≡ i = omega arith in
        let same : get_or w (predictions_size + break_place R Q a) 0 ≡ get_or w' (predictions_size + break_place R Q a) 0 =
        by_cases (dec_lt R G.n)
        (λ x. by_cases (dec_lt Q G.n) (λ y. break_one (u.break R Q a x y (omega arith)) (u'.break R Q a x y (omega arith)))
        (λ y. u.other R Q a (omega arith) (omega arith) (omega arith) (λ _ z. y z) ∙ sym (u'.other R Q a (omega arith) (omega arith) (omega arith) (λ _ z. y z))))
        (λ x. u.other R Q a (omega arith) (omega arith) (omega arith) (λ z _. x z) ∙ sym (u'.other R Q a (omega arith) (omega arith) (omega arith) (λ z _. x z)))
        in
        rw q at same

    pub tables_one : w ≡ w'
    tables_one =
        ext_get_or 0 w w' (u.size ∙ sym u'.size)
        (λ i m. by_cases (dec_lt i predictions_size) (λ x. front i x)
        (λ x. let q : predictions_size + (i - predictions_size) ≡ i = omega arith in rw q at (back (i - predictions_size) (omega (arith, u.size)))))
