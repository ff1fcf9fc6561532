-- The rules of the grammar in rows, and the rows that they stand in.
use Rattle.std.specs.Prelude.{◌≡◌, refl, ℕ, zero, suc, ◌+◌, ◌<◌, List}
use Rattle.std.proofs.Math.Path.{ap}
use Rattle.std.proofs.Math.Option.{some}
use native.Mathlib.Omega.{arith}
use Rattle.base.specs.Choose.{never}
use Rattle.grammar.specs.Grammar.{Production, numbered, Rule}
use Rattle.grammar.specs.Rows.{left_at, length_at, symbols_from, production_at, productions_from, grammar_in}
use Rattle.grammar.specs.declared.Head.{Head}

-- the body of the production in row p
abbrev pub body_at : List ℕ → ℕ → List ℕ
body_at rows p = symbols_from rows p (length_at rows p) 0

numbered_from : (rows : List ℕ) (k p i : ℕ) → i < k → numbered (productions_from rows k p) (suc i) ≡ some (production_at rows (p + i))
numbered_from rows zero p i l = absurd (omega arith)
numbered_from rows (suc k) p zero l = let q : p + 0 ≡ p = omega arith in rw q
numbered_from rows (suc k) p (suc i) l = let q : p + suc i ≡ p + 1 + i = omega arith in rw q (numbered_from rows k (p + 1) i (omega arith))

numbered_found : (rows : List ℕ) (k p i : ℕ) {P : Production} → numbered (productions_from rows k p) i ≡ some P
    → (j : ℕ) × (i ≡ suc j) × (j < k) × (P ≡ production_at rows (p + j))
numbered_found rows zero p i e = never (cc)
numbered_found rows (suc k) p zero e = never (cc)
numbered_found rows (suc k) p (suc zero) {P} e =
    let z : p + 0 ≡ p = omega arith in
    let y : P ≡ production_at rows p = cc in
    (0, refl, omega arith, rw z y)
numbered_found rows (suc k) p (suc (suc i)) {P} e =
    let h = numbered_found rows k (p + 1) (suc i) e in
    let z : p + suc h.0 ≡ p + 1 + h.0 = omega arith in
    (suc h.0, ap suc h.1, omega (arith, h.2), rw z h.3)

-- the row of a rule
pub record RowOf (rows : List ℕ) (count p M : ℕ) (γ : List ℕ) : Type 0 where
  pub row : ℕ
  pub number : p ≡ suc row
  pub low : row < count
  pub left : M ≡ left_at rows row
  pub body : γ ≡ body_at rows row

module _ (rows : List ℕ) (head : Head) where
  pub rule_at : (p : ℕ) → p < head.count → Rule (grammar_in rows head) (suc p) (left_at rows p) (body_at rows p)
  unfolding grammar_in
  rule_at p l = let z : 0 + p ≡ p = omega arith in record { found = rw z at (numbered_from rows head.count 0 p l) }

  pub rule_row : {p M : ℕ} {γ : List ℕ} → Rule (grammar_in rows head) p M γ → RowOf rows head.count p M γ
  unfolding grammar_in
  rule_row {p} r =
      let h = numbered_found rows head.count 0 p r.found in
      let z : 0 + h.0 ≡ h.0 = omega arith in
      let e = rw z at h.3 in
      record { row = h.0; number = h.1; low = h.2; left = ap (λ (P : Production). P.left) e; body = ap (λ (P : Production). P.body) e }
