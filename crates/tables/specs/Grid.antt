-- Tables written row by row, the first c columns of each: one column for each lookahead that the grammar has.
use Rattle.std.specs.Prelude.{ℕ, ◌+◌, ◌*◌, ◌≤◌, ◌<◌, ◌≡◌, List, length, get_or, set}
use Rattle.std.proofs.Common.{sym, ap, ◌∙◌, length-set, get_or-set_same, get_or-set_other, arith}
use Rattle.std.proofs.Math.Logic.{by_cases}
use Rattle.std.proofs.Math.Decide.{ℕ_discrete}
use Rattle.grammar.specs.Limits.{columns}

-- of n rows, the cells before column b of row q hold f, row after row; w' is else as w was; d is read beyond the end
pub record Grid {T : Type 0} (d : T) (f : ℕ → T) (c n q b : ℕ) (w w' : List T) : Type 0 where
  pub long : length w' ≡ length w
  pub done : (Q a : ℕ) → Q < q → a < c → get_or w' (Q * columns + a) d ≡ f (Q * columns + a)
  pub row : (a : ℕ) → a < b → get_or w' (q * columns + a) d ≡ f (q * columns + a)
  pub kept : (i : ℕ) → ((Q a : ℕ) → Q < n → a < c → i ≡ Q * columns + a → ⊥) → get_or w' i d ≡ get_or w i d

module _ {T : Type 0} (d : T) (f : ℕ → T) (c n : ℕ) (w : List T) where
  pub grid_cell : (w' : List T) (q b : ℕ) (v : T) → c ≤ columns → q < n → b < c → q * columns + b < length w' → v ≡ f (q * columns + b)
      → Grid d f c n q b w w' → Grid d f c n q (b + 1) w (set w' (q * columns + b) v)
  grid_cell w' q b v k m l li ev h =
      let i : ℕ = q * columns + b in
      record {
        long = simp length-set h.long;
        done = λ Q a x y. get_or-set_other w' i (Q * columns + a) v d (omega arith) ∙ h.done Q a x y;
        row = λ a x. by_cases (ℕ_discrete a b)
            (λ e. ap (λ (j : ℕ). get_or (set w' i v) (q * columns + j) d) e ∙ get_or-set_same w' i v d li ∙ ev ∙ ap (λ (j : ℕ). f (q * columns + j)) (sym e))
            (λ e. get_or-set_other w' i (q * columns + a) v d (omega arith) ∙ h.row a (omega arith));
        kept = λ j g. get_or-set_other w' i j v d (λ e. g q b m l (omega arith)) ∙ h.kept j g;
      }

  -- the row is full
  pub grid_row : (w' : List T) (q : ℕ) → Grid d f c n q c w w' → Grid d f c n (q + 1) 0 w w'
  grid_row w' q h =
      record {
        long = h.long;
        done = λ Q a x y. by_cases (ℕ_discrete Q q)
            (λ e. ap (λ (j : ℕ). get_or w' (j * columns + a) d) e ∙ h.row a y ∙ ap (λ (j : ℕ). f (j * columns + a)) (sym e))
            (λ e. h.done Q a (omega arith) y);
        row = λ a x. absurd (omega arith);
        kept = h.kept;
      }
