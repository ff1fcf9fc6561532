-- The cells that have a step, listed once, and a row that is written at these cells only.
use Rattle.std.specs.Prelude.{ℕ, ◌+◌, ◌*◌, ◌≤◌, ◌<◌, ◌≡◌, refl, List, length, get_or, set}
use Rattle.std.proofs.Common.{sym, ap, ◌∙◌, length-set, get_or-set_same, get_or-set_other, arith}
use Rattle.std.proofs.Math.Logic.{by_cases}
use Rattle.std.proofs.Math.Decide.{ℕ_discrete}
use Rattle.grammar.specs.Limits.{max_nonterminals, columns}
use Rattle.tables.specs.Tables.{predictions_size}
use Rattle.tables.specs.Cells.{step_at}
use Rattle.tables.specs.Grid.{Grid}

-- cell i stands in the first c columns of n rows, and has a step
pub record Alive (steps : List ℕ) (n c i : ℕ) : Type 0 where
  pub row : ℕ
  pub at : ℕ
  pub is : i ≡ row * columns + at
  pub low : row < n
  pub small : at < c
  pub some : step_at steps i ≡ 0 → ⊥

-- i is one of the first k
pub record Among (live : List ℕ) (k i : ℕ) : Type 0 where
  pub place : ℕ
  pub low : place < k
  pub is : get_or live place 0 ≡ i

-- the cells with a step before column b of row q are the first k
pub record Live (steps : List ℕ) (n c q b : ℕ) (live : List ℕ) (k : ℕ) : Type 0 where
  pub few : k ≤ q * columns + b
  pub cell : (j : ℕ) → j < k → Alive steps n c (get_or live j 0)
  pub done : (Q a : ℕ) → Q < q → a < c → (step_at steps (Q * columns + a) ≡ 0 → ⊥) → Among live k (Q * columns + a)
  pub part : (a : ℕ) → a < b → (step_at steps (q * columns + a) ≡ 0 → ⊥) → Among live k (q * columns + a)

module _ (steps : List ℕ) (n c : ℕ) where
  among_more : (live : List ℕ) (k i v : ℕ) → Among live k i → Among (set live k v) (k + 1) i
  among_more live k i v h = record { place = h.place; low = omega (arith, h.low); is = get_or-set_other live k h.place v 0 (omega (arith, h.low)) ∙ h.is }

  -- the next cell has no step, or is put behind the first k
  pub live_passed : (q b : ℕ) (live : List ℕ) (k : ℕ) → step_at steps (q * columns + b) ≡ 0 → Live steps n c q b live k → Live steps n c q (b + 1) live k
  live_passed q b live k z h =
      record {
        few = omega (arith, h.few);
        cell = h.cell;
        done = h.done;
        part = λ a l f. by_cases (ℕ_discrete a b) (λ e. absurd (f (ap (λ (x : ℕ). step_at steps (q * columns + x)) e ∙ z))) (λ e. h.part a (omega arith) f);
      }

  pub live_noted : (q b : ℕ) (live : List ℕ) (k : ℕ) → q < n → b < c → k < length live → (step_at steps (q * columns + b) ≡ 0 → ⊥) → Live steps n c q b live k
      → Live steps n c q (b + 1) (set live k (q * columns + b)) (k + 1)
  live_noted q b live k lq lb lk z h =
      let i : ℕ = q * columns + b in
      record {
        few = omega (arith, h.few);
        cell = λ j l. by_cases (ℕ_discrete j k)
            (λ e. rw (e, get_or-set_same live k i 0 lk) (record { row = q; at = b; is = refl; low = lq; small = lb; some = z }))
            (λ e. rw (get_or-set_other live k j i 0 e) (h.cell j (omega arith)));
        done = λ Q a l m f. among_more live k (Q * columns + a) i (h.done Q a l m f);
        part = λ a l f. by_cases (ℕ_discrete a b)
            (λ e. record { place = k; low = omega arith; is = get_or-set_same live k i 0 lk ∙ ap (λ (x : ℕ). q * columns + x) (sym e) })
            (λ e. among_more live k (q * columns + a) i (h.part a (omega arith) f));
      }

  pub live_row : (q : ℕ) (live : List ℕ) (k : ℕ) → c ≤ columns → Live steps n c q c live k → Live steps n c (q + 1) 0 live k
  live_row q live k l h =
      record {
        few = omega (arith, h.few);
        cell = h.cell;
        done = λ Q a x y f. by_cases (ℕ_discrete Q q)
            (λ e. rw e (h.part a y (rw e at f)))
            (λ e. h.done Q a (omega arith) y f);
        part = λ a x. absurd (omega arith);
      }

  pub live_below : (live : List ℕ) (k j : ℕ) → n ≤ max_nonterminals → c ≤ columns → j < k → Live steps n c n 0 live k → get_or live j 0 < predictions_size
  live_below live k j l m x h = let p = h.cell j x in omega (arith, p.is, p.low, p.small)

-- ---- a row written at these cells

-- the first j of the cells hold f; w' is else as w was
pub record Dotted (f : ℕ → ℕ) (live : List ℕ) (j : ℕ) (w w' : List ℕ) : Type 0 where
  pub long : length w' ≡ length w
  pub done : (i : ℕ) → i < j → get_or w' (get_or live i 0) 0 ≡ f (get_or live i 0)
  pub kept : (x : ℕ) → ((i : ℕ) → i < j → x ≡ get_or live i 0 → ⊥) → get_or w' x 0 ≡ get_or w x 0

-- a row that is 0 where there is no step
pub record Quiet (steps : List ℕ) (n c : ℕ) (row : List ℕ) : Type 0 where
  pub dark : (Q a : ℕ) → Q < n → a < c → step_at steps (Q * columns + a) ≡ 0 → get_or row (Q * columns + a) 0 ≡ 0

module _ (f : ℕ → ℕ) (live w : List ℕ) where
  pub dotted_more : (w' : List ℕ) (j i v : ℕ) → i ≡ get_or live j 0 → i < length w' → v ≡ f i → Dotted f live j w w' → Dotted f live (j + 1) w (set w' i v)
  dotted_more w' j i v e l ev h =
      record {
        long = simp length-set h.long;
        done = λ x m. by_cases (ℕ_discrete (get_or live x 0) i)
            (λ q. rw (q, get_or-set_same w' i v 0 l) ev)
            (λ q. get_or-set_other w' i (get_or live x 0) v 0 q ∙ by_cases (ℕ_discrete x j) (λ z. absurd (q (rw z (sym e)))) (λ z. h.done x (omega arith)));
        kept = λ x g. get_or-set_other w' i x v 0 (λ q. g j (omega arith) (q ∙ e)) ∙ h.kept x (λ y m. g y (omega arith));
      }

pub dotted_grid : (f : ℕ → ℕ) (steps : List ℕ) (n c : ℕ) (live : List ℕ) (k j : ℕ) (w w' : List ℕ) → ((i : ℕ) → step_at steps i ≡ 0 → f i ≡ 0) → k ≤ j → j ≤ k
    → Live steps n c n 0 live k → Quiet steps n c w → Dotted f live j w w' → Grid 0 f c n n 0 w w'
dotted_grid f steps n c live k j w w' zero_at l m h u d =
    record {
      long = d.long;
      done = λ Q a x y. by_cases (ℕ_discrete (step_at steps (Q * columns + a)) 0)
          (λ e. d.kept (Q * columns + a) (λ i q r. (h.cell i (omega arith)).some (rw (← r) e)) ∙ u.dark Q a x y e ∙ sym (zero_at (Q * columns + a) e))
          (λ e. let p = h.done Q a x y e in rw p.is at (d.done p.place (omega (arith, p.low))));
      row = λ a x. absurd (omega arith);
      kept = λ i g. d.kept i (λ x q r. let p = h.cell x (omega arith) in g p.row p.at p.low p.small (omega (arith, r, p.is)));
    }
