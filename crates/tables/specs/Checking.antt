-- Bytes held against the break points that they imply, row by row: each row is written by itself and compared.
use Rattle.std.specs.Prelude.{ℕ, ◌+◌, ◌-◌, ◌*◌, ◌/◌, ◌%◌, ◌≤◌, ◌<◌, ◌≡◌, Bool, true, false, List, length, get_or, take, drop}
use Rattle.std.proofs.Common.{sym, ap, ◌∙◌, length-drop, ext_get_or, get_or-drop, get_or-take, length-take-le, arith}
use Rattle.std.specs.Prelude.{Option, Some, None, IsTrue, MatchBool, IfSome, IsSomeAnd, option_map}
use Rattle.std.specs.List.{IsSubsliceAt}
use Rattle.std.specs.Iterator.Runs.{Run, AllItems, AnyItem, ItemsMapToExactChunks}
use denote.Ref.{Bor}
use Rattle.std.proofs.Math.Logic.{by_cases}
use Rattle.std.proofs.Math.Decide.{ℕ_discrete, dec_lt}
use Rattle.base.specs.Tells.{Tells, tells_yes, tells_no}
use Rattle.base.specs.Choose.{never}
use Rattle.base.specs.Blocks.{zeros, byte_zeros, length_zeros, part_tail}
use Rattle.grammar.specs.Limits.{columns}
use Rattle.tables.specs.Tables.{table_rows, row_size, predictions_size, breaks_size, tables_size, break_place}
use Rattle.tables.specs.Grid.{Grid}
use Rattle.tables.specs.Cells.{implied_of}
use Rattle.tables.specs.Live.{Quiet}
use Rattle.tables.specs.Writing.{Broken, Laid, implied_none, part, part_byte, part_long}

-- a row that is 0 but where entries may stand
pub record Blank (n c : ℕ) (row : List ℕ) : Type 0 where
  pub long : length row ≡ row_size
  pub other : (Q a : ℕ) → Q < table_rows → a < columns → (Q < n → a < c → ⊥) → get_or row (Q * columns + a) 0 ≡ 0

-- ---- whether all rows are 0

-- a run over the rows of b, and what a test said of each
module _ {S : Type 0} {steps : S → Option (Bor (List ℕ)) → S → Type 0} (p : Run steps) (b : Bor (List ℕ)) {K : Type 0} {Yes No : Bor (List ℕ) → Type 0}
    (even : length b.now % row_size ≡ 0) (rows : ItemsMapToExactChunks p (λ x. x.now) row_size b.now)
    (kept : K) (yes : (x : Bor (List ℕ)) → Yes x → x.now ≡ zeros (length x.now)) (no : (x : Bor (List ℕ)) → No x → x.now ≡ zeros (length x.now) → ⊥) where
  abbrev Row : ℕ → Bor (List ℕ) → Type 0
  Row k x = (length x.now ≡ row_size) × (k * row_size + row_size ≤ length b.now) × IsSubsliceAt row_size b.now (k * row_size) x.now

  row_zero : (k j : ℕ) (o : Option (Bor (List ℕ))) {v : Bor (List ℕ)} → option_map (λ y. y) o ≡ Some v → IfSome o (Row k) → IfSome o Yes → j < row_size
      → get_or b.now (k * row_size + j) 0 ≡ 0
  row_zero k j None e r y l = never (cc)
  row_zero k j (Some x) e r y l = sym (r.2.2 j 0 l) ∙ ap (λ (u : List ℕ). get_or u j 0) (yes x y) ∙ byte_zeros (length x.now) j

  row_not : (k : ℕ) (o : Option (Bor (List ℕ))) → IfSome o (Row k) → IsSomeAnd o No → b.now ≡ zeros (length b.now) → ⊥
  row_not k None r y z = y
  row_not k (Some x) r y z = no x y (ext_get_or 0 x.now (zeros (length x.now)) (sym (length_zeros (length x.now))) (λ j l.
      r.2.2 j 0 (omega (arith, r.0)) ∙ ap (λ (u : List ℕ). get_or u (k * row_size + j) 0) z ∙ byte_zeros (length b.now) (k * row_size + j)
      ∙ sym (byte_zeros (length x.now) j)))

  pub zeros_by_rows : (r : Bool) → MatchBool r (IsTrue p.whole × (K → AllItems p Yes)) (K → AnyItem p No) → Tells (b.now ≡ zeros (length b.now)) r
  zeros_by_rows true h = tells_yes (ext_get_or 0 b.now (zeros (length b.now)) (sym (length_zeros (length b.now))) (λ i l.
      let k : ℕ = i / row_size in
      let j : ℕ = i % row_size in
      let e : k * row_size + j ≡ i = omega arith in
      let z : get_or b.now (k * row_size + j) 0 ≡ 0 = row_zero k j (p.at k) (p.reads k b (omega (arith, rows.1 h.0))) (rows.2 k) (h.1 kept k) (omega arith) in
      (rw e at z) ∙ sym (byte_zeros (length b.now) i)))
  zeros_by_rows false h = let a = h kept in tells_no (row_not a.0 (p.at a.0) (rows.2 a.0) a.2)

-- the rows below r are right
pub record Held (f : ℕ → ℕ → ℕ) (n c r : ℕ) (w : List ℕ) : Type 0 where
  pub done : (R Q a : ℕ) → R < r → Q < n → a < c → get_or w (break_place R Q a) 0 ≡ f R (Q * columns + a)
  pub other : (R Q a : ℕ) → R < r → Q < table_rows → a < columns → (Q < n → a < c → ⊥) → get_or w (break_place R Q a) 0 ≡ 0

pub blank_zeros : (n c : ℕ) (row : List ℕ) (m : ℕ) → m ≡ row_size → row ≡ zeros m → Blank n c row
blank_zeros n c row m l e = record { long = ap length e ∙ length_zeros m ∙ l; other = λ Q a x y h. ap (λ (u : List ℕ). get_or u (Q * columns + a) 0) e ∙ byte_zeros m (Q * columns + a) }

pub blank_more : (n c : ℕ) (g : ℕ → ℕ) (row row' : List ℕ) → c ≤ columns → Blank n c row → Grid 0 g c n n 0 row row' → Blank n c row'
blank_more n c g row row' lc h u =
    record {
      long = u.long ∙ h.long;
      other = λ Q a x y k. u.kept (Q * columns + a) (λ Q' a' x' y' e. k (omega arith) (omega arith)) ∙ h.other Q a x y k;
    }

-- where there is no step, the row is 0 throughout
pub quiet_zeros : (steps : List ℕ) (n c : ℕ) (row : List ℕ) (m : ℕ) → row ≡ zeros m → Quiet steps n c row
quiet_zeros steps n c row m e = record { dark = λ Q a x y z. ap (λ (u : List ℕ). get_or u (Q * columns + a) 0) e ∙ byte_zeros m (Q * columns + a) }

pub quiet_more : (s steps : List ℕ) (t : ℕ) (w : List ℕ) (r n c : ℕ) (row row' : List ℕ) → Grid 0 (implied_of s steps t w r) c n n 0 row row' → Quiet steps n c row'
quiet_more s steps t w r n c row row' u = record { dark = λ Q a x y z. u.done Q a x y ∙ sym (implied_none s steps t w r (Q * columns + a) z) }

module _ (f : ℕ → ℕ → ℕ) (n c : ℕ) where
  pub held_none : (w : List ℕ) → Held f n c 0 w
  held_none w = record { done = λ R Q a x. absurd (omega arith); other = λ R Q a x. absurd (omega arith) }

  module _ (w row row' : List ℕ) (r : ℕ) (long : length w ≡ breaks_size) (ln : n ≤ table_rows) (lc : c ≤ columns) (lr : r < n)
      (blank : Blank n c row) (u : Grid 0 (f r) c n n 0 row row') where
    row_done : (Q a : ℕ) → Q < n → a < c → get_or row' (Q * columns + a) 0 ≡ f r (Q * columns + a)
    row_done Q a x y = u.done Q a x y

    row_other : (Q a : ℕ) → Q < table_rows → a < columns → (Q < n → a < c → ⊥) → get_or row' (Q * columns + a) 0 ≡ 0
    row_other = (blank_more n c (f r) row row' lc blank u).other

    pub held_more : part r w ≡ row' → Held f n c r w → Held f n c (r + 1) w
    held_more e h =
        record {
          done = λ R Q a x y z. by_cases (ℕ_discrete R r)
              (λ q. ap (λ (i : ℕ). get_or w (break_place i Q a) 0) q ∙ sym (part_byte r w Q a (omega arith) (omega arith)) ∙ ap (λ (v : List ℕ). get_or v (Q * columns + a) 0) e
              ∙ row_done Q a y z ∙ ap (λ (i : ℕ). f i (Q * columns + a)) (sym q))
              (λ q. h.done R Q a (omega arith) y z);
          other = λ R Q a x y z g. by_cases (ℕ_discrete R r)
              (λ q. ap (λ (i : ℕ). get_or w (break_place i Q a) 0) q ∙ sym (part_byte r w Q a y z) ∙ ap (λ (v : List ℕ). get_or v (Q * columns + a) 0) e ∙ row_other Q a y z g)
              (λ q. h.other R Q a (omega arith) y z g);
        }

    pub held_not : (part r w ≡ row' → ⊥) → Tells (Broken f n c n w) false
    held_not differs = tells_no (λ h. differs (ext_get_or 0 (part r w) row' (part_long r w (omega arith) long ∙ sym (u.long ∙ blank.long)) (λ i l.
        let Q : ℕ = i / columns in
        let a : ℕ = i % columns in
        let z : Q * columns + a ≡ i = omega arith in
        let x : Q < table_rows = omega (arith, part_long r w (omega arith) long) in
        let y : a < columns = omega arith in
        let same : get_or (part r w) (Q * columns + a) 0 ≡ get_or row' (Q * columns + a) 0 =
        part_byte r w Q a x y ∙ by_cases (dec_lt Q n)
        (λ p. by_cases (dec_lt a c) (λ q. h.done r Q a lr p q ∙ sym (row_done Q a p q))
        (λ q. h.other r Q a (omega arith) x y (λ _ _. q) ∙ sym (row_other Q a x y (λ _. q))))
        (λ p. h.other r Q a (omega arith) x y (λ _ k _. p k) ∙ sym (row_other Q a x y (λ k _. p k)))
        in
        rw z at same)))

  -- the rest is 0; `&w[n * 1024..]` is to the checker as here
  pub held_all : (w : List ℕ) (r m : ℕ) (b : Bool) → length w ≡ breaks_size → n ≤ table_rows → n ≤ r → r ≤ n → Held f n c r w
      → Tells (take (length w - n * row_size) (drop (n * row_size) w) ≡ zeros m) b → m ≡ length w - n * row_size → Tells (Broken f n c n w) b
  held_all w r m b long ln l₁ l₂ h u em =
      let q : r ≡ n = omega arith in
      let k : ℕ = length w - n * row_size in
      let len : length (take k (drop (n * row_size) w)) ≡ k = length-take-le k (drop (n * row_size) w) (omega (arith, length-drop (n * row_size) w)) in
      let at : (i : ℕ) → i < k → get_or (take k (drop (n * row_size) w)) i 0 ≡ get_or w (n * row_size + i) 0 =
      λ i x. get_or-take k (drop (n * row_size) w) i 0 x ∙ get_or-drop (n * row_size) w i 0
      in
      record {
        yes = λ e. record {
          long = long;
          done = λ R Q a x y z. h.done R Q a (omega arith) y z;
          other = λ R Q a x y z g. by_cases (dec_lt R n) (λ p. h.other R Q a (omega arith) y z (g p))
              (λ p. let i : ℕ = break_place R Q a - n * row_size in
              let s : n * row_size + i ≡ break_place R Q a = omega arith in
              ap (λ (j : ℕ). get_or w j 0) (sym s) ∙ sym (at i (omega arith)) ∙ ap (λ (v : List ℕ). get_or v i 0) (u.yes e) ∙ byte_zeros m i);
        };
        no = λ e g. u.no e (ext_get_or 0 (take k (drop (n * row_size) w)) (zeros m) (len ∙ sym em ∙ sym (length_zeros m)) (λ i x.
            let j : ℕ = n * row_size + i in
            let R : ℕ = j / row_size in
            let Q : ℕ = j / columns % table_rows in
            let a : ℕ = j % columns in
            let s : break_place R Q a ≡ j = omega arith in
            at i (omega (arith, len)) ∙ rw s at (g.other R Q a (omega (arith, len)) (omega arith) (omega arith) (λ p. absurd (omega arith))) ∙ sym (byte_zeros m i)));
      }

-- ---- both parts

-- as `&w[1024..]` and `&w[..1024]` are to the checker
pub laid_told : (cells : List ℕ) (s steps : List ℕ) (t n c : ℕ) (w : List ℕ) (b : Bool) → length w ≡ tables_size
    → take predictions_size w ≡ cells
    → Tells (Broken (implied_of s steps t (take (length w - predictions_size) (drop predictions_size w))) n c n (take (length w - predictions_size) (drop predictions_size w))) b
    → Tells (Laid cells (implied_of s steps t (drop predictions_size w)) n c w) b
laid_told cells s steps t n c w b long e u =
    let q : take (length w - predictions_size) (drop predictions_size w) ≡ drop predictions_size w = part_tail w predictions_size in
    let v : Tells (Broken (implied_of s steps t (drop predictions_size w)) n c n (drop predictions_size w)) b = rw q at u in
    record {
      yes = λ z. record {
        long = long;
        front = λ i l. sym (get_or-take predictions_size w i 0 (omega arith)) ∙ ap (λ (x : List ℕ). get_or x i 0) e;
        back = v.yes z;
      };
      no = λ z h. v.no z h.back;
    }

pub laid_not : (cells : List ℕ) (f : ℕ → ℕ → ℕ) (n c : ℕ) (w : List ℕ) → length w ≡ tables_size → length cells ≡ predictions_size
    → (take predictions_size w ≡ cells → ⊥) → Tells (Laid cells f n c w) false
laid_not cells f n c w long lc differs =
    let l : length (take predictions_size w) ≡ predictions_size = length-take-le predictions_size w (omega arith) ∙ omega arith in
    tells_no (λ h. differs (ext_get_or 0 (take predictions_size w) cells (l ∙ sym lc) (λ i m.
    get_or-take predictions_size w i 0 (omega (arith, l)) ∙ h.front i (omega (arith, l)))))
