-- The laws that the code's proofs cite: the loops down a body and down a stem, and how the entries fill the tables.
use Prim.Native.Nat.{ℕ, zero, suc, ◌+◌, ◌-◌, ◌*◌, ◌/◌, ◌%◌, ◌^◌, ◌≤◌, ◌<◌}
use Rattle.std.specs.Prelude.{◌≡◌, ◌⊎◌, Bool, List, [], ◌∷◌, ◌++◌, length, take, drop, Some, None, unwrap_or}
use Rattle.std.proofs.Math.Path.{sym, ap}
use Rattle.std.proofs.Common.{◌∙◌, append-nil, length-append, length-drop, length-take-le, drop_of_length-le, take_at, drop_at, get_or-take, get_or-drop}
use Rattle.std.proofs.lemmas.List.{get_or-append_right}
use Rattle.std.proofs.Math.Bool.{true, false}
use Rattle.std.proofs.Math.Logic.{by_cases, inl, inr}
use Rattle.std.proofs.Math.ListN.{get_or, get_or-append}
use Rattle.std.specs.Int.Bits.{bit_or}
use borrow.Author.Tests.{le-leb, lt-leb, eq-eqb, ne_eqb}
use Rattle.std.proofs.Math.Decide.{ℕ_discrete, dec_lt}
use native.Mathlib.Omega.{arith}
use Rattle.base.specs.Bits.{shift_one}
use Rattle.base.specs.Choose.{choose}
use Rattle.grammar.specs.Limits.{columns}
use Rattle.grammar.specs.Rows.{symbol_space, length_at, symbol_at, symbols_from}
use Rattle.grammar.specs.RowRules.{body_at}
use Rattle.predictions.specs.Hits.{hasb}
use Rattle.tables.specs.Tables.{table_rows, row_size, predictions_size, breaks_size, tables_size, break_place}
use Rattle.tables.specs.Grid.{Grid}
use Rattle.grammar.specs.Prediction.{no_break}
use Rattle.sets.specs.Words.{follows}
use Rattle.tables.specs.Cells.{lead, step_of, next, stem_bits, mask_of, shared_from, behind_of, point_of, entry_of, step_at, down_of, meet_of, implied_of}

-- ---- the first symbol that a begins

pub record LeadAt (rows s : List ℕ) (p a j : ℕ) : Type 0 where
  pub is : lead s a (symbols_from rows p (length_at rows p - j) j) ≡ lead s a (body_at rows p)

module _ (rows s : List ℕ) (p a : ℕ) where
  opened : (j : ℕ) → j < length_at rows p → symbols_from rows p (length_at rows p - j) j ≡ symbol_at rows p j ∷ symbols_from rows p (length_at rows p - (j + 1)) (j + 1)
  opened j l = let q : length_at rows p - j ≡ suc (length_at rows p - (j + 1)) = omega arith in rw q

  pub lead_found : (j x : ℕ) (b : Bool) → j < length_at rows p → x ≡ symbol_at rows p j → b ≡ hasb (get_or s x 0) a → b ≡ true → LeadAt rows s p a j → Some x ≡ lead s a (body_at rows p)
  unfolding lead choose
  lead_found j x b l e f t h =
      let z : hasb (get_or s (symbol_at rows p j) 0) a ≡ true = rw (← e, ← f) t in
      ap Some e ∙ rw (opened j l, z) at h.is

  pub lead_on : (j x : ℕ) (b : Bool) → j < length_at rows p → x ≡ symbol_at rows p j → b ≡ hasb (get_or s x 0) a → b ≡ false → LeadAt rows s p a j → LeadAt rows s p a (j + 1)
  unfolding lead choose
  lead_on j x b l e f t h =
      let z : hasb (get_or s (symbol_at rows p j) 0) a ≡ false = rw (← e, ← f) t in
      record { is = rw (opened j l, z) at h.is }

  pub lead_none : (j : ℕ) → length_at rows p ≤ j → LeadAt rows s p a j → None ≡ lead s a (body_at rows p)
  unfolding lead
  lead_none j l h = let q : length_at rows p - j ≡ 0 = omega arith in rw q at h.is

-- ---- the step of a cell

module _ (rows s cells : List ℕ) (t i : ℕ) where
  pub step_end : i % columns ≡ 0 → 0 ≡ step_of rows s cells t i
  unfolding step_of choose
  step_end e = rw (eq-eqb (i % columns) 0 e)

  pub step_lead : (x v p : ℕ) (b : Bool) → (i % columns ≡ 0 → ⊥) → b ≡ hasb (get_or s (t + 1 + i / columns) 0) (i % columns) → b ≡ true → v ≡ get_or cells i 0 → p ≡ v - 1
      → x ≡ unwrap_or (lead s (i % columns) (body_at rows p)) 0 → x ≡ step_of rows s cells t i
  unfolding step_of choose
  step_lead x v p b n e f g h k = rw (ne_eqb (i % columns) 0 n, ← e, f) (k ∙ ap (λ (q : ℕ). unwrap_or (lead s (i % columns) (body_at rows q)) 0) (h ∙ ap (λ (q : ℕ). q - 1) g))

  pub step_none : (b : Bool) → (i % columns ≡ 0 → ⊥) → b ≡ hasb (get_or s (t + 1 + i / columns) 0) (i % columns) → b ≡ false → 0 ≡ step_of rows s cells t i
  unfolding step_of choose
  step_none b n e f = rw (ne_eqb (i % columns) 0 n, ← e, f)

pub ruleset stepping = (step_end, step_lead, step_none)

-- ---- down a stem

module _ (steps : List ℕ) (t a : ℕ) where
  pub stem_last : (k x acc X : ℕ) → 0 < k → x < symbol_space → x ≤ t → X ≡ stem_bits steps t a k x acc → bit_or acc (1 * 2 ^ x % 2 ^ 64) ≡ X
  unfolding stem_bits choose
  stem_last zero x acc X w l m h = absurd (omega arith)
  stem_last (suc k) x acc X w l m h = ap (bit_or acc) (shift_one symbol_space x l) ∙ sym (rw (le-leb x t m) at h)

  pub stem_on : (k j x y acc X : ℕ) → k ≡ j + 1 → x < symbol_space → t < x → y ≡ next steps t a x → X ≡ stem_bits steps t a k x acc
      → X ≡ stem_bits steps t a j y (bit_or acc (1 * 2 ^ x % 2 ^ 64))
  unfolding stem_bits choose
  stem_on zero j x y acc X w l m f h = absurd (omega arith)
  stem_on (suc k) j x y acc X w l m f h =
      let q : j ≡ k = omega arith in
      rw (q, f, shift_one symbol_space x l) (rw (lt-leb x t m) at h)

  pub stem_done : (k x acc X : ℕ) → k ≤ 0 → X ≡ stem_bits steps t a k x acc → acc ≡ X
  unfolding stem_bits
  stem_done k x acc X l h = let q : k ≡ 0 = omega arith in sym (rw q at h)

  module _ (mask : ℕ) where
    pub shared_here : (k x X : ℕ) (b : Bool) → 0 < k → b ≡ hasb mask x → b ≡ true → X ≡ shared_from steps t a mask k x → x ≡ X
    unfolding shared_from choose
    shared_here zero x X b w e f h = absurd (omega arith)
    shared_here (suc k) x X b w e f h = sym (rw (← e, f) at h)

    pub shared_on : (k j x y X : ℕ) (b : Bool) → k ≡ j + 1 → b ≡ hasb mask x → b ≡ false → y ≡ next steps t a x → X ≡ shared_from steps t a mask k x → X ≡ shared_from steps t a mask j y
    unfolding shared_from choose
    shared_on zero j x y X b w e f g h = absurd (omega arith)
    shared_on (suc k) j x y X b w e f g h = let q : j ≡ k = omega arith in rw (q, g) (rw (← e, f) at h)

    pub shared_done : (k x X : ℕ) → k ≤ 0 → X ≡ shared_from steps t a mask k x → 0 ≡ X
    unfolding shared_from
    shared_done k x X l h = let q : k ≡ 0 = omega arith in sym (rw q at h)

-- ---- the break points, row by row onto zeros

-- rows below r are written, and all else is 0; c lookaheads, n nonterminals
pub record Broken (f : ℕ → ℕ → ℕ) (n c r : ℕ) (w : List ℕ) : Type 0 where
  pub long : length w ≡ breaks_size
  pub done : (R Q a : ℕ) → R < r → Q < n → a < c → get_or w (break_place R Q a) 0 ≡ f R (Q * columns + a)
  pub other : (R Q a : ℕ) → R < table_rows → Q < table_rows → a < columns → (R < r → Q < n → a < c → ⊥) → get_or w (break_place R Q a) 0 ≡ 0

-- row r, as `&w[at..at + 1024]` is to the checker, what is behind it, and the bytes with this row
abbrev pub part : ℕ → List ℕ → List ℕ
part r w = take (r * row_size + row_size - r * row_size) (drop (r * row_size) w)

abbrev pub rest : ℕ → List ℕ → List ℕ
rest r w = drop (r * row_size + row_size - r * row_size) (drop (r * row_size) w)

abbrev pub with_part : ℕ → List ℕ → List ℕ → List ℕ
with_part r w row = take (r * row_size) w ++ (row ++ rest r w)

pub part_byte : (r : ℕ) (w : List ℕ) (Q a : ℕ) → Q < table_rows → a < columns → get_or (part r w) (Q * columns + a) 0 ≡ get_or w (break_place r Q a) 0
part_byte r w Q a x y =
    let q : r * row_size + (Q * columns + a) ≡ break_place r Q a = omega arith in
    get_or-take (r * row_size + row_size - r * row_size) (drop (r * row_size) w) (Q * columns + a) 0 (omega arith)
    ∙ get_or-drop (r * row_size) w (Q * columns + a) 0 ∙ ap (λ (i : ℕ). get_or w i 0) q

pub part_long : (r : ℕ) (w : List ℕ) → r < table_rows → length w ≡ breaks_size → length (part r w) ≡ row_size
part_long r w l e = length-take-le (r * row_size + row_size - r * row_size) (drop (r * row_size) w) (omega (arith, length-drop (r * row_size) w)) ∙ omega arith

rest_long : (r : ℕ) (w : List ℕ) → r < table_rows → length w ≡ breaks_size → length (rest r w) ≡ breaks_size - r * row_size - row_size
rest_long r w l e = length-drop (r * row_size + row_size - r * row_size) (drop (r * row_size) w) ∙ omega (arith, length-drop (r * row_size) w)

with_in : (r : ℕ) (w row : List ℕ) (i j : ℕ) → r < table_rows → length w ≡ breaks_size → i < length row → j ≡ r * row_size + i → get_or (with_part r w row) j 0 ≡ get_or row i 0
with_in r w row i j l e m q =
    let z : j - r * row_size ≡ i = omega arith in
    get_or-append_right (take (r * row_size) w) (row ++ rest r w) (r * row_size) j 0 (length-take-le (r * row_size) w (omega arith)) (omega arith)
    ∙ ap (λ (k : ℕ). get_or (row ++ rest r w) k 0) z ∙ get_or-append row (rest r w) 0 i m

with_out : (r : ℕ) (w row : List ℕ) (i : ℕ) → r < table_rows → length w ≡ breaks_size → length row ≡ row_size → (i < r * row_size) ⊎ (r * row_size + row_size ≤ i) → get_or (with_part r w row) i 0 ≡ get_or w i 0
with_out r w row i l e m (inl x) = get_or-append (take (r * row_size) w) (row ++ rest r w) 0 i (omega (arith, length-take-le (r * row_size) w (omega arith))) ∙ get_or-take (r * row_size) w i 0 x
with_out r w row i l e m (inr x) =
    let k : ℕ = r * row_size + row_size - r * row_size in
    let z : r * row_size + (k + (i - r * row_size - row_size)) ≡ i = omega arith in
    get_or-append_right (take (r * row_size) w) (row ++ rest r w) (r * row_size) i 0 (length-take-le (r * row_size) w (omega arith)) (omega arith)
    ∙ get_or-append_right row (rest r w) row_size (i - r * row_size) 0 m (omega arith)
    ∙ get_or-drop k (drop (r * row_size) w) (i - r * row_size - row_size) 0 ∙ get_or-drop (r * row_size) w (k + (i - r * row_size - row_size)) 0
    ∙ ap (λ (j : ℕ). get_or w j 0) z

module _ (f : ℕ → ℕ → ℕ) (n c : ℕ) where
  -- row r is written
  module _ (w row : List ℕ) (r : ℕ) (ln : n ≤ table_rows) (lc : c ≤ columns) (lr : r < n) (h : Broken f n c r w) (u : Grid 0 (f r) c n n 0 (part r w) row) where
    long_row : length row ≡ row_size
    long_row = u.long ∙ part_long r w (omega arith) h.long

    beside : (R Q a : ℕ) → (R ≡ r → ⊥) → Q < table_rows → a < columns → (break_place R Q a < r * row_size) ⊎ (r * row_size + row_size ≤ break_place R Q a)
    beside R Q a e y z = by_cases (dec_lt R r) (λ l. inl (omega arith)) (λ l. inr (omega arith))

    pub broken_more : Broken f n c (r + 1) (with_part r w row)
    broken_more =
        record {
          long = length-append (take (r * row_size) w) (row ++ rest r w) ∙ omega (arith, length-append row (rest r w), length-take-le (r * row_size) w (omega (arith, h.long)), rest_long r w (omega arith) h.long, long_row, h.long);
          done = λ R Q a x y z. by_cases (ℕ_discrete R r)
              (λ e. with_in r w row (Q * columns + a) (break_place R Q a) (omega arith) h.long (omega (arith, long_row)) (omega arith) ∙ u.done Q a y z ∙ ap (λ (i : ℕ). f i (Q * columns + a)) (sym e))
              (λ e. with_out r w row (break_place R Q a) (omega arith) h.long long_row (beside R Q a e (omega arith) (omega arith)) ∙ h.done R Q a (omega arith) y z);
          other = λ R Q a x y z g. by_cases (ℕ_discrete R r)
              (λ e. with_in r w row (Q * columns + a) (break_place R Q a) (omega arith) h.long (omega (arith, long_row)) (omega arith)
              ∙ u.kept (Q * columns + a) (λ Q' a' x' z' k. g (omega arith) (omega arith) (omega arith))
              ∙ part_byte r w Q a y z ∙ ap (λ (i : ℕ). get_or w (break_place i Q a) 0) (sym e) ∙ h.other R Q a x y z (λ m. absurd (omega arith)))
              (λ e. with_out r w row (break_place R Q a) (omega arith) h.long long_row (beside R Q a e y z) ∙ h.other R Q a x y z (λ m q. g (omega arith) q));
        }

-- ---- the two parts

-- the predictions, then the break points
pub record Laid (cells : List ℕ) (f : ℕ → ℕ → ℕ) (n c : ℕ) (w : List ℕ) : Type 0 where
  pub long : length w ≡ tables_size
  pub front : (i : ℕ) → i < predictions_size → get_or w i 0 ≡ get_or cells i 0
  pub back : Broken f n c n (drop predictions_size w)

-- as `&mut w[1024..]` leaves it, where the predictions were copied and the break-point writer left b in the part
pub laid : (cells u : List ℕ) (f : ℕ → ℕ → ℕ) (n k : ℕ) (w₀ w b : List ℕ) → length w₀ ≡ tables_size → length cells ≡ predictions_size → u ≡ cells → w ≡ u ++ drop predictions_size w₀ → Broken f n k n b
    → Laid cells f n k (take predictions_size w ++ (b ++ drop (length w - predictions_size) (drop predictions_size w)))
laid cells u f n k w₀ w b l c s e h =
    let v : w ≡ cells ++ drop predictions_size w₀ = e ∙ ap (λ (x : List ℕ). x ++ drop predictions_size w₀) s in
    let lw : length w ≡ tables_size = ap length v ∙ length-append cells (drop predictions_size w₀) ∙ omega (arith, length-drop predictions_size w₀) in
    let q : drop (length w - predictions_size) (drop predictions_size w) ≡ [] = drop_of_length-le (drop predictions_size w) {i = length w - predictions_size} (omega (arith, length-drop predictions_size w)) in
    let t : take predictions_size w ≡ cells = ap (take predictions_size) v ∙ take_at cells (drop predictions_size w₀) predictions_size c in
    let d : drop predictions_size (cells ++ b) ≡ b = drop_at cells b predictions_size c in
    rw (q, append-nil b, t)
    (record {
      long = length-append cells b ∙ omega (arith, h.long);
      front = λ i m. get_or-append cells b 0 i (omega arith);
      back = rw d h;
    })

-- ---- the ways through a break point

module _ (s steps : List ℕ) (t M N a mask : ℕ) where
  pub point_end : a ≡ 0 → 0 ≡ point_of s steps t M N a mask
  unfolding point_of choose
  point_end e = rw (eq-eqb a 0 e)

  module _ (n : a ≡ 0 → ⊥) (b : Bool) (eb : b ≡ hasb (get_or s N 0) a) where
    pub point_not : b ≡ false → 0 ≡ point_of s steps t M N a mask
    unfolding point_of choose
    point_not f = rw (ne_eqb a 0 n, ← eb, f)

    module _ (yes : b ≡ true) (c : Bool) (ec : c ≡ hasb (get_or s M 0) a) where
      pub point_both : (x : ℕ) → c ≡ true → x ≡ shared_from steps t a mask symbol_space M → x ≡ point_of s steps t M N a mask
      unfolding point_of choose
      point_both x f e = rw (ne_eqb a 0 n, ← eb, yes, ← ec, f) e

      pub point_behind : (x : ℕ) → c ≡ false → x ≡ behind_of s M N a → x ≡ point_of s steps t M N a mask
      unfolding point_of choose
      point_behind x f e = rw (ne_eqb a 0 n, ← eb, yes, ← ec, f) e

module _ (s : List ℕ) (M N a : ℕ) where
  pub behind_follow : (d : Bool) → get_or s M 0 % 2 ≡ 1 → d ≡ hasb (get_or s (follows + M) 0) a → d ≡ true → N ≡ behind_of s M N a
  unfolding behind_of choose
  behind_follow d e g h = rw (eq-eqb (get_or s M 0 % 2) 1 e, ← g, h)

  pub behind_never : (d : Bool) → get_or s M 0 % 2 ≡ 1 → d ≡ hasb (get_or s (follows + M) 0) a → d ≡ false → no_break ≡ behind_of s M N a
  unfolding behind_of choose
  behind_never d e g h = rw (eq-eqb (get_or s M 0 % 2) 1 e, ← g, h)

  pub behind_stuck : (get_or s M 0 % 2 ≡ 1 → ⊥) → no_break ≡ behind_of s M N a
  unfolding behind_of choose
  behind_stuck e = rw (ne_eqb (get_or s M 0 % 2) 1 e)

pub ruleset pointing = (point_end, point_not, point_both, point_behind, behind_follow, behind_never, behind_stuck)

-- ---- a cell's row and lookahead

pub mask_cell : (steps : List ℕ) (t q a v : ℕ) → a < columns → v ≡ stem_bits steps t a symbol_space (t + 1 + q) 0 → v ≡ mask_of steps t (q * columns + a)
unfolding mask_of
mask_cell steps t q a v l e =
    let x : (q * columns + a) / columns ≡ q = omega arith in
    let y : (q * columns + a) % columns ≡ a = omega arith in
    rw (x, y) e

pub entry_cell : (s steps masks : List ℕ) (t r q a v : ℕ) → a < columns → v ≡ point_of s steps t (t + 1 + r) (t + 1 + q) a (get_or masks (q * columns + a) 0)
    → v ≡ entry_of s steps masks t r (q * columns + a)
unfolding entry_of
entry_cell s steps masks t r q a v l e =
    let x : (q * columns + a) / columns ≡ q = omega arith in
    let y : (q * columns + a) % columns ≡ a = omega arith in
    rw (x, y) e

-- ---- break points from break points

module _ (steps : List ℕ) (t : ℕ) (w : List ℕ) (R Q a : ℕ) where
  pub down_end : (x : ℕ) → x ≡ step_at steps (R * columns + a) → x ≤ t → x ≡ down_of steps t w R Q a
  unfolding down_of choose
  down_end x e l = rw (le-leb (step_at steps (R * columns + a)) t (omega arith)) e

  pub down_on : (x v i : ℕ) → x ≡ step_at steps (R * columns + a) → t < x → i ≡ break_place (x - t - 1) Q a → v ≡ get_or w i 0 → v ≡ down_of steps t w R Q a
  unfolding down_of choose
  down_on x v i e l f g =
      rw (lt-leb (step_at steps (R * columns + a)) t (omega arith)) (g ∙ ap (λ (j : ℕ). get_or w j 0) (f ∙ ap (λ (y : ℕ). break_place (y - t - 1) Q a) e))

  pub meet_same : R ≡ Q → t + 1 + R ≡ meet_of steps t w R Q a
  unfolding meet_of choose
  meet_same e = rw (eq-eqb R Q e)

  module _ (d : R ≡ Q → ⊥) (y : ℕ) (ey : y ≡ step_at steps (Q * columns + a)) where
    pub meet_end : (v : ℕ) → y ≤ t → v ≡ down_of steps t w R Q a → v ≡ meet_of steps t w R Q a
    unfolding meet_of choose
    meet_end v l e = rw (ne_eqb R Q d, le-leb (step_at steps (Q * columns + a)) t (omega arith)) e

    module _ (u i : ℕ) (l : t < y) (ei : i ≡ break_place R (y - t - 1) a) (eu : u ≡ get_or w i 0) where
      here : u ≡ get_or w (break_place R (step_at steps (Q * columns + a) - t - 1) a) 0
      here = eu ∙ ap (λ (j : ℕ). get_or w j 0) (ei ∙ ap (λ (z : ℕ). break_place R (z - t - 1) a) ey)

      pub meet_on : u ≡ t + 1 + R → t + 1 + R ≡ meet_of steps t w R Q a
      unfolding meet_of choose
      meet_on e = rw (ne_eqb R Q d, lt-leb (step_at steps (Q * columns + a)) t (omega arith), eq-eqb _ (t + 1 + R) (sym here ∙ e))

      pub meet_off : (v : ℕ) → (u ≡ t + 1 + R → ⊥) → v ≡ down_of steps t w R Q a → v ≡ meet_of steps t w R Q a
      unfolding meet_of choose
      meet_off v f e = rw (ne_eqb R Q d, lt-leb (step_at steps (Q * columns + a)) t (omega arith), ne_eqb _ (t + 1 + R) (λ z. f (here ∙ z))) e

module _ (s steps : List ℕ) (t : ℕ) (w : List ℕ) (R i : ℕ) where
  pub implied_none : step_at steps i ≡ 0 → 0 ≡ implied_of s steps t w R i
  unfolding implied_of choose
  implied_none e = rw (eq-eqb (step_at steps i) 0 e)

  pub implied_behind : (x y v : ℕ) → y ≡ step_at steps i → (y ≡ 0 → ⊥) → x ≡ step_at steps (R * columns + i % columns) → x ≡ 0 → v ≡ behind_of s (t + 1 + R) (t + 1 + i / columns) (i % columns)
      → v ≡ implied_of s steps t w R i
  unfolding implied_of choose
  implied_behind x y v ey f ex g e = rw (ne_eqb (step_at steps i) 0 (λ z. f (ey ∙ z)), eq-eqb (step_at steps (R * columns + i % columns)) 0 (sym ex ∙ g)) e

  pub implied_meet : (x y v : ℕ) → y ≡ step_at steps i → (y ≡ 0 → ⊥) → x ≡ step_at steps (R * columns + i % columns) → (x ≡ 0 → ⊥) → v ≡ meet_of steps t w R (i / columns) (i % columns)
      → v ≡ implied_of s steps t w R i
  unfolding implied_of choose
  implied_meet x y v ey f ex g e = rw (ne_eqb (step_at steps i) 0 (λ z. f (ey ∙ z)), ne_eqb (step_at steps (R * columns + i % columns)) 0 (λ z. g (ex ∙ z))) e

pub ruleset implying = (down_end, meet_same, meet_end)
