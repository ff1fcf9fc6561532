-- The reference grammar's predictions and break points, computed from its cells and steps; and the tables that hold them.
use Rattle.std.specs.Prelude.{ℕ, zero, suc, ◌+◌, ◌*◌, ◌/◌, ◌%◌, ◌<◌, ◌≡◌, refl, List, [], ◌∷◌, ◌++◌, length, get_or, ltb}
use Rattle.std.proofs.Common.{ap, sym, ◌∙◌, subst, length-append, get_or-append-add, lt-ltb, ltb-true}
use Rattle.std.proofs.Math.ListN.{get_or-append}
use native.Mathlib.Omega.{arith}
use Rattle.base.specs.Choose.{choose, choose_of}
use Rattle.grammar.specs.Limits.{columns}
use Rattle.grammar.specs.Grammar.{Grammar}
use Rattle.grammar.specs.Prediction.{Break}
use Rattle.grammar.specs.Rows.{symbol_space, grammar_in}
use Rattle.grammar.specs.Reference.{reference}
use Rattle.tables.specs.Tables.{table_rows, row_size, predictions_size, breaks_size, row_symbol, break_place, Prediction, Tables}
use Rattle.tables.specs.Cells.{stem_bits, point_of}
use Rattle.tables.specs.Points.{point}
use Rattle.tables.specs.Outcome.{cell_prediction}
use Rattle.worked.specs.Words.{head, rows, words, is_reference, known}
use Rattle.worked.specs.Ready.{prepared, cells, listed, steps, step_is}

-- the prediction of row R at lookahead a
unfoldable pub cell : ℕ → ℕ → ℕ
cell R a = get_or cells (R * columns + a) 0

pub cell_is : (R a : ℕ) → R < table_rows → a < columns → Prediction reference (row_symbol reference R) a (cell R a)
unfolding cell grammar_in
cell_is R a l k =
    subst (λ (K : Grammar). Prediction K (row_symbol K R) a (get_or cells (R * columns + a) 0)) is_reference
    (cell_prediction rows head words cells (record { known = known; prepared = prepared; listed = listed }) (listed.cell R a l k))

-- break point [M, N, a]
unfoldable pub entry : ℕ → ℕ → ℕ → ℕ
entry M N a = point_of words steps 5 M N a (stem_bits steps 5 a symbol_space N 0)

pub entry_is : (M N a : ℕ) → M < symbol_space → N < symbol_space → a < columns → Break reference M N a (entry M N a)
unfolding entry
entry_is M N a l m k =
    subst (λ (K : Grammar). Break K M N a (point_of words steps 5 M N a (stem_bits steps 5 a symbol_space N 0))) is_reference
    (point rows head words known prepared cells listed steps (λ R b x y. step_is (R * columns + b) (omega arith)) M N a (stem_bits steps 5 a symbol_space N 0) l m k refl)

-- ---- the tables

-- n values of f, from i on
unfoldable values : (ℕ → ℕ) → ℕ → ℕ → List ℕ
values f zero i = []
values f (suc n) i = f i ∷ values f n (i + 1)

length_values : (f : ℕ → ℕ) (n i : ℕ) → length (values f n i) ≡ n
unfolding values
length_values f zero i = refl
length_values f (suc n) i = ap suc (length_values f n (i + 1))

value_at : (f : ℕ → ℕ) (n i j : ℕ) → j < n → get_or (values f n i) j 0 ≡ f (i + j)
unfolding values
value_at f zero i j l = absurd (omega arith)
value_at f (suc n) i zero l = let q : i + 0 ≡ i = omega arith in rw q
value_at f (suc n) i (suc j) l = let q : i + 1 + j ≡ i + suc j = omega arith in value_at f n (i + 1) j (omega arith) ∙ ap f q

-- break point [M, N, a] where M and N, counted from 0, are in rows R and Q; 0 beyond the nonterminals
unfoldable broken : ℕ → ℕ → ℕ → ℕ
broken R Q a = choose (ltb R 5) (λ _. choose (ltb Q 5) (λ _. entry (6 + R) (6 + Q) a) (λ _. 0)) (λ _. 0)

-- by its place among the break points
unfoldable broken_at : ℕ → ℕ
broken_at i = broken (i / row_size) (i / columns % table_rows) (i % columns)

pub reference_tables : List ℕ
reference_tables = cells ++ values broken_at breaks_size 0

broken_at_lem : (R Q a : ℕ) → R < table_rows → Q < table_rows → a < columns → get_or reference_tables (predictions_size + break_place R Q a) 0 ≡ broken R Q a
unfolding reference_tables broken_at
broken_at_lem R Q a l m k =
    let i : ℕ = break_place R Q a in
    let z : i / row_size ≡ R = omega arith in
    let y : i / columns % table_rows ≡ Q = omega arith in
    let x : i % columns ≡ a = omega arith in
    let q : 0 + i ≡ i = omega arith in
    let e : get_or (cells ++ values broken_at breaks_size 0) (predictions_size + i) 0 ≡ get_or (values broken_at breaks_size 0) i 0 = rw listed.long at (get_or-append-add cells (values broken_at breaks_size 0) i 0) in
    let f : get_or (values broken_at breaks_size 0) i 0 ≡ broken (i / row_size) (i / columns % table_rows) (i % columns) = rw q at (value_at broken_at breaks_size 0 i (omega arith)) in
    e ∙ f ∙ rw (z, y, x)

broken_in : (R Q a : ℕ) → R < 5 → Q < 5 → broken R Q a ≡ entry (6 + R) (6 + Q) a
unfolding broken choose
broken_in R Q a l m = rw (lt-ltb R 5 l, lt-ltb Q 5 m)

broken_out : (R Q a : ℕ) → (R < 5 → Q < 5 → ⊥) → broken R Q a ≡ 0
unfolding broken
broken_out R Q a n =
    choose_of (λ (v : ℕ). v ≡ 0) (ltb R 5) _ _
    (λ e. choose_of (λ (v : ℕ). v ≡ 0) (ltb Q 5) _ _ (λ f. absurd (n (ltb-true R 5 e) (ltb-true Q 5 f))) (λ _. refl))
    (λ _. refl)

-- they are the tables of the reference grammar
pub reference_tables_lem : Tables reference reference_tables
unfolding reference_tables cell reference
reference_tables_lem =
    record {
      size = omega (arith, length-append cells (values broken_at breaks_size 0), listed.long, length_values broken_at breaks_size 0);
      prediction = λ R a l k.
          subst (Prediction reference (row_symbol reference R) a) (sym (get_or-append cells (values broken_at breaks_size 0) 0 (R * columns + a) (omega (arith, listed.long)))) (cell_is R a l k);
      break = λ R Q a l m k.
          subst (Break reference (row_symbol reference R) (row_symbol reference Q) a) (sym (broken_at_lem R Q a (omega arith) (omega arith) k ∙ broken_in R Q a l m))
          (entry_is (row_symbol reference R) (row_symbol reference Q) a (omega arith) (omega arith) k);
      other = λ R Q a l m k n. broken_at_lem R Q a l m k ∙ broken_out R Q a n;
    }

-- ---- the bytes of its tables, at the places that document 01 names

-- "row M (nonterminals counted from 0), 32 columns of lookahead 0..31"
abbrev pub prediction_byte : (R a : ℕ) → ℕ
prediction_byte R a = R * 32 + a

-- "The break points start at byte 1,024: entry (M×32+N)×32+a"
abbrev pub break_byte : (R Q a : ℕ) → ℕ
break_byte R Q a = 1024 + ((R * 32 + Q) * 32 + a)
