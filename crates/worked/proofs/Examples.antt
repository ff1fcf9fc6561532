-- Every example of the table holds: the values computed, and one theorem over the table.
use Rattle.std.specs.Prelude.{ℕ, ◌+◌, ◌-◌, ◌*◌, ◌≤◌, ◌<◌, ◌≡◌, refl, true, List, [], ◌∷◌, length, get_or, leb}
use Rattle.std.proofs.Common.{ap, ◌∙◌, leb-true, arith}
use Rattle.std.proofs.Math.Option.{some}
use Rattle.base.specs.Choose.{choose}
use Rattle.base.specs.Blocks.{zeros, length_zeros}
use Rattle.grammar.specs.Limits.{columns}
use Rattle.grammar.specs.Each.{Each}
use Rattle.grammar.specs.Forest.{Token, kinds, Forest, Derives}
use Rattle.grammar.specs.Reference.{reference}
use Rattle.predictions.specs.Hits.{hasb}
use Rattle.tables.specs.One.{tables_one}
use Rattle.tables.specs.Cells.{next, stem_bits, shared_from, behind_of, point_of}
use Rattle.trees.specs.Area.{max_slots, work_areas}
use Rattle.plain.specs.Plain.{Verdict, accepted, Parses}
use Rattle.plain.specs.Machine.{marked}
use Rattle.replies.specs.declared.Reason.TheVariants.{BeyondTokens, Syntax}
use Rattle.worked.specs.Words.{words}
use Rattle.worked.specs.Ready.{below, reference_prepared, cells, steps}
use Rattle.worked.specs.Entries.{cell, cell_is, entry, entry_is, reference_tables, reference_tables_lem}
use Rattle.worked.specs.Sums.{sum, sum_same, sum_none, sum_first, sum_rows}
use Rattle.worked.specs.Run.{body, lit, leaf, grown, inner, turn, run, run_right}
use Rattle.worked.specs.Match.{or_else, seek, starts, stands, was, full, void, source, matches, slot_of, slots_of, held}
use Rattle.worked.specs.Alter.{grows, among, filled, gives, given_up_between}
use Rattle.worked.specs.Calls.{given, ends_as, parsed_setting}
use Rattle.worked.specs.EditRows.{Cell, Row, Setting, Remade}
use Rattle.worked.specs.Edits.{spelled, kinds_spelled, spoken, spelled_sentence, noded, planted, facts, Found, edit_says, left_setting, syntax_says, beyond_says}
use Rattle.worked.proofs.Entries.{prediction_byte_lem, break_byte_lem, other_byte}
use Rattle.worked.specs.Examples.{used, error, counts, break_point, tree, parse, edit, refusal, Says, kinds_u, kinds_v, tree_u, tree_v, example_g, example_h, tree_h, after_h, example_i, example_k, examples}

-- ---- the values, computed

nine : sum 5 (λ R. sum columns (λ a. used (cell R a))) ≡ 9
unfolding sum used cell cells zeros choose
nine = refl

twentyfive : sum 5 (λ R. sum 5 (λ Q. sum columns (λ a. used (entry (6 + R) (6 + Q) a)))) ≡ 25
unfolding sum used entry point_of behind_of stem_bits shared_from next hasb words steps zeros choose
twentyfive = refl

seventeen : sum 5 (λ R. sum 5 (λ Q. sum columns (λ a. error (entry (6 + R) (6 + Q) a)))) ≡ 17
unfolding sum error entry point_of behind_of stem_bits shared_from next hasb words steps zeros choose
seventeen = refl

at_9_10_4 : entry 9 10 4 ≡ 10
unfolding entry point_of behind_of stem_bits shared_from next hasb words steps zeros choose
at_9_10_4 = refl

at_7_6_1 : entry 7 6 1 ≡ 7
unfolding entry point_of stem_bits shared_from next hasb words steps zeros choose
at_7_6_1 = refl

at_8_9_3 : entry 8 9 3 ≡ 255
unfolding entry point_of behind_of stem_bits shared_from next hasb words steps zeros choose
at_8_9_3 = refl

at_8_10_2 : entry 8 10 2 ≡ 0
unfolding entry point_of stem_bits shared_from next hasb words steps zeros choose
at_8_10_2 = refl

-- ---- of the bytes

-- the rows beyond the nonterminals hold no prediction
nine_bytes : sum 32 (λ R. sum 32 (λ a. used (cell R a))) ≡ 9
unfolding sum used cell cells zeros choose
nine_bytes = refl

prediction_sum : (v : ℕ → ℕ) → sum 1024 (λ i. v (get_or reference_tables i 0)) ≡ sum 32 (λ R. sum 32 (λ a. v (cell R a)))
prediction_sum v =
    sum_rows 32 (λ i. v (get_or reference_tables i 0)) ∙ sum_same 32 _ _ (λ R l. sum_same 32 _ _ (λ a k. ap v (prediction_byte_lem reference_tables_lem R a l k)))

-- 32 rows of 32 by 32 break points, of which 5 rows of 5 have values
break_sum : (v : ℕ → ℕ) → v 0 ≡ 0 → sum 32768 (λ i. v (get_or reference_tables (1024 + i) 0)) ≡ sum 5 (λ R. sum 5 (λ Q. sum 32 (λ a. v (entry (6 + R) (6 + Q) a))))
break_sum v z =
    let f : ℕ → ℕ = λ i. v (get_or reference_tables (1024 + i) 0) in
    let beyond : (R Q a : ℕ) → R < 32 → Q < 32 → a < 32 → (R < 5 → Q < 5 → ⊥) → f ((R * 32 + Q) * 32 + a) ≡ 0 = λ R Q a l m k n. ap v (other_byte reference_tables_lem R Q a l m k n) ∙ z in
    sum_rows 1024 f
    ∙ sum_rows 32 (λ j. sum 32 (λ a. f (j * 32 + a)))
    ∙ sum_first 5 27 (λ R. sum 32 (λ Q. sum 32 (λ a. f ((R * 32 + Q) * 32 + a)))) (λ R l m. sum_none 32 _ (λ Q k. sum_none 32 _ (λ a i. beyond R Q a (omega arith) k i (λ x y. omega arith))))
    ∙ sum_same 5 _ _ (λ R l. sum_first 5 27 (λ Q. sum 32 (λ a. f ((R * 32 + Q) * 32 + a))) (λ Q m k. sum_none 32 _ (λ a i. beyond R Q a (omega arith) (omega arith) i (λ x y. omega arith)))
    ∙ sum_same 5 _ _ (λ Q m. sum_same 32 _ _ (λ a k. ap v (break_byte_lem reference_tables_lem R Q a l m k))))

used_none : used 0 ≡ 0
unfolding used choose
used_none = refl

error_none : error 0 ≡ 0
unfolding error choose
error_none = refl

counted : Says (counts 9 25 17)
unfolding reference
counted = record {
  prediction = cell;
  point = λ R Q a. entry (6 + R) (6 + Q) a;
  predicts = λ R a l k. cell_is R a (omega arith) k;
  breaks_at = λ R Q a l m k. entry_is (6 + R) (6 + Q) a (omega arith) (omega arith) k;
  predicted = nine;
  broken = twentyfive;
  wrong = seventeen;
  bytes = reference_tables;
  tables = reference_tables_lem;
  no_others = λ w t. tables_one reference_prepared t reference_tables_lem;
  prediction_at = λ R a l k. prediction_byte_lem reference_tables_lem R a (omega arith) k;
  point_at = λ R Q a l m k. break_byte_lem reference_tables_lem R Q a l m k;
  predicted_bytes = prediction_sum used ∙ nine_bytes;
  broken_bytes = break_sum used used_none ∙ twentyfive;
  wrong_bytes = break_sum error error_none ∙ seventeen;
}

point_says : (M N a v : ℕ) → 6 ≤ M → M ≤ 10 → 6 ≤ N → N ≤ 10 → a < columns → entry M N a ≡ v → Says (break_point M N a v)
point_says M N a v l m i j k e =
    let p : 6 + (M - 6) ≡ M = omega arith in
    let q : 6 + (N - 6) ≡ N = omega arith in
    (rw e at (entry_is M N a (omega arith) (omega arith) k), λ w t. break_byte_lem t (M - 6) (N - 6) a (omega arith) (omega arith) k ∙ rw (p, q) e)

empty_tree : Says (tree 1000 [] (Forest.node 1 6 2 Forest.nil Forest.nil))
unfolding reference
empty_tree = record { derives = Derives.node (record { found = refl }) Derives.nil Derives.nil; yields = refl; fits = omega arith; order = refl }

pub run_says : (fuel S : ℕ) (ks : List ℕ) (v : Verdict) → run fuel S (6 ∷ []) ks 1 0 ≡ some v → (w : List Token) → kinds w ≡ ks → Parses reference S w v
unfolding reference
run_says fuel S ks v e w q = run_right fuel S (6 ∷ []) w 1 0 v (rw q e)

parse_says : (fuel S : ℕ) (ks : List ℕ) (v : Verdict) → leb 1 S ≡ true → leb S max_slots ≡ true → spoken ks ≡ true → run fuel S (6 ∷ []) ks 1 0 ≡ some v → Says (parse S ks v)
parse_says fuel S ks v l m k e = (given S ks (leb-true 1 S l) (leb-true S max_slots m) k, run_says fuel S ks v e, λ x. ends_as x v (run_says fuel S ks v e x.sentence x.sentence_kinds))

-- the old trees' nodes: each of them is the new tree of a row
abbrev nodes_u : List Cell
nodes_u = example_k.nodes

abbrev nodes_v : List Cell
nodes_v = after_h.nodes

abbrev pub nodes_h : List Cell
nodes_h = example_h.nodes

parse_u_holds : Says (parse 1000 kinds_u (accepted 9))
unfolding run turn leaf inner grown body lit marked cell cells zeros choose reference spoken
parse_u_holds = parse_says 20 1000 kinds_u (accepted 9) refl refl refl refl

parse_v_holds : Says (parse 1000 kinds_v (accepted 17))
unfolding run turn leaf inner grown body lit marked cell cells zeros choose reference spoken
parse_v_holds = parse_says 40 1000 kinds_v (accepted 17) refl refl refl refl

-- parse leaves the trees of U and V, with any new tokens
start_u : (new : List ℕ) → spoken new ≡ true → Setting tree_u new
start_u = parsed_setting (parse_u_holds.2 parse_u_holds.0)

start_v : (new : List ℕ) → spoken new ≡ true → Setting tree_v new
start_v = parsed_setting (parse_v_holds.2 parse_v_holds.0)

pub row_says : (r : Row) (olds : List Cell) → Setting r.old r.inserted → Found r olds → Says (edit r)
row_says r olds x found = (x, edit_says r olds found)

pub example_h_holds : Says (edit example_h)
unfolding body choose reference spelled noded planted facts held matches source full void was seek or_else starts stands slot_of slots_of grows among filled gives given_up_between below spoken
example_h_holds = row_says example_h nodes_v (start_v [] refl) (λ w u. refl)

-- and H leaves its own
pub start_h : (new : List ℕ) → spoken new ≡ true → Setting tree_h new
start_h new e =
    let m : Remade example_h example_h_holds.0 = example_h_holds.1 example_h_holds.0 in
    let work : List ℕ = zeros (work_areas * length m.bytes) in
    let l = length_zeros (work_areas * length m.bytes) in
    left_setting m work m.area (kinds_spelled new []) (spelled_sentence new e) (omega (arith, l))

pub after_h_holds : Says (edit after_h)
unfolding body choose reference spelled noded planted facts held matches source full void was seek or_else starts stands slot_of slots_of grows among filled gives given_up_between below spoken
after_h_holds = row_says after_h nodes_h (start_h kinds_u refl) (λ w u. refl)

pub example_j_holds : Says (refusal tree_v 2 2 [] (Syntax 2 56))
unfolding run turn leaf inner grown body lit marked cell cells zeros choose reference spoken
example_j_holds = (start_v [] refl, syntax_says 20 tree_v 2 2 2 56 [] (omega arith) refl)

beyond_holds : Says (refusal tree_u 3 1 [] (BeyondTokens 3))
unfolding spoken
beyond_holds = (start_u [] refl, beyond_says tree_u 3 1 [] (omega arith))

-- every example holds
pub examples_hold : Each Says examples
unfolding examples run turn leaf inner grown body lit marked cell cells zeros choose reference spelled noded planted facts held matches source full void was seek or_else starts stands slot_of slots_of grows among filled gives given_up_between below spoken
examples_hold =
    Each.cons counted
    (Each.cons (point_says 9 10 4 10 (omega arith) (omega arith) (omega arith) (omega arith) (omega arith) at_9_10_4)
    (Each.cons (point_says 7 6 1 7 (omega arith) (omega arith) (omega arith) (omega arith) (omega arith) at_7_6_1)
    (Each.cons (point_says 8 9 3 255 (omega arith) (omega arith) (omega arith) (omega arith) (omega arith) at_8_9_3)
    (Each.cons (point_says 8 10 2 0 (omega arith) (omega arith) (omega arith) (omega arith) (omega arith) at_8_10_2)
    (Each.cons empty_tree
    (Each.cons (parse_says 20 _ _ _ refl refl refl refl)
    (Each.cons (parse_says 20 _ _ _ refl refl refl refl)
    (Each.cons (parse_says 20 _ _ _ refl refl refl refl)
    (Each.cons (parse_says 20 _ _ _ refl refl refl refl)
    (Each.cons (parse_says 20 _ _ _ refl refl refl refl)
    (Each.cons (parse_says 20 _ _ _ refl refl refl refl)
    (Each.cons parse_v_holds
    (Each.cons (row_says example_g nodes_u (start_u (4 ∷ 2 ∷ []) refl) (λ w u. refl))
    (Each.cons example_h_holds
    (Each.cons after_h_holds
    (Each.cons (row_says example_i nodes_v (start_v (3 ∷ []) refl) (λ w u. refl))
    (Each.cons example_j_holds
    (Each.cons (row_says example_k nodes_u (start_u [] refl) (λ w u. refl))
    (Each.cons beyond_holds Each.nil)))))))))))))))))))
