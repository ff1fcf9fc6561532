-- Poor programs that the contracts of prepare, parse, edit and read back rule out: one that refuses everything, one that has one reply for all,
-- and edits that touch nothing, reparse, keep too much, invent counts, or work once and only claim success later.
use Rattle.std.specs.Prelude.{ℕ, zero, suc, ◌*◌, ◌≤◌, ◌<◌, ◌≡◌, true, length, drop, get_or}
use Rattle.std.proofs.Math.Path.{refl}
use Rattle.std.proofs.Common.{ap, sym, ◌∙◌, arith}
use mathlib.Core.List.{List, [], ◌∷◌, ◌++◌}
use Rattle.base.specs.Choose.{choose, never}
use Rattle.base.specs.Bytes.{le_bytes}
use Rattle.base.specs.Blocks.{zeros, byte_zeros, length_zeros}
use Rattle.grammar.specs.Each.{Each}
use Rattle.grammar.specs.Grammar.{TerminalOf}
use Rattle.grammar.specs.Forest.{Token, kinds, Forest, size, yield}
use Rattle.grammar.specs.Image.{bad_head}
use Rattle.grammar.specs.Images.{bad_one}
use Rattle.grammar.specs.Reference.{reference, reference_image}
use Rattle.tables.specs.Tables.{tables_size}
use Rattle.trees.specs.Area.{area_size, work_areas, slots, Area, Valid}
use Rattle.trees.specs.Spread.{length_slots}
use Rattle.plain.specs.Plain.{accepted, syntax}
use Rattle.plain.specs.Tokens.{Tagged, token_bytes, Sentence}
use Rattle.plain.specs.Machine.{marked}
use Rattle.edits.specs.Keeping.{edit_of, edited}
use Rattle.replies.specs.Reply.{no_counts}
use Rattle.replies.specs.declared.Counts.{Counts}
use Rattle.replies.specs.declared.Reply.{Reply}
use Rattle.replies.specs.declared.Reason.{Reason}
use Rattle.replies.specs.declared.Reason.TheVariants.{BadGrammar, Syntax, ShortOutput}
use Rattle.replies.specs.declared.Reply.TheVariants.{Accepted, Refused}
use Rattle.calls.specs.Order.{Outcome, Ends, refused, passed, exactly, at}
use Rattle.calls.specs.Checks.{needed}
use Rattle.calls.specs.Prepare.{prepare_with, prepare_call}
use Rattle.calls.specs.Parse.{up_from, parse_counts, Stored, parse_call}
use Rattle.calls.specs.Edit.{edit_call}
use Rattle.calls.specs.ReadBack.{read_counts, read_back_with}
use Rattle.calls.proofs.OrderLaws.{passes, has_counts, require_single, ends_one}
use Rattle.calls.proofs.CheckLaws.{trees_one, valid_sized, valid_holds, given_rest, given_passed}
use Rattle.calls.proofs.CallsUnique.{parse_settled, edit_settled}
use Rattle.calls.proofs.Demand3.{edit_renews}
use Rattle.calls.proofs.RoundTrips.{read_back_one, reads_tree}
use Rattle.worked.specs.Ready.{below, reference_fit, cells}
use Rattle.worked.specs.Entries.{cell, reference_tables}
use Rattle.worked.specs.Run.{body, lit, leaf, grown, inner, turn, run}
use Rattle.worked.specs.Match.{or_else, seek, starts, stands, was, full, void, source, matches, slot_of, slots_of, held}
use Rattle.worked.specs.Alter.{grows, among, apart, apart_right, filled, gives, given_up_between}
use Rattle.worked.specs.Calls.{Given, ends_as}
use Rattle.worked.specs.EditRows.{slots_in, Row, row_counts, Setting, EditEnds, Remade}
use Rattle.worked.specs.Edits.{spelled, spoken, noded, planted, facts, valid, old_length, left_setting}
use Rattle.worked.specs.Examples.{edit, Says, kinds_u, tree_v, example_h, tree_h, after_h}
use Rattle.worked.specs.Poor.{one_slot, its_work, OneSlot, semicolon, equal_token, StillKept, by_slot, by_counts, VoidKept, ReadEnds}
use Rattle.worked.proofs.Examples.{nodes_h, start_h, row_says, example_h_holds, after_h_holds, example_j_holds, run_says}

-- ---- prepare

-- the reference grammar is accepted, into tables of the right length
pub reference_accepted : (w w' : List ℕ) (r : Reply) → length w ≡ tables_size
    → Outcome (prepare_call reference_image (length w)) w r w' → r ≡ Accepted no_counts
reference_accepted w w' r l h =
    let (c, e, p) = has_counts (passes require_single l (given_rest (prepare_with (length w)) reference_fit h)) in
    e ∙ ap Accepted p.0

-- an empty image is refused
pub empty_refused : (w w' : List ℕ) (r : Reply) → Outcome (prepare_call [] (length w)) w r w' → r ≡ Refused (BadGrammar 0)
empty_refused w w' r (refused (at b)) = ap (λ (k : ℕ). Refused (BadGrammar k)) (bad_one b (bad_head (λ h. never (let e = h.5 in cc))))
empty_refused w w' r (passed i j) = never (let e = i.is in cc)

-- no program refuses everything
pub prepare_not_refused : (w w' : List ℕ) (x : Reason) → length w ≡ tables_size
    → Outcome (prepare_call reference_image (length w)) w (Refused x) w' → ⊥
prepare_not_refused w w' x l h = let e = reference_accepted w w' (Refused x) l h in never (cc)

-- no program has one reply for all
pub prepare_not_one_reply : (r : Reply) → ((image w : List ℕ) → (w' : List ℕ) × Outcome (prepare_call image (length w)) w r w')
    → ⊥
prepare_not_one_reply r f =
    let a = f reference_image (zeros tables_size) in
    let b = f [] (zeros tables_size) in
    let x = reference_accepted (zeros tables_size) a.0 r (length_zeros tables_size) a.1 in
    let y = empty_refused (zeros tables_size) b.0 r b.1 in
    never (cc)

-- ---- parse

abbrev one_call : {tokens : List ℕ} {w : List Token} → Sentence reference.t tokens w → Given 1 (kinds w)
one_call {tokens} {w} s =
    let l = length_zeros (area_size 1) in
    record {
      sentence = w;
      sentence_kinds = refl;
      tokens = tokens;
      spelt = s;
      tree = one_slot;
      sized = record { some = omega arith; few = omega arith; long = l };
      work = its_work;
      long = omega (arith, l, length_zeros (work_areas * area_size 1));
    }

-- the empty sentence is accepted, with one node
pub nothing_accepted : (tree' work' : List ℕ) (r : Reply) → OneSlot [] r tree' work' → r ≡ Accepted (parse_counts 1)
unfolding run turn leaf inner grown body lit marked cell cells zeros choose reference
nothing_accepted tree' work' r h =
    let s : Sentence reference.t [] [] = record { is = refl; kinds = Each.nil; tags = Each.nil } in
    (ends_one _ (parse_settled _ _ _ _ _) h (ends_as (one_call s) (accepted 1) (run_says 2 1 [] (accepted 1) refl [] refl)).outcome).0

pub semicolon_refused : (tree' work' : List ℕ) (r : Reply) → OneSlot semicolon r tree' work' → r ≡ Refused (Syntax 0 3)
unfolding run turn leaf inner grown body lit marked cell cells zeros choose reference le_bytes
semicolon_refused tree' work' r h =
    let k : Token = record { kind = 5; tag = 0 } in
    let a : TerminalOf 5 5 = (omega arith, omega arith) in
    let b : Tagged k = omega arith in
    let s : Sentence reference.t semicolon (k ∷ []) =
    record { is = refl; kinds = Each.cons a Each.nil; tags = Each.cons b Each.nil } in
    let p = run_says 2 1 (5 ∷ []) (syntax 0 3) refl (k ∷ []) refl in
    (ends_one _ (parse_settled _ _ _ _ _) h (ends_as (one_call s) (syntax 0 3) p)).0

-- no program refuses everything
pub parse_not_refused : (tree' work' : List ℕ) (x : Reason) → OneSlot [] (Refused x) tree' work' → ⊥
parse_not_refused tree' work' x h = let e = nothing_accepted tree' work' (Refused x) h in never (cc)

-- no program has one reply for all, not even for all sentences alone
pub parse_not_one_reply : (r : Reply) → ((tokens : List ℕ) → (tree' : List ℕ) × (work' : List ℕ) × OneSlot tokens r tree' work')
    → ⊥
parse_not_one_reply r f =
    let a = f [] in
    let b = f semicolon in
    let x = nothing_accepted a.0 a.1 r a.2 in
    let y = semicolon_refused b.0 b.1 r b.2 in
    never (cc)

-- no program leaves a byte of work that is not 0, whatever it replies
pub parse_clears : {image tables tokens tree work tree' work' : List ℕ} {r : Reply}
    → Ends (parse_call image tables tokens (length work) (length tree)) tree work r tree' work' → (i : ℕ) → get_or work' i 0 ≡ 0
parse_clears {work = work} h i = ap (λ (u : List ℕ). get_or u i 0) h.cleared ∙ byte_zeros (length work) i

-- ---- edit

-- the edit of a row that holds: it ends as the row says, and not otherwise
module _ (r : Row) (says : Says (edit r)) (x : Setting r.old r.inserted) {q : Reply} {tree' work' : List ℕ}
    (h : EditEnds x r.place r.removed q tree' work') where
  pub row_only : (q ≡ Accepted (row_counts r)) × (tree' ≡ (says.1 x).bytes) × (work' ≡ zeros (length x.work))
  row_only = ends_one _ (edit_settled _ _ _ _ _ _ _) h (says.1 x).outcome

  row_area : Area r.old.S (says.1 x).tree tree'
  row_area = rw row_only.1 (says.1 x).area

  -- the nodes of the tree in the area are in the row's slots
  pub row_slots : (v : Valid reference r.old.S tree') → slots v.tree ≡ slots_in r.nodes
  row_slots v =
      let m : Remade r x = says.1 x in
      let d = m.altered.derives in
      let u : Valid reference r.old.S tree' =
      record { some = x.some; few = x.few; tree = m.tree; derives = d; area = row_area } in
      ap slots (trees_one v u) ∙ m.order

  -- no program refuses everything
  pub edit_not_refused : (y : Reason) → q ≡ Refused y → ⊥
  edit_not_refused y e = let z = row_only.0 in never (cc)

  -- no program invents counts
  pub edit_not_miscounted : (c : Counts) → q ≡ Accepted c → (c ≡ row_counts r → ⊥) → ⊥
  edit_not_miscounted c e n = let z = row_only.0 in n (cc)

  -- no program puts a node into another slot
  pub edit_not_misplaced : (v : Valid reference r.old.S tree') → (slots v.tree ≡ slots_in r.nodes → ⊥) → ⊥
  edit_not_misplaced v n = n (row_slots v)

  -- where these are others than before, no program leaves the area as it was
  row_touches : (r.old.slots ≡ slots_in r.nodes → ⊥) → tree' ≡ x.tree → ⊥
  row_touches n e = n (sym x.placed.order ∙ row_slots (rw e (valid x)))

-- the root is in slot 1 after parse, in slot 9 after H
not_from_nine : (n : ℕ) → up_from 1 n ≡ up_from 9 9 → ⊥
not_from_nine zero e = never (cc)
not_from_nine (suc n) e = absurd (omega (arith, ap (λ (u : List ℕ). get_or u 0 0) e))

-- example H: of V, at 0 remove 3
module _ (x : Setting tree_v []) {q : Reply} {tree' work' : List ℕ} (h : EditEnds x 0 3 q tree' work') where
  -- no program touches nothing
  pub edit_not_untouched : tree' ≡ x.tree → ⊥
  edit_not_untouched = row_touches example_h example_h_holds x h (not_from_nine 17)

  -- no program stores the tree that parse does
  pub edit_not_reparsed : (f : Forest) (w : List Token) → Stored reference 1000 w f → Area 1000 f tree' → ⊥
  edit_not_reparsed f w s a =
      let v : Valid reference 1000 tree' =
      record { some = x.some; few = x.few; tree = f; derives = s.derives; area = a } in
      not_from_nine (size f) (sym s.order ∙ row_slots example_h example_h_holds x h v)

  -- no program works on the first call and only claims success later: `after_h` doesn't leave the area as H has left it
  pub edit_not_claimed_later : {u : List Token} {tokens tree'' work'' : List ℕ} {q' : Reply} (work : List ℕ)
      → kinds u ≡ kinds_u → Sentence reference.t tokens u → work_areas * length tree' ≤ length work
      → Ends (edit_call reference_image reference_tables tokens 0 0 (length work) tree') tree' work q' tree'' work''
      → tree'' ≡ tree' → ⊥
  edit_not_claimed_later work e s l k =
      let a : Area 1000 (example_h_holds.1 x).tree tree' = row_area example_h example_h_holds x h in
      row_touches after_h after_h_holds (left_setting (example_h_holds.1 x) work a e s l) k (λ e. not_from_nine 17 (sym e))

-- there is such a setting, and in each the edit does so
pub equal_token_lem : Says (edit equal_token)
unfolding body choose reference spelled noded planted facts held matches source full void was seek or_else starts stands slot_of slots_of grows among filled gives given_up_between below spoken
equal_token_lem = row_says equal_token nodes_h (start_h (2 ∷ []) refl) (λ w u. refl)

module _ (x : Setting tree_h (2 ∷ [])) {q : Reply} {tree' work' : List ℕ} (h : EditEnds x 1 1 q tree' work') where
  not_kept : {ss : List ℕ} → apart ss (slots_in equal_token.nodes) ≡ true → StillKept equal_token q tree' ss → ⊥
  not_kept e (by_slot v m n) = apart_right e m (rw (row_slots equal_token equal_token_lem x h v) at n)
  not_kept e (by_counts c p n) = edit_not_miscounted equal_token equal_token_lem x h c p n

  -- no program keeps a node whose first token is new, though equal to a removed one
  pub edit_not_equal_kept : StillKept equal_token q tree' (12 ∷ 13 ∷ []) → ⊥
  unfolding among apart choose
  edit_not_equal_kept = not_kept refl

  -- nor a node without tokens whose parent is not kept
  pub edit_not_void_kept : VoidKept q tree' → ⊥
  unfolding among apart choose
  edit_not_void_kept = not_kept refl

-- there is such a tree: V with tags 0
abbrev pub setting_v : Setting tree_v []
setting_v = example_h_holds.0

-- no program has one reply for all, not even for all edits of one tree: examples H and J
pub edit_not_one_reply : (r : Reply) → ((tree : List ℕ) (place removed : ℕ) (tokens work : List ℕ)
    → (tree' : List ℕ) × (work' : List ℕ)
    × Ends (edit_call reference_image reference_tables tokens place removed (length work) tree) tree work r tree' work') → ⊥
edit_not_one_reply r f =
    let x : Setting tree_v [] = setting_v in
    let a = f x.tree 0 3 x.tokens x.work in
    let b = f x.tree 2 2 x.tokens x.work in
    let y = (row_only example_h example_h_holds x a.2).0 in
    let z = (ends_one _ (edit_settled _ _ _ _ _ _ _) b.2 (example_j_holds.1 x)).0 in
    never (cc)

-- no program only claims success, from whichever valid tree: where the area is left as it was, the sentence was not to change
pub edit_not_claimed : {image tables tree tokens : List ℕ} {place removed room : ℕ} (c : Counts)
    (h : Outcome (edit_call image tables tokens place removed room tree) tree (Accepted c) tree)
    → edited (edit_of place removed (edit_renews c tree h).inserted) (yield (edit_renews c tree h).old.tree)
    ≡ yield (edit_renews c tree h).old.tree
edit_not_claimed {tree = tree} c h = let r = edit_renews c tree h in sym r.yields ∙ ap yield (trees_one r.new r.old)

-- no program leaves a byte of work that is not 0, whatever it replies
pub edit_clears : {image tables tree tokens work tree' work' : List ℕ} {place removed : ℕ} {r : Reply}
    → Ends (edit_call image tables tokens place removed (length work) tree) tree work r tree' work'
    → (i : ℕ) → get_or work' i 0 ≡ 0
edit_clears {work = work} h i = ap (λ (u : List ℕ). get_or u i 0) h.cleared ∙ byte_zeros (length work) i

-- ---- read back

nodes_seventeen : (x : Setting tree_v []) → size x.old ≡ 17
nodes_seventeen x = sym (length_slots x.old) ∙ ap length x.placed.order

-- of the tree of V, 17 nodes and 30 bytes of tokens
module _ (x : Setting tree_v []) {output output' : List ℕ} {r : Reply} (h : ReadEnds x output r output') where
  -- an output that is long enough is accepted, and has the tokens
  pub read_accepted : 30 ≤ length output
      → (r ≡ Accepted (read_counts 17)) × (output' ≡ token_bytes x.sentence ++ drop 30 output)
  read_accepted l =
      let n : needed x.old ≡ 30 = omega (arith, old_length x) in
      let q = read_back_one r _ output' _ h (reads_tree reference_fit (valid x) output (omega (arith, n, l))) in
      (q.0 ∙ ap (λ (k : ℕ). Accepted (read_counts k)) (nodes_seventeen x), q.1 ∙ rw (n, x.placed.yields))

  -- a shorter one is refused, and told the length
  pub read_short : length output < 30 → r ≡ Refused (ShortOutput 30)
  read_short l =
      let n : needed x.old ≡ 30 = omega (arith, old_length x) in
      let v = valid x in
      let short : ReadEnds x output (Refused (ShortOutput (needed x.old))) output =
      given_passed (read_back_with x.tree output) reference_fit
      (passed (valid_sized v) (passed (valid_holds v) (refused (exactly (λ m. omega (arith, n, l, m)))))) in
      (read_back_one r _ output' _ h short).0 ∙ ap (λ (k : ℕ). Refused (ShortOutput k)) n

-- no program refuses everything
pub read_not_refused : (output output' : List ℕ) (y : Reason) → 30 ≤ length output
    → ReadEnds setting_v output (Refused y) output' → ⊥
read_not_refused output output' y l h = let e = (read_accepted setting_v h l).0 in never (cc)

-- no program has one reply for all, not even for all outputs of one tree
pub read_not_one_reply : (r : Reply) → ((output : List ℕ) → (output' : List ℕ) × ReadEnds setting_v output r output') → ⊥
read_not_one_reply r f =
    let a = f (zeros 30) in
    let b = f [] in
    let y = (read_accepted setting_v a.1 (omega (arith, length_zeros 30))).0 in
    let z = read_short setting_v b.1 (omega arith) in
    never (cc)
