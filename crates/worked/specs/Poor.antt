-- What poor programs would do, for proofs/Poor, which rules each of them out.
use Rattle.std.specs.Prelude.{ℕ, ◌*◌, ◌≡◌, length}
use mathlib.Core.List.{List, [], ◌∷◌, Memᴰ}
use Rattle.base.specs.Blocks.{zeros}
use Rattle.grammar.specs.Reference.{reference, reference_image}
use Rattle.trees.specs.Area.{area_size, work_areas, slots, Valid}
use Rattle.replies.specs.declared.Counts.{Counts}
use Rattle.replies.specs.declared.Reply.{Reply}
use Rattle.replies.specs.declared.Reply.TheVariants.{Accepted}
use Rattle.calls.specs.Order.{Outcome, Ends}
use Rattle.calls.specs.Parse.{parse_call}
use Rattle.calls.specs.ReadBack.{read_back_call}
use Rattle.worked.specs.Entries.{reference_tables}
use Rattle.worked.specs.EditRows.{kept, made, OldTree, Row, row_counts, Setting}
use Rattle.worked.specs.Examples.{tree_h}

-- ---- parse

-- an area of one slot, and work for it
abbrev pub one_slot : List ℕ
one_slot = zeros (area_size 1)

abbrev pub its_work : List ℕ
its_work = zeros (work_areas * area_size 1)

-- parse of these bytes
abbrev pub OneSlot : List ℕ → Reply → List ℕ → List ℕ → Type 0
OneSlot tokens = Ends (parse_call reference_image reference_tables tokens (length its_work) (length one_slot)) one_slot its_work

-- a sentence may not begin with a semicolon, but with nothing or with allow
abbrev pub semicolon : List ℕ
semicolon = 5 ∷ 0 ∷ 0 ∷ 0 ∷ 0 ∷ []

-- ---- edit

-- H's tree, at 1 remove 1, insert `2`: the new token is equal to the removed one, "still new".
-- So List in slot 12 and host in 13 are given up, and so is Rest in 14, which has no tokens and is below List
abbrev pub equal_token : Row
equal_token =
    record {
      old = tree_h;
      place = 1;
      removed = 1;
      inserted = 2 ∷ [];
      total = 9;
      kept = 6;
      made = 3;
      up = 3;
      nodes =
          kept 9 6 1 ∷ kept 10 7 3 ∷ kept 11 1 0 ∷ made 1 8 4 ∷ made 2 2 0 ∷ made 3 9 6 ∷ kept 15 10 8 ∷ kept 16 5 0 ∷ kept 17 6 2 ∷ [];
    }

-- an outcome of a row's edit with a node in one of these slots, or with other counts than the row's
pub data StillKept (r : Row) (q : Reply) (tree' : List ℕ) (ss : List ℕ) : Type 0 where
  by_slot : (v : Valid reference r.old.S tree') {s : ℕ} → Memᴰ s ss → Memᴰ s (slots v.tree)
      → StillKept r q tree' ss
  by_counts : (c : Counts) → q ≡ Accepted c → (c ≡ row_counts r → ⊥) → StillKept r q tree' ss

-- such an outcome of `equal_token` that keeps the Rest in slot 14
abbrev pub VoidKept : Reply → List ℕ → Type 0
VoidKept q tree' = StillKept equal_token q tree' (14 ∷ [])

-- ---- read back

-- read back of a tree area
abbrev pub ReadEnds : {o : OldTree} {new : List ℕ} → Setting o new → (output : List ℕ) → Reply → List ℕ → Type 0
ReadEnds x output = Outcome (read_back_call reference_image x.tree output) output
