-- Meaning: the call edit.
use Rattle.std.specs.Prelude.{ℕ, ◌≡◌, List, length}
use Rattle.grammar.specs.Grammar.{Grammar}
use Rattle.grammar.specs.Forest.{Forest, size, yield}
use Rattle.trees.specs.Area.{Area}
use Rattle.edits.specs.Keeping.{Edit, edit_of, edited, Altered}
use Rattle.replies.specs.declared.Counts.{Counts}
use Rattle.calls.specs.Order.{Call, accept, counts, ◌>>=◌, ◌>>◌}
use Rattle.calls.specs.Checks.{given, tables_of, area, tree_in, work_for, sentence, range, parsed}

-- the new tree in its area; "edit has all four" counts
pub record Renewal (G : Grammar) (S : ℕ) (e : Edit) (old : Forest) (c : Counts) (tree' : List ℕ) : Type 0 where
  pub new : Forest
  pub altered : Altered G S e old new c.kept c.made c.given_up
  pub total : c.total ≡ size new
  pub area : Area S new tree'

-- the rest of edit from its last check on
abbrev pub renew_call : Grammar → ℕ → Edit → Forest → Call (List ℕ)
renew_call G S e old = do
  parsed G S (edited e (yield old))  -- 9, 10
  accept counts (Renewal G S e old)

-- where `room` is the length of the work area
abbrev pub edit_with : (tables tokens : List ℕ) (place removed room : ℕ) (tree : List ℕ) → Grammar → Call (List ℕ)
edit_with tables tokens place removed room tree G = do
  tables_of G tables  -- 4
  S ← area (length tree)  -- 5
  old ← tree_in G S tree  -- 5
  work_for (length tree) room  -- 6
  w ← sentence G.t tokens  -- 7
  range old place removed  -- 8
  renew_call G S (edit_of place removed w) old  -- 9, 10

abbrev pub edit_call : (image tables tokens : List ℕ) (place removed room : ℕ) (tree : List ℕ) → Call (List ℕ)
edit_call image tables tokens place removed room tree =
    given image (edit_with tables tokens place removed room tree)  -- 1, 2, 3
