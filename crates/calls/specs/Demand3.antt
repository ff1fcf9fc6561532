-- What an accepted edit has found and stored.
use Rattle.std.specs.Prelude.{ℕ, ◌+◌, ◌*◌, ◌≤◌, ◌≡◌, List, length}
use Rattle.grammar.specs.Grammar.{Grammar}
use Rattle.grammar.specs.Forest.{Token, size, yield}
use Rattle.tables.specs.Tables.{Tables}
use Rattle.trees.specs.Area.{work_areas, Valid}
use Rattle.plain.specs.Tokens.{Sentence}
use Rattle.edits.specs.Keeping.{edit_of, edited, Altered}
use Rattle.replies.specs.declared.Counts.{Counts}
use Rattle.replies.specs.declared.Reply.{Reply}
use Rattle.calls.specs.Order.{Outcome}
use Rattle.calls.specs.Edit.{renew_call}
use Rattle.calls.specs.CheckLaws.{Fit}

-- edit has passed its checks up to reply 8: the grammar, the slots, the old tree and the new tokens that they found
pub record EditReached (image tables tokens : List ℕ) (place removed room : ℕ) (tree : List ℕ) (r : Reply)
    (tree' : List ℕ) : Type 0 where
  pub grammar : Grammar
  pub fit : Fit image grammar
  pub right : Tables grammar tables
  pub slots : ℕ
  pub old : Valid grammar slots tree
  pub enough : work_areas * length tree ≤ room
  pub inserted : List Token
  pub spelt : Sentence grammar.t tokens inserted
  pub within : place + removed ≤ length (yield old.tree)
  pub last : Outcome (renew_call grammar slots (edit_of place removed inserted) old.tree) tree r tree'

-- the area is a valid tree again, in as many slots; its tokens are the old ones with the run replaced; its counts add
-- up
pub record Renewed (image tree : List ℕ) (place removed : ℕ) (tokens : List ℕ) (c : Counts)
    (tree' : List ℕ) : Type 0 where
  pub grammar : Grammar
  pub fit : Fit image grammar
  pub slots : ℕ
  pub old : Valid grammar slots tree
  pub new : Valid grammar slots tree'
  pub inserted : List Token
  pub spelt : Sentence grammar.t tokens inserted
  pub within : place + removed ≤ length (yield old.tree)
  pub yields : yield new.tree ≡ edited (edit_of place removed inserted) (yield old.tree)
  pub slotted : Altered grammar slots (edit_of place removed inserted) old.tree new.tree c.kept c.made
      c.given_up
  -- "Total is the number of nodes in the stored tree"
  pub total : c.total ≡ size new.tree
  pub kept_and_made : c.kept + c.made ≡ c.total
  pub kept_and_given_up : c.kept + c.given_up ≡ size old.tree
