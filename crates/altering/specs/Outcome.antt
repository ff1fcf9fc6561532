-- What an edit of a valid tree by good tokens comes to, where the range is right: the new tree, or the plain parse's refusal.
use Rattle.std.specs.Prelude.{ℕ, ◌-◌, ◌/◌, ◌≤◌, List, length, Result, Ok, Err}
use Rattle.grammar.specs.Grammar.{Grammar}
use Rattle.grammar.specs.Forest.{Token, Forest, size, yield}
use Rattle.trees.specs.Area.{max_slots, Area, Valid}
use Rattle.plain.specs.Tokens.{token_size, tokens_from}
use Rattle.plain.specs.Plain.{syntax, out_of_room, Parses}
use Rattle.plain.specs.Outcome.{verdict_of}
use Rattle.edits.specs.Keeping.{Edit, edited, Altered as NewTree}
use Rattle.altering.specs.declared.Altered.{Altered}
use Rattle.plain.specs.declared.ParseError.{ParseError}
use Rattle.plain.specs.declared.ParseError.TheVariants.{Syntax, NoRoom}

-- the tokens that fill a list of bytes
abbrev pub tokens_in : List ℕ → List Token
tokens_in b = tokens_from b (length b / token_size) 0

-- a new tree of so many nodes, of which so many kept their slots
abbrev pub renewed : ℕ → ℕ → Result Altered ParseError
renewed total kept = Ok (record { total = total; kept = kept })

-- of the old tree: the answer, and the area after the call
pub data Alters (G : Grammar) (S : ℕ) (e : Edit) (tree : List ℕ) (old : Forest) : Result Altered ParseError → List ℕ → Type 0 where
  altered : {kept : ℕ} {tree' : List ℕ} (new : Forest) → NewTree G S e old new kept (size new - kept) (size old - kept) → Area S new tree'
      → Alters G S e tree old (renewed (size new) kept) tree'
  wrong_syntax : {i x : ℕ} → Parses G S (edited e (yield old)) (syntax i x) → Alters G S e tree old (Err (Syntax i x)) tree
  no_room : Parses G S (edited e (yield old)) out_of_room → Alters G S e tree old (Err NoRoom) tree

pub alters_refused : {G : Grammar} {S : ℕ} {e : Edit} {tree : List ℕ} {old : Forest} (x : ParseError) → Parses G S (edited e (yield old)) (verdict_of x) → Alters G S e tree old (Err x) tree
alters_refused (Syntax i x) u = Alters.wrong_syntax u
alters_refused NoRoom u = Alters.no_room u

-- whichever valid tree the area is
pub record AltersTree (G : Grammar) (S : ℕ) (e : Edit) (tree : List ℕ) (r : Result Altered ParseError) (tree' : List ℕ) : Type 0 where
  pub all : (v : Valid G S tree) → Alters G S e tree v.tree r tree'

-- the answer's numbers, where the old tree has o nodes
pub data Few (o : ℕ) : Result Altered ParseError → Type 0 where
  altered : {k r : ℕ} → r ≤ k → r ≤ o → k ≤ max_slots → Few o (renewed k r)
  wrong_syntax : {i x : ℕ} → Few o (Err (Syntax i x))
  no_room : Few o (Err NoRoom)

pub few_refused : {o : ℕ} (x : ParseError) → Few o (Err x)
few_refused (Syntax i x) = Few.wrong_syntax
few_refused NoRoom = Few.no_room
