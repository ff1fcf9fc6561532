-- What an accepted prepare or parse has found and stored.
use Rattle.std.specs.Prelude.{ℕ, ◌*◌, ◌≤◌, List}
use Rattle.grammar.specs.Grammar.{Grammar}
use Rattle.grammar.specs.Forest.{Token}
use Rattle.tables.specs.Tables.{Tables}
use Rattle.trees.specs.Area.{work_areas}
use Rattle.plain.specs.Viable.{Longest}
use Rattle.plain.specs.Tokens.{Sentence}
use Rattle.replies.specs.declared.Counts.{Counts}
use Rattle.replies.specs.declared.Reply.{Reply}
use Rattle.replies.specs.declared.Reason.TheVariants as reasons
use Rattle.replies.specs.declared.Reply.TheVariants.{Accepted, Refused}
use Rattle.calls.specs.Order.{Outcome}
use Rattle.calls.specs.Checks.{Sized}
use Rattle.calls.specs.Parse.{Storage, store_call}
use Rattle.calls.specs.CheckLaws.{Fit}

-- the image is that of a grammar that is well formed, has no useless nonterminal and is LL(1)
pub record FitImage (image : List ℕ) : Type 0 where
  pub grammar : Grammar
  pub fit : Fit image grammar

-- parse has passed its checks up to reply 7: the grammar, the slots and the sentence that they found
pub record ParseReached (image tables tokens : List ℕ) (room long : ℕ) (tree : List ℕ) (r : Reply)
    (tree' : List ℕ) : Type 0 where
  pub grammar : Grammar
  pub fit : Fit image grammar
  pub right : Tables grammar tables
  pub slots : ℕ
  pub sized : Sized slots long
  pub enough : work_areas * long ≤ room
  pub sentence : List Token
  pub spelt : Sentence grammar.t tokens sentence
  pub last : Outcome (store_call grammar slots sentence) tree r tree'

-- of an accepted parse: the sentence's tree, its counts and its area
pub record ParseStores (image tables tokens : List ℕ) (room long : ℕ) (tree : List ℕ) (c : Counts)
    (tree' : List ℕ) : Type 0 where
  pub reached : ParseReached image tables tokens room long tree (Accepted c) tree'
  pub storage : Storage reached.grammar reached.slots reached.sentence c tree'

-- of reply 9: the sentence's longest beginning that begins some sentence of the language
pub record ParseStops (image tables tokens : List ℕ) (room long : ℕ) (tree : List ℕ) (place expected : ℕ)
    (tree' : List ℕ) : Type 0 where
  pub reached : ParseReached image tables tokens room long tree (Refused (reasons.Syntax place expected)) tree'
  pub longest : Longest reached.grammar reached.sentence place
