-- Meaning: the checks of document 01's table of replies, each said once.
use Rattle.std.specs.Prelude.{ℕ, ◌+◌, ◌*◌, ◌≤◌, ◌≡◌, List, [], ◌∷◌, length}
use Rattle.grammar.specs.Grammar.{Grammar}
use Rattle.grammar.specs.Derivation.{Useless}
use Rattle.grammar.specs.Prediction.{Conflict}
use Rattle.grammar.specs.Image.{Image, Bad}
use Rattle.grammar.specs.Forest.{Token, Forest, yield, Derives}
use Rattle.tables.specs.Tables.{tables_size, Tables}
use Rattle.trees.specs.Area.{max_slots, area_size, work_areas, Area}
use Rattle.plain.specs.Plain.{accepted, syntax, out_of_room, Parses}
use Rattle.plain.specs.Tokens.{token_size, Sentence, BadToken}
use Rattle.replies.specs.declared.Reason.{Reason}
use Rattle.replies.specs.declared.Reason.TheVariants as reasons
use Rattle.calls.specs.Order.{Check, Call, ◌>>=◌, ◌>>◌, WithPlace, require, find, none}

-- ---- replies 1 to 3: the grammar

-- 1: "a grammar record is bad, or the image is empty"; "byte offset of the first bad one"
abbrev pub readable : List ℕ → Check Grammar
readable image = record { Pass = Image image; Fail = WithPlace (Bad image) reasons.BadGrammar }

-- 2: "a nonterminal derives no terminal string (the empty one counts), or no string derived from the start holds it";
-- "lowest such symbol"
abbrev pub useful : Grammar → Check Unit
useful G = none (Useless G) reasons.UselessSymbol

-- 3: "not LL(1)"; "lowest nonterminal in conflict"
abbrev pub ll1 : Grammar → Check Unit
ll1 G = none (Conflict G) reasons.NotLl1

-- every call begins with these
abbrev pub given : {B : Type 0} → List ℕ → (Grammar → Call B) → Call B
given image next = do
  G ← readable image  -- 1
  useful G  -- 2
  ll1 G  -- 3
  next G

-- ---- reply 4: the tables, of `long` bytes

-- "tables of another length"
abbrev pub tables_sized : ℕ → Check Unit
tables_sized long = require (long ≡ tables_size) reasons.WrongTables

-- "in parse and edit also not what prepare writes"
abbrev pub tables_of : Grammar → List ℕ → Check Unit
tables_of G tables = require (Tables G tables) reasons.WrongTables

-- ---- reply 5: the tree area, of `long` bytes

-- "16+16S bytes, S from 1 to 1,000"
pub record Sized (S bytes : ℕ) : Type 0 where
  pub some : 1 ≤ S
  pub few : S ≤ max_slots
  pub long : bytes ≡ area_size S

-- "area length wrong"
abbrev pub area : ℕ → Check ℕ
area long = find (λ S. Sized S long) reasons.WrongTree

-- the area of S slots is that of the derivation tree f
pub record AreaHolds (G : Grammar) (S : ℕ) (b : List ℕ) (f : Forest) : Type 0 where
  pub derives : Derives G (G.start ∷ []) f
  pub area : Area S f b

-- "in edit and read back also no valid tree"
abbrev pub tree_in : Grammar → ℕ → List ℕ → Check Forest
tree_in G S tree = find (AreaHolds G S tree) reasons.WrongTree

-- ---- reply 6: the work area, of `room` bytes, for a tree area of `long` bytes

-- "work shorter than three times the tree area"; "length needed"
abbrev pub work_for : ℕ → ℕ → Check Unit
work_for long room = require (work_areas * long ≤ room) (reasons.ShortWork (work_areas * long))

-- ---- reply 7: the tokens

-- "token bytes end inside a record, or a kind is not 1..t"; "first bad record, from 0"
abbrev pub sentence : ℕ → List ℕ → Check (List Token)
sentence t bytes = record { Pass = Sentence t bytes; Fail = WithPlace (BadToken t bytes) reasons.BadToken }

-- ---- reply 8: the range

-- "place plus removed exceeds the old token count"; "that count"
abbrev pub range : Forest → ℕ → ℕ → Check Unit
range old place removed = require (place + removed ≤ length (yield old)) (reasons.BeyondTokens (length (yield old)))

-- ---- replies 9 and 10: the plain parse

-- the reason that a verdict gives
pub data Rejected (G : Grammar) (S : ℕ) (w : List Token) : Reason → Type 0 where
  wrong_syntax : {i e : ℕ} → Parses G S w (syntax i e) → Rejected G S w (reasons.Syntax i e)
  no_room : Parses G S w out_of_room → Rejected G S w reasons.NoRoom

-- "Between 9 and 10 the plain parse decides"; where it accepts, the tree has n nodes
abbrev pub parsed : Grammar → ℕ → List Token → Check ℕ
parsed G S w = record { Pass = λ n. Parses G S w (accepted n); Fail = Rejected G S w }

-- ---- reply 11: the output, of `long` bytes

-- the bytes of a tree's tokens, "5 bytes a token"
abbrev pub needed : Forest → ℕ
needed f = token_size * length (yield f)

-- "output shorter than 5 bytes a token"; "bytes needed"
abbrev pub output_for : Forest → ℕ → Check Unit
output_for f long = require (needed f ≤ long) (reasons.ShortOutput (needed f))
