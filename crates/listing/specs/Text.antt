-- Meaning: what the program prints. Document 01, "Reference book and marked examples", the program `listing`.
use Rattle.std.specs.Prelude.{ℕ, zero, suc, ◌+◌, ◌*◌, ◌/◌, ◌%◌, ◌≤◌, ◌<◌, ◌≡◌, List, [], ◌∷◌, ◌++◌, length, ltb}
use Rattle.base.specs.Choose.{choose}
use Rattle.base.specs.Blocks.{zeros}
use Rattle.grammar.specs.Forest.{Forest, size, yield}
use Rattle.grammar.specs.Reference.{reference_image}
use Rattle.tables.specs.Tables.{tables_size}
use Rattle.trees.specs.Area.{max_slots, area_size, work_areas, slots, Area}
use Rattle.replies.specs.Reply.{number_of, place_of, expected_of}
use Rattle.replies.specs.declared.Reason.{Reason}
use Rattle.replies.specs.declared.Reply.{Reply}
use Rattle.replies.specs.declared.Reply.TheVariants.{Accepted, Refused}
use Rattle.calls.specs.Order.{Outcome, Ends}
use Rattle.calls.specs.Prepare.{prepare_call}
use Rattle.calls.specs.Parse.{up_from, parse_counts, parse_call}

abbrev pub space : ℕ
space = 32

abbrev pub newline : ℕ
newline = 10

-- a number in decimal without leading zeros, where it has at most f digits
unfoldable pub digits_of : ℕ → ℕ → List ℕ
digits_of zero n = []
digits_of (suc f) n = choose (ltb n 10) (λ _. (48 + n) ∷ []) (λ _. digits_of f (n / 10) ++ ((48 + n % 10) ∷ []))

-- a 64-bit number has at most 20 digits
abbrev pub most_digits : ℕ
most_digits = 20

-- a number in decimal, and what stands behind it
unfoldable pub field : ℕ → ℕ → List ℕ
field n mark = digits_of most_digits n ++ (mark ∷ [])

-- "Fields are one space apart, and a newline ends each line"
abbrev pub row : List ℕ → List ℕ
row [] = newline ∷ []
row (n ∷ []) = field n newline
row (n ∷ m ∷ ns) = field n space ++ row (m ∷ ns)

-- the words `accepted` and `refused`, each with the space behind it
abbrev pub accepted_word : List ℕ
accepted_word = 97 ∷ 99 ∷ 99 ∷ 101 ∷ 112 ∷ 116 ∷ 101 ∷ 100 ∷ space ∷ []

abbrev pub refused_word : List ℕ
refused_word = 114 ∷ 101 ∷ 102 ∷ 117 ∷ 115 ∷ 101 ∷ 100 ∷ space ∷ []

-- "slot, symbol, production, parent, tag", of trees that stand below the slot `parent`
unfoldable pub node_rows : ℕ → Forest → List ℕ
node_rows parent Forest.nil = []
node_rows parent (Forest.leaf s a g r) = row (s ∷ a ∷ 0 ∷ parent ∷ g ∷ []) ++ node_rows parent r
node_rows parent (Forest.node s M p k r) = row (s ∷ M ∷ p ∷ parent ∷ 0 ∷ []) ++ (node_rows s k ++ node_rows parent r)

-- "It prints `accepted nodes tokens`"
unfoldable pub first_row : ℕ → ℕ → List ℕ
first_row nodes tokens = accepted_word ++ row (nodes ∷ tokens ∷ [])

-- "then in preorder" the nodes
unfoldable pub accepted_text : Forest → List ℕ
accepted_text f = first_row (size f) (length (yield f)) ++ node_rows 0 f

-- "or `refused number place expected`"
unfoldable pub refused_text : ℕ → ℕ → ℕ → List ℕ
refused_text number place expected = refused_word ++ row (number ∷ place ∷ expected ∷ [])

-- "Input above 5,000 bytes"
abbrev pub max_input : ℕ
max_input = 5000

-- "parses them with the built-in grammar and 1,000 slots"; the reply, and tree area and work after it
abbrev pub ParseEnds : (tables tokens : List ℕ) → Reply → List ℕ → List ℕ → Type 0
ParseEnds tables tokens =
    Ends (parse_call reference_image tables tokens (work_areas * area_size max_slots) (area_size max_slots)) (zeros (area_size max_slots))
    (zeros (work_areas * area_size max_slots))

-- the same, with the tables that prepare writes
pub record Parsed (tokens : List ℕ) (r : Reply) (tree : List ℕ) : Type 0 where
  pub told : Reply
  pub tables : List ℕ
  pub work : List ℕ
  pub prepares : Outcome (prepare_call reference_image tables_size) (zeros tables_size) told tables
  pub parses : ParseEnds tables tokens r tree work

-- the text of token bytes
pub data Prints (tokens : List ℕ) : List ℕ → Type 0 where
  too_long : max_input < length tokens → Prints tokens (refused_text 7 1000 0)
  refused : {x : Reason} {tree : List ℕ} → length tokens ≤ max_input → Parsed tokens (Refused x) tree → Prints tokens (refused_text (number_of (Refused x)) (place_of (Refused x)) (expected_of (Refused x)))
  accepted : {tree : List ℕ} (f : Forest) → length tokens ≤ max_input → Parsed tokens (Accepted (parse_counts (size f))) tree → Area max_slots f tree → slots f ≡ up_from 1 (size f) → Prints tokens (accepted_text f)
