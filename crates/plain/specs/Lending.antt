-- What the methods of a parse ask for and promise, by what the parse reads.
use Rattle.std.specs.Prelude.{ℕ, ◌+◌, ◌/◌, ◌≡◌, Result, Ok, Err, List, length}
use Rattle.grammar.specs.Rows.{grammar_in}
use Rattle.plain.specs.Plain.{Parses}
use Rattle.plain.specs.Tokens.{token_size, tokens_from}
use Rattle.plain.specs.Machine.{Ground, Going}
use Rattle.plain.specs.Outcome.{verdict_of, Ran}
use Rattle.plain.specs.declared.ParseError.{ParseError}
use Rattle.plain.specs.declared.Lent.{Lent}
use Rattle.plain.specs.declared.Place.{Place}

-- how many tokens are lent
abbrev pub count_of : Lent → ℕ
count_of l = length l.text.now / token_size

-- the grammar passes replies 1 to 3, the tables are its tables, and the tokens are good
abbrev pub Grounded : Lent → Type 0
Grounded l = Ground l.rows.now l.head l.tables.now l.text.now (count_of l)

-- the parse is there, with the nodes in n and the stack in s
abbrev pub AtPlace : Lent → List ℕ → List ℕ → Place → Type 0
AtPlace l n s q = Going (grammar_in l.rows.now l.head) l.slots l.text.now (count_of l) n s q.top q.nodes q.token

-- it goes on after one node more than o, or is over
abbrev pub Turned : Lent → List ℕ → List ℕ → ℕ → Result Place ParseError → Type 0
Turned l n s o (Ok q) = AtPlace l n s q × (q.nodes ≡ o + 1)
Turned l n s o (Err e) = Parses (grammar_in l.rows.now l.head) l.slots (tokens_from l.text.now (count_of l) 0) (verdict_of e)

-- how it ended
abbrev pub Ended : Lent → List ℕ → Result ℕ ParseError → Type 0
Ended l n r = Ran (grammar_in l.rows.now l.head) l.slots l.text.now (count_of l) n r
