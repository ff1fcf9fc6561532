-- The numbers of document 01, "Symbols and the grammar image": each has its one name here, and one in src/.
use Rattle.std.specs.Prelude.{ℕ}

-- "As a lookahead, 0 is the end of the sentence"
abbrev pub end_mark : ℕ
end_mark = 0

-- "t is 1..31, n is 1..32"
abbrev pub max_terminals : ℕ
max_terminals = 31

abbrev pub max_nonterminals : ℕ
max_nonterminals = 32

-- "32 columns of lookahead 0..31"
abbrev pub columns : ℕ
columns = 32

-- "up to 128 productions"
abbrev pub max_productions : ℕ
max_productions = 128

-- "body length 0..8"
abbrev pub max_body : ℕ
max_body = 8

-- "Each record has a two-byte mark": `47 48` for the head, `47 50` for a production
abbrev pub record_mark : ℕ
record_mark = 0x47

abbrev pub head_mark : ℕ
head_mark = 0x48

abbrev pub production_mark : ℕ
production_mark = 0x50

-- the bytes of a head, and those of a production before its body
abbrev pub head_size : ℕ
head_size = 5

abbrev pub prefix_size : ℕ
prefix_size = 4
