-- Model: the sets of a grammar as words of bits, three for each symbol, and what one pass over a production does to them.
use Rattle.std.specs.Prelude.{ℕ, zero, suc, ◌+◌, ◌-◌, ◌*◌, ◌%◌, ◌^◌, Bool, List, [], ◌∷◌, get_or, set, eqb}
use Rattle.std.specs.Int.Bits.{bit_or}
use Rattle.base.specs.Choose.{choose}
use Rattle.base.specs.Blocks.{zeros}
use Rattle.grammar.specs.Rows.{symbol_space, left_at, length_at, symbols_from}

-- word X: bit 0 if X may derive nothing, bit a if a is in FIRST(X).
-- Word follows + X: bit a if the lookahead a is in FOLLOW(X), provided that every left side is reachable (`known_follow`). Word marks + X: bit 0 if X is productive, bit 1 if X is reachable
abbrev pub follows : ℕ
follows = symbol_space

abbrev pub marks : ℕ
marks = 2 * symbol_space

-- three words for each symbol
abbrev pub sets_size : ℕ
sets_size = 3 * symbol_space

-- how many bits a word has
abbrev pub word_bits : ℕ
word_bits = 32

-- a word in front of another: where the first may vanish, what it has besides that, and the other; else the first
unfoldable pub leads : ℕ → ℕ → ℕ
leads word rest = choose (eqb (word % 2) 1) (λ _. bit_or (word - 1) rest) (λ _. word)

-- the word of a list of symbols
unfoldable pub suffix : List ℕ → List ℕ → ℕ
suffix s [] = 1
suffix s (x ∷ xs) = leads (get_or s x 0) (suffix s xs)

-- 1 if all the symbols are productive
unfoldable pub both : ℕ → ℕ → ℕ
both mark rest = choose (eqb (mark % 2) 1) (λ _. rest) (λ _. 0)

unfoldable pub made : List ℕ → List ℕ → ℕ
made s [] = 1
made s (x ∷ xs) = both (get_or s (marks + x) 0) (made s xs)

-- the bits of m are put into word i
unfoldable pub raised : List ℕ → ℕ → ℕ → List ℕ
raised s i m = set s i (bit_or (get_or s i 0) m)

-- all but the lowest bit
abbrev pub high : ℕ → ℕ
high m = m - m % 2

-- a symbol x of a body of m, with `tail` the word of what stands behind it
unfoldable pub stepped : ℕ → ℕ → ℕ → List ℕ → List ℕ
stepped m x tail s = raised (raised s (follows + x) (leads tail (get_or s (follows + m) 0))) (marks + x) (high (get_or s (marks + m) 0))

-- what a pass over a body, from its end to its start, has come to
pub record Pass : Type 0 where
  pub sets : List ℕ
  pub tail : ℕ
  pub made : ℕ

unfoldable pub turn : ℕ → ℕ → Pass → Pass
turn m x w =
    record {
      sets = stepped m x w.tail w.sets;
      tail = leads (get_or w.sets x 0) w.tail;
      made = both (get_or w.sets (marks + x) 0) w.made;
    }

unfoldable pub passed : ℕ → List ℕ → List ℕ → Pass
passed m [] s = record { sets = s; tail = 1; made = 1 }
passed m (x ∷ xs) s = turn m x (passed m xs s)

unfoldable pub closing : ℕ → Pass → List ℕ
closing m w = raised (raised w.sets m w.tail) (marks + m) w.made

-- a production
unfoldable pub produced : ℕ → List ℕ → List ℕ → List ℕ
produced m xs s = closing m (passed m xs s)

-- the production in row p
unfoldable pub produced_at : List ℕ → ℕ → List ℕ → List ℕ
produced_at rows p s = produced (left_at rows p) (symbols_from rows p (length_at rows p) 0) s

-- production number p of count, counted from the front or from the back
unfoldable pub turned : Bool → ℕ → ℕ → ℕ
turned back count p = choose back (λ _. count - 1 - p) (λ _. p)

-- the first k of a sweep over the productions
unfoldable pub swept : List ℕ → Bool → ℕ → ℕ → List ℕ → List ℕ
swept rows back count zero s = s
swept rows back count (suc k) s = produced_at rows (turned back count k) (swept rows back count k s)

-- ---- what needs no production

-- the terminals 1..k: each begins itself, and is productive
unfoldable pub tokens : ℕ → List ℕ → List ℕ
tokens zero s = s
tokens (suc k) s = raised (raised (tokens k s) (suc k) (2 ^ suc k)) (marks + suc k) 1

-- the end mark follows the start symbol, which is reachable
unfoldable pub begun : ℕ → ℕ → List ℕ
begun t start = tokens t (raised (raised (zeros sets_size) (follows + start) 1) (marks + start) 2)
