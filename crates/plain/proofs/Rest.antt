-- A parse whose symbols end before its tokens, of a place with room.
use Rattle.std.specs.Prelude.{ℕ, ◌≤◌, ◌≡◌, List, length}
use Rattle.std.proofs.Common.{arith}
use Rattle.grammar.specs.Rows.{grammar_in}
use Rattle.grammar.specs.declared.Head.{Head}
use Rattle.plain.specs.Plain.{Parses, syntax}
use Rattle.plain.specs.Tokens.{tokens_from}
use Rattle.plain.specs.Machine.{Ground, Going, at_rest}

pub going_rest : {rows : List ℕ} {head : Head} {table b : List ℕ} {m : ℕ} (g : Ground rows head table b m) {S : ℕ} {n s : List ℕ} {p o k : ℕ} → length s ≤ p
    → Going (grammar_in rows head) S b m n s p o k → (k ≡ m → ⊥) → Parses (grammar_in rows head) S (tokens_from b m 0) (syntax k 1)
going_rest g lp h e = at_rest g lp h.at (omega (arith, h.matched))
