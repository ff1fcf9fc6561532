-- A parse of the parts of a work area is one of the whole: the nodes, the tokens and the stack stand there one behind the other.
use Rattle.std.specs.Prelude.{ℕ, ◌*◌, ◌/◌, ◌≤◌, ◌≡◌, Result, Ok, Err, List, ◌++◌, length, take, drop}
use Rattle.std.proofs.Common.{sym, arith}
use Rattle.std.proofs.Math.ListN.{get_or-append}
use Rattle.grammar.specs.Grammar.{Grammar}
use Rattle.grammar.specs.Rows.{grammar_in}
use Rattle.grammar.specs.declared.Head.{Head}
use Rattle.trees.specs.Coded.{node_size, nodes_from}
use Rattle.trees.specs.Listing.{nodes_kept}
use Rattle.plain.specs.Tokens.{token_size}
use Rattle.plain.specs.Machine.{Ground, Done}
use Rattle.plain.specs.Outcome.{Ran}
use Rattle.plain.specs.Text.{text_in}
use Rattle.plain.specs.declared.ParseError.{ParseError}
use Rattle.plain.proofs.Exactly.{accepted_exactly}

-- the nodes of the whole are those at its beginning
done_joined : {G : Grammar} {S m o : ℕ} {b n : List ℕ} (v : List ℕ) → node_size * o ≤ length n → Done G S b m o n → Done G S b m o (n ++ v)
done_joined {o = o} {n = n} v l d =
    let e : nodes_from (n ++ v) o 0 ≡ nodes_from n o 0 = nodes_kept n (n ++ v) o 0 (λ j x y. get_or-append n v 0 j (omega (arith, l, y))) in
    record { parses = d.parses; lists = rw e d.lists; leaves = rw e d.leaves; numbered = rw e d.numbered }

-- the work area in its parts: n is the room for the nodes, b the tokens
module _ {rows : List ℕ} {head : Head} {table rest b : List ℕ} (S m : ℕ) (w : List ℕ) (g : Ground rows head table (text_in S m w) m)
    (e : rest ≡ drop (node_size * S) w) (f : b ≡ take (token_size * m) rest) where
  is_text : text_in S m w ≡ b
  unfolding text_in
  is_text = sym (rw e at f)

  is_count : m ≡ length b / token_size
  is_count = let l : length b ≡ token_size * m = rw is_text at g.long in omega arith

  pub ground_part : Ground rows head table b (length b / token_size)
  ground_part = rw (← is_count, ← is_text) g

  pub ran_joined : (n v : List ℕ) (r : Result ℕ ParseError) → 1 ≤ S → length n ≡ node_size * S → Ran (grammar_in rows head) S b (length b / token_size) n r
      → Ran (grammar_in rows head) S (text_in S m w) m (n ++ v) r
  ran_joined n v (Ok o) l q d =
      let x = ((accepted_exactly S _ o l).0 d.parses).fits in
      rw is_text (rw (← is_count) at (done_joined v (omega arith) d))
  ran_joined n v (Err e) l q h = rw is_text (rw (← is_count) at h)
