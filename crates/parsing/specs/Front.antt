-- The first of the lent tokens, copied behind the room for the nodes: the parse there ends as one of all of them does.
use Rattle.std.specs.Prelude.{ℕ, zero, suc, ◌+◌, ◌*◌, ◌≤◌, ◌<◌, min, ◌≡◌, Result, Ok, Err, List, ◌++◌, length, take}
use Rattle.std.proofs.Common.{ap, ◌∙◌, take_at, drop_at, get_or-take, length-take-le, arith}
use Rattle.base.specs.Bytes.{byte_at}
use Rattle.grammar.specs.Rows.{grammar_in}
use Rattle.grammar.specs.declared.Head.{Head}
use Rattle.trees.specs.Coded.{node_size}
use Rattle.plain.specs.Plain.{accepted, Parses}
use Rattle.plain.specs.Tokens.{token_size, token_at, tokens_from}
use Rattle.plain.specs.Machine.{Ground}
use Rattle.plain.specs.Text.{text_in}
use Rattle.plain.specs.Outcome.{Ran, verdict_of}
use Rattle.plain.specs.declared.ParseError.{ParseError}
use Rattle.edits.specs.Cut.{cut_run, cut_accepted}

-- the tokens of bytes that begin alike
tokens_front : (b b' : List ℕ) (k m r i : ℕ) → r ≡ min m k → ((j : ℕ) → j < token_size * (i + r) → byte_at b' j ≡ byte_at b j) → tokens_from b' r i ≡ take k (tokens_from b m i)
unfolding token_at
tokens_front b b' zero m r i e h = let q : r ≡ 0 = omega (arith, e) in rw q
tokens_front b b' (suc k) zero r i e h = let q : r ≡ 0 = omega (arith, e) in rw q
tokens_front b b' (suc k) (suc m) zero i e h = absurd (omega (arith, e))
tokens_front b b' (suc k) (suc m) (suc r) i e h =
    let n : ℕ = token_size * i in
    let a0 = h n (omega arith) in
    let a1 = h (n + 1) (omega arith) in
    let a2 = h (n + 1 + 1) (omega arith) in
    let a3 = h (n + 1 + 2) (omega arith) in
    let a4 = h (n + 1 + 3) (omega arith) in
    let f = tokens_front b b' k m r (i + 1) (omega (arith, e)) (λ j l. h j (omega arith)) in
    cc

-- the first r of m lent tokens, x, stand behind the room for the nodes, n
module _ {rows : List ℕ} {head : Head} {table b : List ℕ} {m : ℕ} (g : Ground rows head table b m) (S r : ℕ) (e : r ≡ min m (S + 1))
    (n x v : List ℕ) (ln : length n ≡ node_size * S) (c : x ≡ take (token_size * r) b) where
  front_long : length (take (token_size * r) b) ≡ token_size * r
  front_long = length-take-le (token_size * r) b (omega (arith, e, g.long))

  is_front : text_in S r (n ++ (x ++ v)) ≡ take (token_size * r) b
  unfolding text_in
  is_front =
      let y = take (token_size * r) b in
      rw (c, drop_at n (y ++ v) (node_size * S) ln) (take_at y v (token_size * r) front_long)

  front_byte : (j : ℕ) → j < token_size * r → byte_at (text_in S r (n ++ (x ++ v))) j ≡ byte_at b j
  front_byte j l = rw is_front (get_or-take (token_size * r) b j 0 l)

  -- what their parse asks for
  pub ground_front : Ground rows head table (text_in S r (n ++ (x ++ v))) r
  ground_front =
      record {
        prepared = g.prepared;
        tables = g.tables;
        long = ap length is_front ∙ front_long;
        kinds = record { is = λ j l. rw (front_byte (token_size * j) (omega arith)) (g.kinds.is j (omega (arith, e))) };
      }

  are_front : tokens_from (text_in S r (n ++ (x ++ v))) r 0 ≡ take (suc S) (tokens_from b m 0)
  are_front = tokens_front b (text_in S r (n ++ (x ++ v))) (suc S) m r 0 (omega (arith, e)) (λ j l. front_byte j (omega arith))

  -- and what it says of them all
  pub ran_front : (w : List ℕ) (y : Result ℕ ParseError) → 1 ≤ S → Ran (grammar_in rows head) S (text_in S r (n ++ (x ++ v))) r w y → Ran (grammar_in rows head) S b m w y
  ran_front w (Ok o) l d =
      let p : Parses (grammar_in rows head) S (take (suc S) (tokens_from b m 0)) (accepted o) = rw are_front at d.parses in
      record {
        parses = cut_run (tokens_from b m 0) (accepted o) l p;
        lists = d.lists;
        leaves = d.leaves ∙ are_front ∙ cut_accepted (tokens_from b m 0) o l p;
        numbered = d.numbered;
      }
  ran_front w (Err e) l h = cut_run (tokens_from b m 0) (verdict_of e) l (rw are_front at h)
