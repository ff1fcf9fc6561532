-- What the parse of the new sentence stands on, and what its verdict says.
use Rattle.std.specs.Prelude.{ℕ, zero, suc, ◌+◌, ◌*◌, ◌<◌, ◌≡◌, List, [], ◌∷◌, ◌++◌, length, take, drop}
use Rattle.std.proofs.Common.{ap, ◌∙◌, take_at, arith}
use Rattle.base.specs.Bytes.{Bytes, le_bytes, byte_at}
use Rattle.grammar.specs.Each.{Each, each_join, each_take, each_drop}
use Rattle.grammar.specs.Grammar.{Grammar, TerminalOf}
use Rattle.grammar.specs.Prediction.{Prepared}
use Rattle.grammar.specs.Forest.{Token, yield}
use Rattle.grammar.specs.Rows.{grammar_in}
use Rattle.grammar.specs.declared.Head.{Head}
use Rattle.tables.specs.Tables.{Tables}
use Rattle.trees.specs.Area.{Valid}
use Rattle.trees.specs.Nodes.{leaves_of}
use Rattle.trees.specs.Coded.{nodes_from}
use Rattle.plain.specs.Plain.{Verdict, accepted, Parses}
use Rattle.plain.specs.Traced.{terminals}
use Rattle.plain.specs.Tokens.{token_size, token_bytes, Sentence, length_token_bytes, Good, good_of, good_kinds, good_tags, good_linked, tokens_from, Kinds, sentence_of, sentence_one}
use Rattle.plain.specs.Machine.{Ground}
use Rattle.edits.specs.Keeping.{edit_of, edited}
use Rattle.edits.specs.Cut.{cut_run, cut_accepted}
use Rattle.sentences.specs.Adding.{Added}
use Rattle.sentences.specs.Forming.{NewSentence}

-- ---- good tokens of the new sentence

good_edited : {t : ℕ} (place removed limit : ℕ) (w ins : List Token) → Each (Good t) w → Each (Good t) ins → Each (Good t) (take limit (edited (edit_of place removed ins) w))
good_edited place removed limit w ins e f =
    each_take limit (edited (edit_of place removed ins) w) (each_join (each_take place w e) (each_join f (each_drop (place + removed) w e)))

-- ---- their bytes

kinds_bytes : {t : ℕ} (w : List Token) → Each (Good t) w → Kinds t (token_bytes w) (length w)
unfolding le_bytes
kinds_bytes {t} w e = record { is = go w e }
  where
    go : (w : List Token) → Each (Good t) w → (j : ℕ) → j < length w → TerminalOf t (byte_at (token_bytes w) (token_size * j))
    go [] e j l = absurd (omega arith)
    go (k ∷ w) (Each.cons x e) zero l = x.0
    go (k ∷ w) (Each.cons x e) (suc j) l = let q : token_size * suc j ≡ suc (suc (suc (suc (suc (token_size * j))))) = omega arith in rw q (go w e j (omega arith))

bytes_of : {t : ℕ} (w : List Token) → t < 256 → Each (Good t) w → Bytes (token_bytes w)
unfolding le_bytes
bytes_of [] l e i = omega arith
bytes_of (k ∷ w) l (Each.cons x e) zero = omega (arith, x.0.1)
bytes_of (k ∷ w) l (Each.cons x e) (suc zero) = omega arith
bytes_of (k ∷ w) l (Each.cons x e) (suc (suc zero)) = omega arith
bytes_of (k ∷ w) l (Each.cons x e) (suc (suc (suc zero))) = omega arith
bytes_of (k ∷ w) l (Each.cons x e) (suc (suc (suc (suc zero)))) = omega arith
bytes_of (k ∷ w) l (Each.cons x e) (suc (suc (suc (suc (suc i))))) = bytes_of w l e i

-- ---- the part of `out` that has them

-- the first r tokens of out
abbrev pub part_of : List ℕ → ℕ → List ℕ
part_of out r = take (token_size * r) out

module _ {t : ℕ} (few : t < 256) (w : List Token) (good : Each (Good t) w) {out out' : List ℕ} {r : ℕ} (a : Added w out out' 0 r) where
  part_is : part_of out' r ≡ token_bytes w
  part_is =
      let e : out' ≡ token_bytes w ++ drop (token_size * r) out = a.is in
      rw e (take_at (token_bytes w) (drop (token_size * r) out) (token_size * r) (omega (arith, length_token_bytes w, a.count)))

  part_long : length (part_of out' r) ≡ token_size * r
  part_long = omega (arith, ap length part_is, length_token_bytes w, a.count)

  part_kinds : Kinds t (part_of out' r) r
  part_kinds = let c : length w ≡ r = omega (arith, a.count) in rw (part_is, ← c) (kinds_bytes w good)

  part_tokens : tokens_from (part_of out' r) r 0 ≡ w
  part_tokens =
      let b : Bytes (part_of out' r) = rw part_is (bytes_of w few good) in
      let m : Sentence t (part_of out' r) w = record { is = part_is; kinds = good_kinds w good; tags = good_tags w good } in
      sentence_one (sentence_of t (part_of out' r) r b part_long part_kinds) m

-- ---- the parse

module _ (rows : List ℕ) (head : Head) (p : Prepared (grammar_in rows head)) where
  abbrev G : Grammar
  G = grammar_in rows head

  few : head.t < 256
  unfolding grammar_in
  few = omega (arith, p.formed.head.terminals.1)

  good_tree : {S : ℕ} {tree : List ℕ} (v : Valid G S tree) → Each (Good head.t) (yield v.tree)
  unfolding grammar_in
  good_tree v = good_of (yield v.tree) (terminals v.derives) (good_linked v.area.linked)

  module _ {S : ℕ} {tree : List ℕ} (v : Valid G S tree) {nodes lent out out' : List ℕ} {o place removed m limit r : ℕ}
      (q : leaves_of (nodes_from nodes o 0) ≡ yield v.tree) (s : Sentence head.t lent (tokens_from lent m 0)) (a : NewSentence nodes o place removed lent m limit out out' r) where
    good_new : Each (Good head.t) (take limit (edited (edit_of place removed (tokens_from lent m 0)) (leaves_of (nodes_from nodes o 0))))
    good_new = good_edited place removed limit (leaves_of (nodes_from nodes o 0)) (tokens_from lent m 0) (rw q (good_tree v)) (good_of (tokens_from lent m 0) s.kinds s.tags)

    -- what the parse asks for
    pub ground_of : {tables : List ℕ} → Tables G tables → Ground rows head tables (part_of out' r) r
    ground_of h =
        record { prepared = p; tables = h; long = part_long few _ good_new a.added; kinds = part_kinds few _ good_new a.added }

    -- the tokens that it reads
    pub tokens_of : tokens_from (part_of out' r) r 0 ≡ take limit (edited (edit_of place removed (tokens_from lent m 0)) (yield v.tree))
    tokens_of = rw (← q) (part_tokens few _ good_new a.added)

    -- its verdict is that of the new sentence
    pub parses_of : {u : Verdict} → limit ≡ suc S → Parses G S (tokens_from (part_of out' r) r 0) u
        → Parses G S (edited (edit_of place removed (tokens_from lent m 0)) (yield v.tree)) u
    parses_of {u} l h = cut_run (edited (edit_of place removed (tokens_from lent m 0)) (yield v.tree)) u v.some (rw (tokens_of, l) at h)

    -- and an accepted one is read to its end
    pub whole_of : {k : ℕ} → limit ≡ suc S → Parses G S (tokens_from (part_of out' r) r 0) (accepted k)
        → tokens_from (part_of out' r) r 0 ≡ edited (edit_of place removed (tokens_from lent m 0)) (yield v.tree)
    whole_of {k} l h =
        let e : tokens_from (part_of out' r) r 0 ≡ take (suc S) (edited (edit_of place removed (tokens_from lent m 0)) (yield v.tree)) = rw l at tokens_of in
        e ∙ cut_accepted (edited (edit_of place removed (tokens_from lent m 0)) (yield v.tree)) k v.some (rw e at h)
