-- The course of an edit: the new sentence is formed and parsed behind the old nodes, and the answer is what the meaning says.
use Rattle.std.specs.Prelude.{ℕ, suc, ◌+◌, ◌-◌, ◌*◌, ◌≤◌, ◌<◌, ◌≡◌, refl, Err, List, [], ◌++◌, length, take, drop}
use Rattle.std.proofs.Common.{sym, ap, ◌∙◌, append-nil, length-take, length-drop, drop_of_length-le, drop_at, drop-drop, get_or-take, arith}
use Rattle.std.proofs.Math.ListN.{get_or-append}
use Rattle.base.specs.Bytes.{byte_at, get16}
use Rattle.base.specs.Blocks.{part_tail}
use Rattle.grammar.specs.declared.Head.{Head}
use Rattle.grammar.specs.Grammar.{Grammar}
use Rattle.grammar.specs.Prediction.{Prepared}
use Rattle.grammar.specs.Forest.{yield}
use Rattle.grammar.specs.Rows.{grammar_in}
use Rattle.tables.specs.Tables.{Tables}
use Rattle.trees.specs.Area.{tokens_place, max_slots}
use Rattle.trees.specs.Nodes.{leaves_of}
use Rattle.trees.specs.Coded.{node_size, nodes_from}
use Rattle.trees.specs.Listing.{nodes_kept}
use Rattle.walks.specs.Reading.{valid_one, valid_header}
use Rattle.plain.proofs.Exactly.{accepted_exactly}
use Rattle.plain.specs.Tokens.{token_size, Sentence, length_token_bytes, tokens_from, length_tokens}
use Rattle.plain.specs.Text.{text_in}
use Rattle.notes.specs.Views.{nodes_in, with_part, nodes_in_lem}
use Rattle.plain.specs.Machine.{Ground, Done}
use Rattle.plain.specs.Plain.{Parses}
use Rattle.plain.specs.Outcome.{verdict_of}
use Rattle.plain.specs.declared.ParseError.{ParseError}
use Rattle.edits.specs.Keeping.{Edit, edit_of}
use Rattle.matching.specs.Finding.{Numbers}
use Rattle.sentences.specs.Forming.{NewSentence}
use Rattle.sentences.specs.Behind.{Fronted}
use Rattle.sentences.specs.Grounding.{part_of, ground_of, parses_of, whole_of}
use Rattle.altering.specs.Outcome.{renewed, alters_refused, AltersTree, Few}
use Rattle.altering.specs.Treed.{Treed, leaves, treed_fits}
use Rattle.altering.specs.Settling.{Both}
use Rattle.altering.specs.Parts.{nodes_drop}
use Rattle.altering.specs.Altering.{Doubled, SettledAll}

-- ---- a buffer whose part from a on was lent

module _ (w b : List ℕ) (a : ℕ) (l : a ≤ length w) where
  front_long : length (take a w) ≡ a
  front_long = omega (arith, length-take a w)

  part_back : drop a (with_part w a (length w) b) ≡ b
  part_back =
      let q : drop (length w - a) (drop a w) ≡ [] = drop_of_length-le (drop a w) {i = length w - a} (omega (arith, length-drop a w)) in
      rw q (drop_at (take a w) (b ++ []) a front_long ∙ append-nil b)

  front_kept : (j : ℕ) → j < a → byte_at (with_part w a (length w) b) j ≡ byte_at w j
  front_kept j k = get_or-append (take a w) (b ++ drop (length w - a) (drop a w)) 0 j (omega (arith, front_long)) ∙ get_or-take a w j 0 k

-- the tokens that the parse reads behind room for S nodes of its part are those behind both lists
pub text_is : (w : List ℕ) (S r : ℕ) {p : List ℕ} → p ≡ take (length w - node_size * S) (drop (node_size * S) w) → text_in S r p ≡ part_of (drop (node_size * (S + S)) w) r
unfolding text_in
text_is w S r {p} e =
    let b : node_size * S + node_size * S ≡ node_size * (S + S) = omega arith in
    rw (e, part_tail w (node_size * S), drop-drop (node_size * S) (node_size * S) w, b)

-- as many bytes are lent as the tokens have
pub sentence_long : {t : ℕ} {b : List ℕ} (m : ℕ) → Sentence t b (tokens_from b m 0) → length b ≡ token_size * m
sentence_long {b = b} m s = omega (arith, ap length s.is, length_token_bytes (tokens_from b m 0), length_tokens b m 0)

-- ---- the edit

module _ (rows : List ℕ) (head : Head) {S : ℕ} {tree w : List ℕ} {o : ℕ} (place removed : ℕ) {lent : List ℕ} (m : ℕ) (p : Prepared (grammar_in rows head))
    (h : Treed (grammar_in rows head) S tree w o) (s : Sentence head.t lent (tokens_from lent m 0)) where
  abbrev G : Grammar
  G = grammar_in rows head

  abbrev e : Edit
  e = edit_of place removed (tokens_from lent m 0)

  old_leaves : leaves_of (nodes_from w o 0) ≡ yield h.valid.tree
  old_leaves = leaves rows head S tree w o h

  module _ {w₁ : List ℕ} (f : Fronted (node_size * (S + S)) w w₁) {limit r : ℕ} (a : NewSentence w o place removed lent m limit (drop (node_size * (S + S)) w) (drop (node_size * (S + S)) w₁) r) where
    abbrev text : List ℕ
    text = part_of (drop (node_size * (S + S)) w₁) r

    module _ {lent_part : List ℕ} (lp : lent_part ≡ take (length w₁ - node_size * S) (drop (node_size * S) w₁)) where
      pub course_ground : {tables : List ℕ} → Tables G tables → Ground rows head tables (text_in S r lent_part) r
      course_ground x = rw (text_is w₁ S r lp) (ground_of rows head p h.valid old_leaves s a x)

      module _ (l : limit ≡ suc S) where
        pub course_refused : (x : ParseError) → Parses G S (tokens_from (text_in S r lent_part) r 0) (verdict_of x) → AltersTree G S e tree (Err x) tree
        course_refused x u =
            record {
              all = λ v.
                  let z : yield h.valid.tree ≡ yield v.tree = ap yield (valid_one h.valid v) in
                  alters_refused x (rw z at (parses_of rows head p h.valid old_leaves s a l (rw (text_is w₁ S r lp) at u)));
            }

        module _ (room : place + removed ≤ get16 tree tokens_place) {b : List ℕ} (k : ℕ) (d₀ : Done G S (text_in S r lent_part) r k b) (long : node_size * S ≤ length w) where
          d : Done G S text r k b
          d = rw (text_is w₁ S r lp) at d₀

          pub course_fits : k ≤ S
          course_fits = ((accepted_exactly {G = G} S (tokens_from text r 0) k h.valid.some).0 d.parses).fits

          abbrev w₂ : List ℕ
          w₂ = with_part w₁ (node_size * S) (length w₁) b

          long₁ : node_size * S ≤ length w₁
          long₁ = omega (arith, f.long)

          both : Both G S e tree (nodes_in S w₂) o k
          both =
              let few : o ≤ S = treed_fits rows head S tree w o h in
              let x : nodes_from (nodes_in S w₂) k S ≡ nodes_from b k 0 =
              let z : S + 0 ≡ S = omega arith in
              nodes_in_lem w₂ S k S (omega (arith, course_fits)) ∙ rw (part_back w₁ b (node_size * S) long₁, z) at (sym (nodes_drop w₂ S k 0)) in
              let y : nodes_from (nodes_in S w₂) o 0 ≡ nodes_from w o 0 =
              nodes_in_lem w₂ S o 0 (omega arith) ∙ nodes_kept w w₂ o 0 (λ j u v. front_kept w₁ b (node_size * S) long₁ j (omega (arith, v)) ∙ f.each j (omega (arith, v))) in
              record {
                prepared = p;
                old = record { valid = h.valid; nodes = h.nodes ∙ sym y; count = h.count };
                lists = rw x d.lists;
                leaves = rw x (d.leaves ∙ whole_of rows head p h.valid old_leaves s a l d.parses);
                fits = course_fits;
                room = omega (arith, room, (valid_header h.valid).tokens);
              }

          numbers : Numbers e place removed m
          numbers = record { place_is = refl; removed_is = refl; inserted_is = length_tokens lent m 0 }

          pub course_doubled : Doubled rows S place removed m tree (nodes_in S w₂) o k
          course_doubled = record { head = head; edit = e; numbers = numbers; both = both }

          pub course_settled : {kept : ℕ} {tree' : List ℕ} → SettledAll rows S place removed m tree (nodes_in S w₂) o k kept tree' → AltersTree G S e tree (renewed k kept) tree'
          course_settled x = x.all head e numbers both

pub few_altered : {o k r S : ℕ} → r ≤ k → r ≤ o → k ≤ S → S ≤ max_slots → Few o (renewed k r)
few_altered a b c d = Few.altered a b (omega arith)
