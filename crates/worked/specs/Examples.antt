-- The starred examples of document 01, and one edit more, after H: one table, proved by one statement about the definitions.
use Rattle.std.specs.Prelude.{ℕ, ◌+◌, ◌-◌, ◌<◌, ◌≡◌, List, [], ◌∷◌, get_or, eqb}
use Rattle.base.specs.Choose.{choose}
use Rattle.grammar.specs.Limits.{columns}
use Rattle.grammar.specs.Prediction.{Break}
use Rattle.grammar.specs.Forest.{Token, kinds, Forest}
use Rattle.grammar.specs.Reference.{reference}
use Rattle.tables.specs.Tables.{row_symbol, Prediction, Tables}
use Rattle.plain.specs.Plain.{Verdict, accepted, syntax, out_of_room, Parses}
use Rattle.replies.specs.declared.Reason.{Reason}
use Rattle.replies.specs.declared.Reason.TheVariants.{BeyondTokens, Syntax}
use Rattle.replies.specs.declared.Reply.TheVariants.{Refused}
use Rattle.calls.specs.Parse.{Stored}
use Rattle.worked.specs.Entries.{prediction_byte, break_byte}
use Rattle.worked.specs.Sums.{sum}
use Rattle.worked.specs.Calls.{Given, EndsAs, parsed_tree}
use Rattle.worked.specs.EditRows.{kept, made, OldTree, Row, left_by, Setting, Replies, Remade}

-- ---- what an example says

-- 1 for a value that is not 0, and for one that is 255
unfoldable pub used : ℕ → ℕ
used v = choose (eqb v 0) (λ _. 0) (λ _. 1)

unfoldable pub error : ℕ → ℕ
error v = choose (eqb v 255) (λ _. 1) (λ _. 0)

-- the reference grammar's predictions and break points, so many of which are not 0, and so many of the latter 255
pub record Counted (predictions breaks errors : ℕ) : Type 0 where
  pub prediction : ℕ → ℕ → ℕ
  pub point : ℕ → ℕ → ℕ → ℕ
  pub predicts : (R a : ℕ) → R < reference.n → a < columns → Prediction reference (row_symbol reference R) a (prediction R a)
  pub breaks_at : (R Q a : ℕ) → R < reference.n → Q < reference.n → a < columns
      → Break reference (row_symbol reference R) (row_symbol reference Q) a (point R Q a)
  pub predicted : sum reference.n (λ R. sum columns (λ a. used (prediction R a))) ≡ predictions
  pub broken : sum reference.n (λ R. sum reference.n (λ Q. sum columns (λ a. used (point R Q a)))) ≡ breaks
  pub wrong : sum reference.n (λ R. sum reference.n (λ Q. sum columns (λ a. error (point R Q a)))) ≡ errors
  -- its tables are these bytes and no others; they hold the values at document 01's places
  pub bytes : List ℕ
  pub tables : Tables reference bytes
  pub no_others : (w : List ℕ) → Tables reference w → w ≡ bytes
  pub prediction_at : (R a : ℕ) → R < reference.n → a < columns → get_or bytes (prediction_byte R a) 0 ≡ prediction R a
  pub point_at : (R Q a : ℕ) → R < reference.n → Q < reference.n → a < columns → get_or bytes (break_byte R Q a) 0 ≡ point R Q a
  -- and so many in all: "The first 1,024 are predictions", and 32,768 more make 33,792
  pub predicted_bytes : sum 1024 (λ i. used (get_or bytes i 0)) ≡ predictions
  pub broken_bytes : sum 32768 (λ i. used (get_or bytes (1024 + i) 0)) ≡ breaks
  pub wrong_bytes : sum 32768 (λ i. error (get_or bytes (1024 + i) 0)) ≡ errors

pub data Example : Type 0 where
  -- A. so many predictions; so many break points are not 0, of which so many are 255
  counts : (predictions breaks errors : ℕ) → Example
  -- B. [M, N, a] is v, and so is its byte in the tables, where the nonterminals are 6 and up
  break_point : (M N a v : ℕ) → Example
  -- C. the tree of a sentence, stored in S slots
  tree : (S : ℕ) (w : List Token) (f : Forest) → Example
  -- C to F. how a sentence of these kinds, whatever its tags, ends in S slots: by the plain parse, and by the call, which can be made
  parse : (S : ℕ) (ks : List ℕ) (v : Verdict) → Example
  -- G to K. there is such an old tree, and there are such new tokens; and whatever the tags of both, the edit of that tree is accepted
  edit : (r : Row) → Example
  -- or it is refused, and the tree untouched; `new` are the kinds of the new tokens
  refusal : (old : OldTree) (place removed : ℕ) (new : List ℕ) (reason : Reason) → Example

abbrev pub Says : Example → Type 0
Says (counts p b e) = Counted p b e
Says (break_point M N a v) = Break reference M N a v × ((w : List ℕ) → Tables reference w → get_or w (break_byte (M - 6) (N - 6) a) 0 ≡ v)
Says (tree S w f) = Stored reference S w f
Says (parse S ks v) = Given S ks × ((w : List Token) → kinds w ≡ ks → Parses reference S w v) × ((x : Given S ks) → EndsAs x v)
Says (edit r) = Setting r.old r.inserted × ((x : Setting r.old r.inserted) → Remade r x)
Says (refusal old place removed new reason) =
    Setting old new × ((x : Setting old new) → Replies x place removed (Refused reason) x.tree)

-- ---- the table

-- "U = kinds 1 2 5, and V = 1 2 5 1 2 5"
abbrev pub kinds_u : List ℕ
kinds_u = 1 ∷ 2 ∷ 5 ∷ []

abbrev pub kinds_v : List ℕ
kinds_v = 1 ∷ 2 ∷ 5 ∷ 1 ∷ 2 ∷ 5 ∷ []

-- "with its tree as parse leaves it (17 nodes). S is 1,000 where not said"
abbrev pub tree_u : OldTree
tree_u = parsed_tree 1000 kinds_u 9

abbrev pub tree_v : OldTree
tree_v = parsed_tree 1000 kinds_v 17

-- G. "U's tree, at 2 remove 0, insert `4 2`": "New Bar in slot 7; the other four in 10 to 13"
abbrev pub example_g : Row
example_g =
    record {
      old = tree_u;
      place = 2;
      removed = 0;
      inserted = 4 ∷ 2 ∷ [];
      total = 13;
      kept = 8;
      made = 5;
      up = 1;
      nodes = kept 1 6 1 ∷ kept 2 7 3 ∷ kept 3 1 0 ∷ kept 4 8 4 ∷ kept 5 2 0 ∷ kept 6 9 6 ∷ made 7 10 7 ∷ made 10 4 0 ∷ made 11 8 4 ∷ made 12 2 0 ∷ made 13 9 6 ∷ kept 8 5 0 ∷ kept 9 6 2 ∷ [];
    }

-- H. "V, at 0 remove 3": "root slot 9"
abbrev pub example_h : Row
example_h =
    record {
      old = tree_v;
      place = 0;
      removed = 3;
      inserted = [];
      total = 9;
      kept = 9;
      made = 0;
      up = 8;
      nodes = kept 9 6 1 ∷ kept 10 7 3 ∷ kept 11 1 0 ∷ kept 12 8 4 ∷ kept 13 2 0 ∷ kept 14 9 6 ∷ kept 15 10 8 ∷ kept 16 5 0 ∷ kept 17 6 2 ∷ [];
    }

-- the tree that H leaves: U's kinds in slots 9 to 17, slots 1 to 8 free
abbrev pub tree_h : OldTree
tree_h = left_by example_h

-- one edit after another, so that the old tree is not as parse leaves it: H's tree, at 0 remove 0, insert `1 2 5`.
-- The eight new nodes, a Book, which is the root, and a whole Rule, take the lowest free slots, 1 to 8; all of H's are kept
abbrev pub after_h : Row
after_h =
    record {
      old = tree_h;
      place = 0;
      removed = 0;
      inserted = kinds_u;
      total = 17;
      kept = 9;
      made = 8;
      up = 0;
      nodes =
          made 1 6 1 ∷ made 2 7 3 ∷ made 3 1 0 ∷ made 4 8 4 ∷ made 5 2 0 ∷ made 6 9 6 ∷ made 7 10 8 ∷ made 8 5 0 ∷
          kept 9 6 1 ∷ kept 10 7 3 ∷ kept 11 1 0 ∷ kept 12 8 4 ∷ kept 13 2 0 ∷ kept 14 9 6 ∷ kept 15 10 8 ∷ kept 16 5 0 ∷ kept 17 6 2 ∷ [];
    }

-- I. "V, at 2 remove 2, insert `3`": "New: Rest in 6, comma in 8, last Book in 9"
abbrev pub example_i : Row
example_i =
    record {
      old = tree_v;
      place = 2;
      removed = 2;
      inserted = 3 ∷ [];
      total = 13;
      kept = 10;
      made = 3;
      up = 7;
      nodes = kept 1 6 1 ∷ kept 2 7 3 ∷ kept 3 1 0 ∷ kept 4 8 4 ∷ kept 5 2 0 ∷ made 6 9 5 ∷ made 8 3 0 ∷ kept 12 8 4 ∷ kept 13 2 0 ∷ kept 14 9 6 ∷ kept 7 10 8 ∷ kept 16 5 0 ∷ made 9 6 2 ∷ [];
    }

-- K. "U: at 3 remove 0 is in range"
abbrev pub example_k : Row
example_k =
    record {
      old = tree_u;
      place = 3;
      removed = 0;
      inserted = [];
      total = 9;
      kept = 9;
      made = 0;
      up = 0;
      nodes = kept 1 6 1 ∷ kept 2 7 3 ∷ kept 3 1 0 ∷ kept 4 8 4 ∷ kept 5 2 0 ∷ kept 6 9 6 ∷ kept 7 10 8 ∷ kept 8 5 0 ∷ kept 9 6 2 ∷ [];
    }

unfoldable pub examples : List Example
examples =
    counts 9 25 17 ∷
    break_point 9 10 4 10 ∷
    break_point 7 6 1 7 ∷
    break_point 8 9 3 255 ∷
    break_point 8 10 2 0 ∷
    tree 1000 [] (Forest.node 1 6 2 Forest.nil Forest.nil) ∷
    parse 1000 [] (accepted 1) ∷
    parse 9 (1 ∷ 2 ∷ 5 ∷ []) (accepted 9) ∷
    parse 8 (1 ∷ 2 ∷ 5 ∷ []) out_of_room ∷
    parse 9 (1 ∷ 2 ∷ []) (syntax 2 56) ∷
    parse 8 (1 ∷ 2 ∷ []) out_of_room ∷
    parse 1000 (1 ∷ 2 ∷ 4 ∷ 2 ∷ 4 ∷ []) (syntax 4 32) ∷
    parse 1000 kinds_v (accepted 17) ∷
    edit example_g ∷
    edit example_h ∷
    edit after_h ∷
    edit example_i ∷
    refusal tree_v 2 2 [] (Syntax 2 56) ∷
    edit example_k ∷
    refusal tree_u 3 1 [] (BeyondTokens 3) ∷ []
