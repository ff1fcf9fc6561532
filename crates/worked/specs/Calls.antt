-- Calls of parse with the reference grammar: what an example says of one, and how the plain parse gives it.
use Rattle.std.specs.Prelude.{ℕ, ◌*◌, ◌≤◌, ◌≡◌, refl, true, List, [], length}
use Rattle.std.proofs.Common.{ap, sym, ◌∙◌, arith}
use Rattle.base.specs.Blocks.{zeros, length_zeros}
use Rattle.grammar.specs.Grammar.{Grammar}
use Rattle.grammar.specs.Forest.{Token, kinds, Forest, size}
use Rattle.grammar.specs.Reference.{reference, reference_image}
use Rattle.trees.specs.Area.{max_slots, area_size, work_areas, Area}
use Rattle.plain.specs.Plain.{Verdict, accepted, syntax, out_of_room, Parses}
use Rattle.plain.specs.Tokens.{token_bytes, Sentence}
use Rattle.replies.specs.declared.Reply.{Reply}
use Rattle.replies.specs.declared.Reason.TheVariants.{Syntax, NoRoom}
use Rattle.replies.specs.declared.Reply.TheVariants.{Accepted, Refused}
use Rattle.calls.specs.Order.{Call, Outcome, Ends, refused, passed, accepting}
use Rattle.calls.specs.Checks.{Sized, wrong_syntax, no_room}
use Rattle.calls.specs.Parse.{up_from, Stored, parse_counts, Storage, parse_with, parse_call}
use Rattle.calls.proofs.CheckLaws.{given_passed}
use Rattle.worked.specs.Ready.{reference_fit}
use Rattle.worked.specs.Entries.{reference_tables, reference_tables_lem}
use Rattle.worked.specs.Ordered.{stores, stored_laid}
use Rattle.worked.specs.EditRows.{OldTree, Setting}
use Rattle.worked.specs.Edits.{spelled, kinds_spelled, spoken, spelled_sentence}

-- ---- what an example says of a parse

-- what parse is given: the bytes of a sentence of kinds ks, an area of S slots, and work enough; tags are free, and so is what stood in area and work
pub record Given (S : ℕ) (ks : List ℕ) : Type 0 where
  pub sentence : List Token
  pub sentence_kinds : kinds sentence ≡ ks
  pub tokens : List ℕ
  pub spelt : Sentence reference.t tokens sentence
  pub tree : List ℕ
  pub sized : Sized S (length tree)
  pub work : List ℕ
  pub long : work_areas * length tree ≤ length work

-- the call gives this reply and this tree area
abbrev pub Answers : {S : ℕ} {ks : List ℕ} → Given S ks → Reply → List ℕ → Type 0
Answers x r tree' =
    Ends (parse_call reference_image reference_tables x.tokens (length x.work) (length x.tree)) x.tree x.work r tree' (zeros (length x.work))

-- it is accepted, with n as total and made, and the sentence's tree is stored
pub record Accepts {S : ℕ} {ks : List ℕ} (n : ℕ) (x : Given S ks) : Type 0 where
  pub tree : Forest
  pub stored : Stored reference S x.sentence tree
  pub nodes : size tree ≡ n
  pub bytes : List ℕ
  pub area : Area S tree bytes
  pub outcome : Answers x (Accepted (parse_counts n)) bytes

-- as the plain parse ends; a refusal leaves the area as it was
abbrev pub EndsAs : {S : ℕ} {ks : List ℕ} → Given S ks → Verdict → Type 0
EndsAs x (accepted n) = Accepts n x
EndsAs x (syntax i e) = Answers x (Refused (Syntax i e)) x.tree
EndsAs x out_of_room = Answers x (Refused NoRoom) x.tree

-- ---- of all kinds 1..5 there is such a call

pub given : (S : ℕ) (ks : List ℕ) → 1 ≤ S → S ≤ max_slots → spoken ks ≡ true → Given S ks
given S ks l m e =
    let n = length_zeros (area_size S) in
    record {
      sentence = spelled ks [];
      sentence_kinds = kinds_spelled ks [];
      tokens = token_bytes (spelled ks []);
      spelt = spelled_sentence ks e;
      tree = zeros (area_size S);
      sized = record { some = l; few = m; long = n };
      work = zeros (work_areas * area_size S);
      long = omega (arith, n, length_zeros (work_areas * area_size S));
    }

-- ---- it is right

module _ {S : ℕ} {ks : List ℕ} (x : Given S ks) where
  abbrev next : Grammar → Call (List ℕ)
  next = parse_with reference_tables x.tokens (length x.work) (length x.tree)

  answered : {r : Reply} {tree' : List ℕ} → Outcome (next reference) x.tree r tree' → Answers x r tree'
  answered h = record { outcome = given_passed next reference_fit h; cleared = refl }

  pub ends_as : (v : Verdict) → Parses reference S x.sentence v → EndsAs x v
  ends_as (accepted n) p =
      let q = stores x.sized.some p in
      let b = stored_laid q.1 x.spelt.tags in
      let d : Storage reference S x.sentence (parse_counts n) b.0 = record { tree = q.0; stored = q.1; counts = ap parse_counts (sym q.2); area = b.1 } in
      record {
        tree = q.0;
        stored = q.1;
        nodes = q.2;
        bytes = b.0;
        area = b.1;
        outcome = answered (passed reference_tables_lem (passed x.sized (passed x.long (passed x.spelt (passed p (accepting d))))));
      }
  ends_as (syntax i e) p = answered (passed reference_tables_lem (passed x.sized (passed x.long (passed x.spelt (refused (wrong_syntax p))))))
  ends_as out_of_room p = answered (passed reference_tables_lem (passed x.sized (passed x.long (passed x.spelt (refused (no_room p))))))

-- ---- what parse leaves, an edit may start from

-- the tree of n nodes that parse leaves of a sentence of these kinds: "Parse puts nodes in slots 1, 2, .. in preorder"
abbrev pub parsed_tree : (S : ℕ) (ks : List ℕ) (n : ℕ) → OldTree
parsed_tree S ks n = record { S = S; sentence = ks; slots = up_from 1 n }

-- with new tokens of tags 0
pub parsed_setting : {S n : ℕ} {ks : List ℕ} {x : Given S ks} → Accepts n x → (new : List ℕ) → spoken new ≡ true
    → Setting (parsed_tree S ks n) new
parsed_setting {x = x} a new e =
    let h = a.stored in
    record {
      some = x.sized.some;
      few = x.sized.few;
      sentence = x.sentence;
      sentence_kinds = x.sentence_kinds;
      old = a.tree;
      placed = record { derives = h.derives; yields = h.yields; order = h.order ∙ ap (up_from 1) a.nodes };
      tree = a.bytes;
      area = a.area;
      inserted = spelled new [];
      inserted_kinds = kinds_spelled new [];
      tokens = token_bytes (spelled new []);
      spelt = spelled_sentence new e;
      work = zeros (work_areas * length a.bytes);
      long = omega (arith, length_zeros (work_areas * length a.bytes));
    }
