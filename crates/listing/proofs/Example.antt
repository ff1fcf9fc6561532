-- The example of specs/Example: its bytes are those tokens, parse stores that tree, and the program prints those ten lines and nothing else.
use Rattle.std.specs.Prelude.{ℕ, ◌*◌, ◌≤◌, ◌<◌, ◌≡◌, refl, List}
use Rattle.std.proofs.Common.{ap, subst, ◌∙◌, arith}
use Rattle.base.specs.Bytes.{le_bytes}
use Rattle.base.specs.Choose.{choose}
use Rattle.grammar.specs.Each.{Each}
use Rattle.grammar.specs.Forest.{size, Derives}
use Rattle.grammar.specs.Reference.{reference}
use Rattle.tables.specs.Tables.{tables_size, Tables}
use Rattle.trees.specs.Area.{max_slots, tag_space, area_size, work_areas, Area}
use Rattle.plain.specs.Plain as plain
use Rattle.plain.specs.Tokens.{Sentence}
use Rattle.replies.specs.declared.Reply.{Reply}
use Rattle.replies.specs.declared.Reply.TheVariants.{Accepted}
use Rattle.calls.specs.Checks.{Sized}
use Rattle.calls.specs.Prepare.{prepare_with}
use Rattle.calls.specs.Parse.{parse_counts, Stored, parse_with}
use Rattle.calls.proofs.OrderLaws.{passes, has_counts, require_single}
use Rattle.calls.proofs.CheckLaws.{area_single, sentence_single, parsed_single, given_rest}
use Rattle.calls.proofs.CallsUnique.{stored_one, stored_parses}
use Rattle.worked.specs.Ready.{reference_prepared, reference_fit}
use Rattle.listing.specs.Text.{digits_of, field, node_rows, first_row, accepted_text, Parsed, Prints, too_long, refused, accepted}
use Rattle.listing.specs.Printing.{prints_one}
use Rattle.listing.specs.Example.{example_bytes, example_tokens, example_tree, example_text}

pub example : accepted_text example_tree ≡ example_text
unfolding accepted_text first_row node_rows field digits_of choose
example = refl

-- ---- the bytes are these tokens, and they have this tree

spelt : Sentence reference.t example_bytes example_tokens
unfolding reference le_bytes
spelt =
    let none : 0 < tag_space = omega arith in
    let seven : 7 < tag_space = omega arith in
    record {
      is = refl;
      kinds = Each.cons {x = 1} (omega arith, omega arith) (Each.cons {x = 2} (omega arith, omega arith) (Each.cons {x = 5} (omega arith, omega arith) Each.nil));
      tags = Each.cons none (Each.cons seven (Each.cons none Each.nil));
    }

grown : Stored reference max_slots example_tokens example_tree
unfolding reference
grown =
    record {
      derives =
          Derives.node (record { found = refl })
          (Derives.node (record { found = refl })
          (Derives.leaf {a = 1} (omega arith, omega arith)
          (Derives.node (record { found = refl }) (Derives.leaf {a = 2} (omega arith, omega arith) (Derives.node (record { found = refl }) Derives.nil Derives.nil))
          (Derives.node (record { found = refl }) Derives.nil (Derives.leaf {a = 5} (omega arith, omega arith) Derives.nil))))
          (Derives.node (record { found = refl }) Derives.nil Derives.nil)) Derives.nil;
      yields = refl;
      fits = omega arith;
      order = refl;
    }

-- ---- parse stores it

parses : plain.Parses reference max_slots example_tokens (plain.accepted 9)
parses = stored_parses (omega arith) grown

-- whatever the call leaves, it has accepted the tokens, and the area is the tree's
pub example_parsed : {r : Reply} {b : List ℕ} → Parsed example_bytes r b → (r ≡ Accepted (parse_counts 9)) × Area max_slots example_tree b
example_parsed {b = b} h =
    let room : ℕ = work_areas * area_size max_slots in
    let l : work_areas * area_size max_slots ≤ room = omega arith in
    let z : Sized max_slots (area_size max_slots) = record { some = omega arith; few = omega arith; long = refl } in
    let p = passes require_single refl (given_rest (prepare_with tables_size) reference_fit h.prepares) in
    let t : Tables reference h.tables = (has_counts p).2.1 in
    let o = given_rest (parse_with h.tables example_bytes room (area_size max_slots)) reference_fit h.parses.outcome in
    let s = passes sentence_single spelt (passes require_single l (passes area_single z (passes require_single t o))) in
    let (c, q, x) = has_counts (passes (parsed_single reference_prepared) parses s) in
    let e : x.tree ≡ example_tree = stored_one reference_prepared x.stored grown in
    (q ∙ ap Accepted (x.counts ∙ ap (λ f. parse_counts (size f)) e), subst (λ f. Area max_slots f b) e x.area)

-- ---- the text

pub example_prints : {r : Reply} {b : List ℕ} → Parsed example_bytes r b → Prints example_bytes example_text
example_prints {b = b} h =
    let q = example_parsed h in
    let k : Parsed example_bytes (Accepted (parse_counts 9)) b = rw q.0 at h in
    let p : Prints example_bytes (accepted_text example_tree) = accepted example_tree (omega arith) k q.1 refl in
    rw example at p

-- of the 15 bytes the program prints the ten lines
pub example_printed : {t : List ℕ} → Prints example_bytes t → t ≡ example_text
example_printed (too_long l) = absurd (omega arith)
example_printed (refused l h) = prints_one (refused l h) (example_prints h)
example_printed (accepted f l h a o) = prints_one (accepted f l h a o) (example_prints h)
