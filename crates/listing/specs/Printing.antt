-- What the program prints of a reply and its tree area is what it should print; and it can print nothing else.
use Rattle.std.specs.Prelude.{ℕ, ◌*◌, ◌≤◌, ◌<◌, ◌≡◌, refl, List, length}
use Rattle.std.proofs.Common.{sym, ap, ◌∙◌, subst, arith}
use Rattle.base.specs.Choose.{never}
use Rattle.base.specs.Blocks.{zeros, length_zeros}
use Rattle.grammar.specs.Reference.{reference_image}
use Rattle.grammar.specs.Forest.{Forest, size}
use Rattle.tables.specs.Tables.{tables_size}
use Rattle.trees.specs.Area.{max_slots, area_size, work_areas, slots, Area}
use Rattle.replies.specs.Reply.{number_of, place_of, expected_of, counts_of}
use Rattle.replies.specs.declared.Reason.{Reason}
use Rattle.replies.specs.declared.Reply.{Reply}
use Rattle.replies.specs.declared.Reply.TheVariants.{Accepted, Refused}
use Rattle.calls.specs.Order.{Outcome, Ends}
use Rattle.calls.specs.Prepare.{prepare_call}
use Rattle.calls.specs.Parse.{up_from, parse_counts, parse_call}
use Rattle.calls.proofs.OrderLaws.{one_outcome, ends_one}
use Rattle.calls.proofs.CallsUnique.{prepare_settled, parse_settled}
use Rattle.calls.proofs.Demand2.{parse_stores}
use Rattle.listing.specs.Text.{max_input, refused_text, accepted_text, ParseEnds, Parsed, Prints, too_long, refused, accepted}
use Rattle.listing.specs.Rows.{area_text, accepted_text_lem}

-- the text of a reply, and of the area that parse has left
abbrev pub reply_text : Reply → List ℕ → List ℕ
reply_text (Accepted c) b = area_text b c.total
reply_text (Refused x) b = refused_text (number_of (Refused x)) (place_of (Refused x)) (expected_of (Refused x))

-- what parse leaves in 1,000 slots: a refusal, or a tree in order
pub data Left (b : List ℕ) : Reply → Type 0 where
  nothing : (x : Reason) → Left b (Refused x)
  tree : (f : Forest) → size f ≤ max_slots → Area max_slots f b → slots f ≡ up_from 1 (size f) → Left b (Accepted (parse_counts (size f)))

pub parsed_left : {tokens b : List ℕ} {r : Reply} → Parsed tokens r b → Left b r
parsed_left {r = Refused x} h = nothing x
parsed_left {b = b} {r = Accepted c} h =
    let s = parse_stores c b h.parses.outcome in
    let x = s.storage in
    let e : s.reached.slots ≡ max_slots = omega (arith, s.reached.sized.long) in
    let a : Area max_slots x.tree b = subst (λ (k : ℕ). Area k x.tree b) e x.area in
    rw x.counts (tree x.tree (omega (arith, e, x.stored.fits)) a x.stored.order)

pub left_few : {b : List ℕ} {r : Reply} → Left b r → (counts_of r).total ≤ max_slots
left_few (nothing x) = omega arith
left_few (tree f l a o) = l

left_prints : {tokens b : List ℕ} {r : Reply} → length tokens ≤ max_input → Parsed tokens r b → Left b r → Prints tokens (reply_text r b)
left_prints l h (nothing x) = refused l h
left_prints {b = b} l h (tree f m a o) = rw (accepted_text_lem max_slots f b (omega arith) a m o) (accepted f l h a o)

pub parsed_prints : {tokens b w : List ℕ} {r : Reply} → length tokens ≤ max_input → Parsed tokens r b → w ≡ reply_text r b → Prints tokens w
parsed_prints l h e = rw e (left_prints l h (parsed_left h))

pub long_prints : {tokens w : List ℕ} → max_input < length tokens → w ≡ refused_text 7 1000 0 → Prints tokens w
long_prints l e = rw e (too_long l)

-- ---- no second text

parsed_one : {tokens b b' : List ℕ} {r r' : Reply} → Parsed tokens r b → Parsed tokens r' b' → (r ≡ r') × (b ≡ b')
parsed_one {tokens} {b} {r = r} h k =
    let settled = prepare_settled reference_image tables_size in
    let q : h.tables ≡ k.tables =
    (one_outcome (prepare_call reference_image tables_size) settled (zeros tables_size) _ _ _ _ h.prepares k.prepares).1 in
    let p = subst (λ (t : List ℕ). ParseEnds t tokens r b h.work) q h.parses in
    let y = ends_one _ (parse_settled _ _ _ _ _) p k.parses in
    (y.0, y.1)

text_accepted : {tokens b : List ℕ} (f : Forest) → Parsed tokens (Accepted (parse_counts (size f))) b → Area max_slots f b → slots f ≡ up_from 1 (size f) → area_text b (size f) ≡ accepted_text f
text_accepted {b = b} f h a o = accepted_text_lem max_slots f b (omega arith) a (left_few (parsed_left h)) o

pub prints_one : {tokens t t' : List ℕ} → Prints tokens t → Prints tokens t' → t ≡ t'
prints_one (too_long l) (too_long m) = refl
prints_one (too_long l) (refused m h) = absurd (omega arith)
prints_one (too_long l) (accepted f m h a o) = absurd (omega arith)
prints_one (refused l h) (too_long m) = absurd (omega arith)
prints_one (refused {x = x} l h) (refused {x = y} m k) = let q = (parsed_one h k).0 in let e : x ≡ y = cc in rw e
prints_one (refused l h) (accepted f m k a o) = let q = (parsed_one h k).0 in never (cc)
prints_one (accepted f l h a o) (too_long m) = absurd (omega arith)
prints_one (accepted f l h a o) (refused m k) = let q = (parsed_one h k).0 in never (cc)
prints_one (accepted {tree = b} f l h a o) (accepted {tree = b'} f' m k a' o') =
    let q = parsed_one h k in
    let e : size f ≡ size f' = ap (λ (r : Reply). (counts_of r).total) q.0 in
    let y : area_text b (size f) ≡ area_text b' (size f') = rw (e, q.1) in
    sym (text_accepted f h a o) ∙ y ∙ text_accepted f' k a' o'

-- ---- as the code has it

pub parsed_of : {image tables₀ tables tokens tree₀ tree work₀ work : List ℕ} {told r : Reply} → image ≡ reference_image
    → tables₀ ≡ zeros tables_size → tree₀ ≡ zeros (area_size max_slots) → work₀ ≡ zeros (work_areas * area_size max_slots)
    → Outcome (prepare_call image (length tables₀)) tables₀ told tables
    → Ends (parse_call image tables tokens (length work₀) (length tree₀)) tree₀ work₀ r tree work → Parsed tokens r tree
parsed_of {tables = tables} {work = work} {told = told} ei et ea ew h k =
    record {
      told = told;
      tables = tables;
      work = work;
      prepares = rw (ei, et, length_zeros tables_size) at h;
      parses = rw (ei, ea, ew, length_zeros (area_size max_slots), length_zeros (work_areas * area_size max_slots)) at k;
    }
