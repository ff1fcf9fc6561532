-- Laws: each check passes or refuses in one way only; replies 1 to 3 together; valid trees.
use Rattle.std.specs.Prelude.{ℕ, ◌≤◌, ◌≡◌, refl, List, length, get_or}
use Rattle.std.proofs.Common.{ap, ◌∙◌, subst, arith}
use Rattle.base.specs.Choose.{never}
use Rattle.base.specs.Blocks.{zeros, byte_zeros}
use Rattle.grammar.specs.Grammar.{Grammar}
use Rattle.grammar.specs.Prediction.{Prepared}
use Rattle.grammar.specs.Images.{image_one, good_not_bad, bad_one}
use Rattle.grammar.specs.Forest.{Token, Forest}
use Rattle.trees.specs.Area.{header_bytes, slot_at, Area, Valid}
use Rattle.trees.specs.Slots.{slot_byte}
use Rattle.walks.specs.Reading.{valid_one}
use Rattle.plain.specs.Plain.{accepted, Parses}
use Rattle.plain.specs.One.{runs_one}
use Rattle.plain.specs.Tokens.{sentence_one, bad_not_sentence, bad_token_one}
use Rattle.replies.specs.Reply.{number_of}
use Rattle.replies.specs.declared.Reason.{Reason}
use Rattle.replies.specs.declared.Reply.{Reply}
use Rattle.replies.specs.declared.Reason.TheVariants as reasons
use Rattle.replies.specs.declared.Reply.TheVariants.{Refused}
use Rattle.calls.specs.Order.{Call, Outcome, refused, passed, exactly, at}
use Rattle.calls.proofs.OrderLaws.{find_single, none_single, placed_numbered, placed_one, placed_apart, passes, goes_by}
use Rattle.calls.specs.OrderLaws.{Single, Settled}
use Rattle.calls.specs.Checks.{readable, given, Sized, area, AreaHolds, tree_in, sentence, Rejected, wrong_syntax, no_room, parsed}
use Rattle.calls.specs.CheckLaws.{Fit, Unfit, bad_image, useless, conflict}

pub readable_single : {image : List ℕ} → Single (readable image)
readable_single = record { finds = image_one; reason = λ f g. placed_one (λ k l. bad_one) f g; apart = λ i f. placed_apart (λ k. good_not_bad) i f }

pub sized_one : {S S' size : ℕ} → Sized S size → Sized S' size → S ≡ S'
sized_one h k = let e = h.long in let f = k.long in omega arith

pub area_single : {size : ℕ} → Single (area size)
area_single = find_single (λ S S' h k. sized_one h k)

-- a tree that an area holds is a valid one
abbrev pub valid_of : {G : Grammar} {S : ℕ} {b : List ℕ} {f : Forest} → Sized S (length b) → AreaHolds G S b f
    → Valid G S b
valid_of {f = f} z h = record { some = z.some; few = z.few; tree = f; derives = h.derives; area = h.area }

pub valid_sized : {G : Grammar} {S : ℕ} {b : List ℕ} → Valid G S b → Sized S (length b)
valid_sized v = record { some = v.some; few = v.few; long = v.area.long }

pub valid_holds : {G : Grammar} {S : ℕ} {b : List ℕ} (v : Valid G S b) → AreaHolds G S b v.tree
valid_holds v = record { derives = v.derives; area = v.area }

pub tree_single : {G : Grammar} {S : ℕ} {b : List ℕ} → Sized S (length b) → Single (tree_in G S b)
tree_single z = find_single (λ f f' h k. valid_one (valid_of z h) (valid_of z k))

-- an area has one tree, in one number of slots
pub trees_one : {G : Grammar} {S S' : ℕ} {b : List ℕ} (u : Valid G S b) (v : Valid G S' b) → u.tree ≡ v.tree
trees_one {G} {b = b} u v =
    let e = sized_one (valid_sized v) (valid_sized u) in
    valid_one u (record { some = u.some; few = u.few; tree = v.tree; derives = v.derives; area = subst (λ (x : ℕ). Area x v.tree b) e v.area })

-- "An all-zero area is no tree"
pub zeros_no_tree : {G : Grammar} {S : ℕ} (n : ℕ) → Valid G S (zeros n) → ⊥
unfolding header_bytes
zeros_no_tree n v =
    let e : get_or (slot_at (zeros n) 0) 0 0 ≡ 0x54 = ap (λ (b : List ℕ). get_or b 0 0) v.area.header in
    let z : get_or (slot_at (zeros n) 0) 0 0 ≡ 0 = slot_byte (zeros n) 0 0 (omega arith) ∙ byte_zeros n 0 in
    omega (arith, e, z)

-- so that a call which looks for one refuses it
pub zeros_refused : {G : Grammar} {S : ℕ} (n : ℕ) → Sized S (length (zeros n))
    → (tree_in G S (zeros n)).Fail reasons.WrongTree
zeros_refused n z = exactly (λ f h. zeros_no_tree n (valid_of z h))

pub sentence_single : {t : ℕ} {bytes : List ℕ} → Single (sentence t bytes)
sentence_single = record { finds = sentence_one; reason = λ f g. placed_one (λ k l. bad_token_one) f g; apart = λ s f. placed_apart (λ k s b. bad_not_sentence b s) s f }

pub parsed_single : {G : Grammar} {S : ℕ} {w : List Token} → Prepared G → Single (parsed G S w)
parsed_single {G} {S} {w} g = record { finds = λ p q. let e = runs_one g p q in cc; reason = same; apart = apart }
  where
    same : {p q : Reason} → Rejected G S w p → Rejected G S w q → p ≡ q
    same (wrong_syntax p) (wrong_syntax q) = let e = runs_one g p q in cc
    same (wrong_syntax p) (no_room q) = let e = runs_one g p q in never (cc)
    same (no_room p) (wrong_syntax q) = let e = runs_one g p q in never (cc)
    same (no_room p) (no_room q) = refl

    apart : {n : ℕ} {p : Reason} → Parses G S w (accepted n) → Rejected G S w p → ⊥
    apart h (wrong_syntax q) = let e = runs_one g h q in never (cc)
    apart h (no_room q) = let e = runs_one g h q in never (cc)

-- ---- replies 1 to 3

module _ {B : Type 0} {image : List ℕ} (next : Grammar → Call B) where
  pub given_settled : ((G : Grammar) → Prepared G → Settled (next G)) → Settled (given image next)
  given_settled h =
      (readable_single, λ G i. (none_single, λ _ u. (none_single, λ _ l. h G (record { formed = i.formed; useful = u; ll1 = l }))))

  module _ {before : B} {r : Reply} {after : B} where
    -- with a grammar that passes, the call is the rest of it
    pub given_rest : {G : Grammar} → Fit image G → Outcome (given image next) before r after
        → Outcome (next G) before r after
    given_rest f h =
        passes none_single f.prepared.ll1 (passes none_single f.prepared.useful (passes readable_single f.reads h))

    pub given_passed : {G : Grammar} → Fit image G → Outcome (next G) before r after
        → Outcome (given image next) before r after
    given_passed f h = passed f.reads (passed f.prepared.useful (passed f.prepared.ll1 h))

    -- a call whose reply is none of 1 to 3 has such a grammar
    pub given_by : ((k : ℕ) → 1 ≤ k → k ≤ 3 → number_of r ≡ k → ⊥) → Outcome (given image next) before r after
        → (G : Grammar) × Fit image G × Outcome (next G) before r after
    given_by n h =
        let (G, i, o) = goes_by (placed_numbered (λ k. refl)) (n 1 (omega arith) (omega arith)) h in
        let (_, u, o') = goes_by (placed_numbered (λ k. refl)) (n 2 (omega arith) (omega arith)) o in
        let (_, l, rest) = goes_by (placed_numbered (λ k. refl)) (n 3 (omega arith) (omega arith)) o' in
        (G, record { reads = i; prepared = record { formed = i.formed; useful = u; ll1 = l } }, rest)

  pub given_refused : {p : Reason} {before : B} → Unfit image p → Outcome (given image next) before (Refused p) before
  given_refused (bad_image b) = refused (at b)
  given_refused (useless i u) = passed i (refused (at u))
  given_refused (conflict i u l) = passed i (passed u (refused (at l)))
