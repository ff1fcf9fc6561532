-- Laws of every call: no second outcome; a refusal leaves every lent buffer; the bytes of the reply; what a call with
-- some reply has passed.
use Rattle.std.specs.Prelude.{ℕ, ◌≤◌, ◌≡◌, refl, ◌↔◌, List, [], length}
use Rattle.std.proofs.Common.{sym, ap, ◌∙◌, subst, arith}
use Rattle.base.specs.Blocks.{copied, zeros}
use Rattle.grammar.specs.Single.{lowest_one}
use Rattle.replies.specs.Reply.{word_size, number_of, reply_bytes}
use Rattle.replies.specs.ReplyLaws.{refused_number, number_told}
use Rattle.replies.specs.declared.Counts.{Counts}
use Rattle.replies.specs.declared.Reason.{Reason}
use Rattle.replies.specs.declared.Reply.{Reply}
use Rattle.replies.specs.declared.Reply.TheVariants.{Accepted, Refused}
use Rattle.calls.specs.Order.{Check, counts, Call, try, accept, Tried, refused, passed, Accepting, accepting, Outcome, Ends, Called, Exactly, exactly, WithPlace, at, require, find, none}
use Rattle.calls.specs.OrderLaws.{Single, Settled, One, SaysZero, HasNumber}

-- ---- no second outcome

tried_one : {A B : Type 0} {c : Check A} {Next : A → Reply → B → Type 0} {before v w : B} {r s : Reply} → Single c
    → ((x : A) → c.Pass x → One (Next x))
    → Tried c Next before r v → Tried c Next before s w → (r ≡ s) × (v ≡ w)
tried_one h k (refused f) (refused g) = (ap Refused (h.reason f g), refl)
tried_one h k (refused f) (passed p o) = absurd (h.apart p f)
tried_one h k (passed p o) (refused f) = absurd (h.apart p f)
tried_one {Next = Next} {v = v} {w} {r} {s} h k (passed {x = x} p o) (passed {x = y} q o') =
    k y q r s v w (subst (λ z. Next z r v) (h.finds p q) o) o'

pub one_outcome : {B : Type 0} (call : Call B) → Settled call → (before : B) → One (Outcome call before)
one_outcome (try c next) h before r s v w o o' = tried_one h.0 (λ x p. one_outcome (next x) (h.1 x p) before) o o'
one_outcome (accept held P) h before r s v w o o' = go o o'
  where
    go : {r s : Reply} {v w : _} → Accepting held P r v → Accepting held P s w → (r ≡ s) × (v ≡ w)
    go (accepting {x = x} {after = v} p) (accepting {x = y} {after = w} q) =
        let e = h x y v w p q in
        (ap held.reply e.0, e.1)

module _ {B : Type 0} (call : Call B) (settled : Settled call) {before : B} {work : List ℕ} where
  -- "For every input a public call's contract determines reply and buffers completely"
  pub ends_one : {r s : Reply} {v w : B} {work' work'' : List ℕ} → Ends call before work r v work'
      → Ends call before work s w work'' → (r ≡ s) × (v ≡ w) × (work' ≡ work'')
  ends_one {r} {s} {v} {w} h k =
      let e = one_outcome call settled before r s v w h.outcome k.outcome in
      (e.0, e.1, h.cleared ∙ sym k.cleared)

  -- of the exported call
  pub called_one : {slice slice' slice'' : List ℕ} {v w : B} {work' work'' : List ℕ}
      → Called call before work slice v work' slice' → Called call before work slice w work'' slice''
      → (v ≡ w) × (work' ≡ work'') × (slice' ≡ slice'')
  called_one {slice} h k =
      let e = ends_one h.ends k.ends in
      (e.1, e.2, h.written ∙ ap (λ (r : Reply). copied slice 0 (reply_bytes r)) e.0 ∙ sym k.written)

-- a call that is lent no work area
pub called_without : {B : Type 0} (call : Call B) (before : B) (slice : List ℕ) (after : B) (slice' : List ℕ)
    (r : Reply) → Outcome call before r after → slice' ≡ copied slice 0 (reply_bytes r)
    → Called call before [] slice after [] slice'
unfolding zeros
called_without call before slice after slice' r o e = record { reply = r; ends = record { outcome = o; cleared = refl }; written = e }

-- ---- refusals

-- number 0 is that of no refusal
not_refused : {A : Type 0} (p : Reason) → number_of (Refused p) ≡ 0 → A
not_refused p e = absurd (omega (arith, (refused_number p).0, e))

-- "Any refusal, also of a call added later, leaves every lent buffer but the work area unchanged"
pub refusal_keeps : {B : Type 0} (call : Call B) (before : B) (r : Reply) (after : B) → (number_of r ≡ 0 → ⊥)
    → Outcome call before r after → after ≡ before
refusal_keeps (try {A = A} c next) before r after e o = go (λ x k. refusal_keeps (next x) before r after e k) o
  where
    go : {Next : A → Reply → _ → Type 0} {r : Reply} {after : _} → ((x : A) → Next x r after → after ≡ before)
        → Tried c Next before r after → after ≡ before
    go k (refused f) = refl
    go k (passed {x = x} q o) = k x o
refusal_keeps (accept h P) before r after e o = go o e
  where
    go : {r : Reply} {after : _} → Accepting h P r after → (number_of r ≡ 0 → ⊥) → after ≡ before
    go (accepting {x = x} q) e = absurd (e (h.number x))

-- with other earlier contents of the lent buffers the reply is the same, and where it is accepted so is what is left in
-- them
pub any_before : {B : Type 0} (call : Call B) (before other : B) (r : Reply) (after : B) → Outcome call before r after
    → (v : B) × Outcome call other r v × (number_of r ≡ 0 → v ≡ after)
any_before (try {A = A} c next) before other r after o = go (λ x k. any_before (next x) before other r after k) o
  where
    go : {Next Next' : A → Reply → _ → Type 0} {r : Reply} {after : _}
        → ((x : A) → Next x r after → (v : _) × Next' x r v × (number_of r ≡ 0 → v ≡ after))
        → Tried c Next before r after
        → (v : _) × Tried c Next' other r v × (number_of r ≡ 0 → v ≡ after)
    go k (refused {p = p} f) = (other, refused f, λ e. not_refused p e)
    go k (passed {x = x} q o) = let (v, h, e) = k x o in (v, passed q h, e)
any_before (accept h P) before other r after o = (after, o, λ e. refl)

-- ---- the reply's bytes

module _ {B : Type 0} {call : Call B} {before after : B} {work work' slice slice' : List ℕ}
    (l : word_size ≤ length slice) (h : Called call before work slice after work' slice') where
  says_zero : SaysZero slice' ↔ (number_of h.reply ≡ 0)
  says_zero = number_told slice slice' h.reply l h.written 0 (omega arith)

  -- what holds exactly of an accepted reply holds exactly of these bytes
  pub zero_exactly : {P : Type 0} → (number_of h.reply ≡ 0) ↔ P → SaysZero slice' ↔ P
  zero_exactly e = (λ x. e.0 (says_zero.0 x), λ p. says_zero.1 (e.1 p))

  -- of the exported call: a refusal leaves every lent buffer
  pub called_refused : (SaysZero slice' → ⊥) → after ≡ before
  called_refused n = refusal_keeps call before h.reply after (λ e. n (says_zero.1 e)) h.ends.outcome

-- ---- what has passed

-- a check that is known to pass has passed
pub passes : {A B : Type 0} {c : Check A} {Next : A → Reply → B → Type 0} {before after : B} {r : Reply} {x : A}
    → Single c → c.Pass x → Tried c Next before r after → Next x r after
passes s p (refused f) = absurd (s.apart p f)
passes {Next = Next} {after = after} {r = r} s p (passed q h) = subst (λ z. Next z r after) (s.finds q p) h

-- a check whose reasons have another number than the reply has passed
pub goes_by : {A B : Type 0} {c : Check A} {Next : A → Reply → B → Type 0} {before after : B} {r : Reply} {k : ℕ}
    → HasNumber c k → (number_of r ≡ k → ⊥) → Tried c Next before r after
    → (x : A) × c.Pass x × Next x r after
goes_by n e (refused {p = p} f) = absurd (e (n p f))
goes_by n e (passed {x = x} p h) = (x, p, h)

-- and so has every check of an accepted call
pub has_passed : {A B : Type 0} {c : Check A} {Next : A → Reply → B → Type 0} {before after : B} {r : Reply}
    → number_of r ≡ 0 → Tried c Next before r after → (x : A) × c.Pass x × Next x r after
has_passed e (refused {p = p} f) = not_refused p e
has_passed e (passed {x = x} p h) = (x, p, h)

-- what an accepted reply holds
pub has_counts : {B : Type 0} {P : Counts → B → Type 0} {after : B} {r : Reply} → Accepting counts P r after
    → (c : Counts) × (r ≡ Accepted c) × P c after
has_counts (accepting {x = c} p) = (c, refl, p)

pub is_accepted : {B : Type 0} {P : Counts → B → Type 0} {after : B} {r : Reply} {c : Counts} → r ≡ Accepted c
    → Accepting counts P r after → P c after
is_accepted {P = P} {after} e (accepting {x = d} p) = subst (λ z. P z after) (cc) p

-- ---- the kinds of checks: their numbers, and that they are single

pub exactly_numbered : {P : Type 0} {reason : Reason} (p : Reason) → Exactly P reason p
    → number_of (Refused p) ≡ number_of (Refused reason)
exactly_numbered p (exactly f) = refl

pub placed_numbered : {P : ℕ → Type 0} {reason : ℕ → Reason} {n : ℕ} → ((k : ℕ) → number_of (Refused (reason k)) ≡ n)
    → (p : Reason) → WithPlace P reason p → number_of (Refused p) ≡ n
placed_numbered e p (at {k = k} f) = e k

pub require_single : {P : Type 0} {reason : Reason} → Single (require P reason)
require_single {P} {reason} = record { finds = λ p q. refl; reason = same; apart = λ p f. other p f }
  where
    same : {p q : Reason} → Exactly (P → ⊥) reason p → Exactly (P → ⊥) reason q → p ≡ q
    same (exactly f) (exactly g) = refl

    other : {p : Reason} → P → Exactly (P → ⊥) reason p → ⊥
    other p (exactly f) = f p

pub find_single : {A : Type 0} {P : A → Type 0} {reason : Reason} → ((x y : A) → P x → P y → x ≡ y)
    → Single (find P reason)
find_single {A} {P} {reason} one = record { finds = λ {x} {y} p q. one x y p q; reason = same; apart = other }
  where
    same : {p q : Reason} → Exactly ((x : A) → P x → ⊥) reason p → Exactly ((x : A) → P x → ⊥) reason q → p ≡ q
    same (exactly f) (exactly g) = refl

    other : {x : A} {p : Reason} → P x → Exactly ((x : A) → P x → ⊥) reason p → ⊥
    other {x} p (exactly f) = f x p

module _ {P : ℕ → Type 0} {reason : ℕ → Reason} where
  pub placed_one : ((k l : ℕ) → P k → P l → k ≡ l) → {p q : Reason} → WithPlace P reason p → WithPlace P reason q
      → p ≡ q
  placed_one one (at {k = k} f) (at {k = l} g) = ap reason (one k l f g)

  pub placed_apart : {X : Type 0} → ((k : ℕ) → X → P k → ⊥) → {p : Reason} → X → WithPlace P reason p → ⊥
  placed_apart not x (at {k = k} f) = not k x f

pub none_single : {P : ℕ → Type 0} {reason : ℕ → Reason} → Single (none P reason)
none_single {P} {reason} =
    record { finds = λ p q. refl; reason = λ f g. placed_one (λ k l. lowest_one) f g; apart = λ n f. placed_apart (λ k m x. m k x.holds) n f }
