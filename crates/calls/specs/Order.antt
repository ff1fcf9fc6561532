-- Meaning: a call is the checks that it tries, in their order, and what it accepts. Document 01: "They are tried in
-- this order, each call taking those that concern it".
use Rattle.std.specs.Prelude.{ℕ, ◌≡◌, refl, List, length}
use Rattle.base.specs.Blocks.{copied, zeros}
use Rattle.grammar.specs.Derivation.{Lowest}
use Rattle.replies.specs.Reply.{number_of, reply_bytes}
use Rattle.replies.specs.declared.Counts.{Counts}
use Rattle.replies.specs.declared.Reason.{Reason}
use Rattle.replies.specs.declared.Reply.{Reply}
use Rattle.replies.specs.declared.Reply.TheVariants.{Accepted, Refused}

-- ---- a call

-- what a check finds where it passes, and the reasons that it refuses with
pub record Check (A : Type 0) : Type 1 where
  pub Pass : A → Type 0
  pub Fail : Reason → Type 0

-- what an accepted reply, number 0, holds
pub record Held (A : Type 0) : Type 0 where
  pub reply : A → Reply
  pub number : (x : A) → number_of (reply x) ≡ 0

-- its counts
abbrev pub counts : Held Counts
counts = record { reply = Accepted; number = λ c. refl }

-- a call that is lent buffers B: its checks, then what an accepted reply holds and the buffers after it
pub data Call (B : Type 0) : Type 1 where
  try : {A : Type 0} → Check A → (A → Call B) → Call B
  accept : {A : Type 0} → Held A → (A → B → Type 0) → Call B

abbrev pub ◌>>=◌ : {A B : Type 0} → Check A → (A → Call B) → Call B
◌>>=◌ c next = try c next

abbrev pub ◌>>◌ : {A B : Type 0} → Check A → Call B → Call B
◌>>◌ c next = try c (λ _. next)

-- ---- how it ends

-- a check and the rest of the call; "Any refusal, also of a call added later, leaves every lent buffer but the work
-- area unchanged"
pub data Tried {A B : Type 0} (c : Check A) (Next : A → Reply → B → Type 0) (before : B) : Reply → B → Type 0 where
  refused : {p : Reason} → c.Fail p → Tried c Next before (Refused p) before
  passed : {x : A} {r : Reply} {after : B} → c.Pass x → Next x r after → Tried c Next before r after

pub data Accepting {A B : Type 0} (h : Held A) (P : A → B → Type 0) : Reply → B → Type 0 where
  accepting : {x : A} {after : B} → P x after → Accepting h P (h.reply x) after

-- the reply, and the lent buffers after the call
abbrev pub Outcome : {B : Type 0} → Call B → B → Reply → B → Type 0
Outcome (try c next) before = Tried c (λ x. Outcome (next x) before) before
Outcome (accept h P) before = Accepting h P

-- with the work area: "Parse and edit, and any later call with a work area, leave the whole of it zero, whichever reply
-- they give"
pub record Ends {B : Type 0} (call : Call B) (before : B) (work : List ℕ) (r : Reply) (after : B)
    (work' : List ℕ) : Type 0 where
  pub outcome : Outcome call before r after
  pub cleared : work' ≡ zeros (length work)

-- with the slice for the reply, which gets the reply's bytes, "as much as fits"; a call that has no work area has an
-- empty one here
pub record Called {B : Type 0} (call : Call B) (before : B) (work slice : List ℕ) (after : B)
    (work' slice' : List ℕ) : Type 0 where
  pub reply : Reply
  pub ends : Ends call before work reply after work'
  pub written : slice' ≡ copied slice 0 (reply_bytes reply)

-- ---- kinds of checks

-- this reason, where P holds
pub data Exactly (P : Type 0) (reason : Reason) : Reason → Type 0 where
  exactly : P → Exactly P reason reason

-- the reason with a place of which P holds
pub data WithPlace (P : ℕ → Type 0) (reason : ℕ → Reason) : Reason → Type 0 where
  at : {k : ℕ} → P k → WithPlace P reason (reason k)

-- P must hold
abbrev pub require : Type 0 → Reason → Check Unit
require P reason = record { Pass = λ _. P; Fail = Exactly (P → ⊥) reason }

-- there must be something of which P holds
abbrev pub find : {A : Type 0} → (A → Type 0) → Reason → Check A
find {A} P reason = record { Pass = P; Fail = Exactly ((x : A) → P x → ⊥) reason }

-- there must be no number of which P holds; the place is the lowest
abbrev pub none : (ℕ → Type 0) → (ℕ → Reason) → Check Unit
none P reason = record { Pass = λ _. (k : ℕ) → P k → ⊥; Fail = WithPlace (Lowest P) reason }
