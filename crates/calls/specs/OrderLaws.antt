-- What the laws of every call say.
use Rattle.std.specs.Prelude.{ℕ, ◌≡◌, List, take}
use Rattle.base.specs.Bytes.{le_bytes}
use Rattle.replies.specs.Reply.{word_size, number_of}
use Rattle.replies.specs.declared.Reason.{Reason}
use Rattle.replies.specs.declared.Reply.{Reply}
use Rattle.replies.specs.declared.Reply.TheVariants.{Refused}
use Rattle.calls.specs.Order.{Check, Call, try, accept}

-- a check finds one thing or refuses with one reason, and not both
pub record Single {A : Type 0} (c : Check A) : Type 0 where
  pub finds : {x y : A} → c.Pass x → c.Pass y → x ≡ y
  pub reason : {p q : Reason} → c.Fail p → c.Fail q → p ≡ q
  pub apart : {x : A} {p : Reason} → c.Pass x → c.Fail p → ⊥

-- so does each check of a call, whatever passed before it; and one thing only is accepted
abbrev pub Settled : {B : Type 0} → Call B → Type 0
Settled (try {A = A} c next) = Single c × ((x : A) → c.Pass x → Settled (next x))
Settled {B} (accept {A = A} h P) = (x y : A) (v w : B) → P x v → P y w → (x ≡ y) × (v ≡ w)

-- Q determines reply and buffers
abbrev pub One : {B : Type 0} → (Reply → B → Type 0) → Type 0
One {B} Q = (r s : Reply) (v w : B) → Q r v → Q s w → (r ≡ s) × (v ≡ w)

-- the number that the first four bytes of a slice say is 0
abbrev pub SaysZero : List ℕ → Type 0
SaysZero slice = take word_size slice ≡ le_bytes word_size 0

-- every reason of the check has this number
abbrev pub HasNumber : {A : Type 0} → Check A → ℕ → Type 0
HasNumber c k = (p : Reason) → c.Fail p → number_of (Refused p) ≡ k
