-- A choice by a test that computes only the branch taken. It is shut, so that antt finds the arguments of its laws.
-- Models are written with it; `search ways depth 20` under `unfolding MODEL` finds the way that the code's tests take.
use Rattle.std.specs.Prelude.{ℕ, Bool, true, false, ◌≡◌, refl}
use Rattle.std.proofs.Common.{arith, lt-ltb, le-ltb, le-leb, eq-eqb, ne_eqb}
use Rattle.std.proofs.lemmas.Bool.{lt-leb}

-- the first where the test is true, else the second
unfoldable pub choose {ℓ} : {A : Type ℓ} → Bool → (Unit {0} → A) → (Unit {0} → A) → A
choose true a b = a tt
choose false a b = b tt

-- what holds of both branches, each where its test holds, holds of the choice
pub choose_of {ℓ} :
    {A : Type ℓ} (P : A → Type 0) (t : Bool) (a b : Unit {0} → A) → (t ≡ true → P (a tt)) → (t ≡ false → P (b tt)) → P (choose t a b)
unfolding choose
choose_of P true a b f g = f refl
choose_of P false a b f g = g refl

pub choose_yes {ℓ} : {A : Type ℓ} (t : Bool) (r : A) (a b : Unit {0} → A) → t ≡ true → r ≡ a tt → r ≡ choose t a b
unfolding choose
choose_yes t r a b e h = rw e h

pub choose_no {ℓ} : {A : Type ℓ} (t : Bool) (r : A) (a b : Unit {0} → A) → t ≡ false → r ≡ b tt → r ≡ choose t a b
unfolding choose
choose_no t r a b e h = rw e h

pub ruleset ways = (choose_yes, choose_no, lt-ltb, le-ltb, le-leb, lt-leb, eq-eqb, ne_eqb)

-- a clash of constructors proves anything: `never (cc)`
pub never : {A : Type 0} → ◌≡◌ {A = ℕ} 0 1 → A
never e = absurd (omega arith)
