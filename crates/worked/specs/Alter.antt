-- Tests that compute, for trees of the reference grammar that are written out: a forest is a derivation, slots are given as they should be, so many are given up.
use Rattle.std.specs.Prelude.{ℕ, zero, suc, ◌≤◌, ◌<◌, ◌≡◌, refl, Bool, true, false, not, ◌&&◌, eqb, leb, ltb}
use Rattle.std.proofs.Math.Option.{Option, none, some}
use Rattle.std.proofs.Common.{⊎_elim, eqb-true, leb-true, le-ltb, arith}
use mathlib.Core.List.{List, [], ◌∷◌, Memᴰ}
use Rattle.std.proofs.lemmas.Bool.{eqb-false, not-true}
use Rattle.base.specs.Choose.{choose, choose_of, never}
use Rattle.grammar.specs.Grammar.{Production, numbered, Rule}
use Rattle.grammar.specs.Forest.{Forest, Derives}
use Rattle.grammar.specs.Reference.{reference}
use Rattle.edits.specs.Keeping.{Given, GivenUp}
use Rattle.worked.specs.Ready.{below, below_at}
use Rattle.worked.specs.Run.{body_of, body}
use Rattle.worked.specs.Match.{both_true}

-- ---- derivations

-- there is a production, and M is its left side
abbrev ruled : Option Production → ℕ → Bool
ruled none M = false
ruled (some P) M = eqb P.left M

ruled_rule : (p M : ℕ) (o : Option Production) → numbered reference.productions p ≡ o → ruled o M ≡ true → Rule reference p M (body_of o)
ruled_rule p M none q e = never (cc)
ruled_rule p M (some P) q e = let z = eqb-true P.left M e in record { found = rw (← z) q }

-- the forest's trees derive the symbols
unfoldable pub grows : List ℕ → Forest → Bool
grows [] Forest.nil = true
grows (x ∷ xs) Forest.nil = false
grows [] (Forest.leaf s a g r) = false
grows (x ∷ xs) (Forest.leaf s a g r) = eqb x a && (leb 1 a && (leb a reference.t && grows xs r))
grows [] (Forest.node s M p k r) = false
grows (x ∷ xs) (Forest.node s M p k r) = eqb x M && (ruled (numbered reference.productions p) M && (grows (body p) k && grows xs r))

pub grows_derives : (xs : List ℕ) (F : Forest) → grows xs F ≡ true → Derives reference xs F
unfolding grows body
grows_derives [] Forest.nil e = Derives.nil
grows_derives (x ∷ xs) Forest.nil e = never (cc)
grows_derives [] (Forest.leaf s a g r) e = never (cc)
grows_derives (x ∷ xs) (Forest.leaf s a g r) e =
    let u = both_true _ _ e in
    let v = both_true _ _ u.1 in
    let w = both_true _ _ v.1 in
    rw (eqb-true x a u.0) (Derives.leaf (leb-true 1 a v.0, leb-true a reference.t w.0) (grows_derives xs r w.1))
grows_derives [] (Forest.node s M p k r) e = never (cc)
grows_derives (x ∷ xs) (Forest.node s M p k r) e =
    let u = both_true _ _ e in
    let v = both_true _ _ u.1 in
    let w = both_true _ _ v.1 in
    rw (eqb-true x M u.0) (Derives.node (ruled_rule p M (numbered reference.productions p) refl v.0) (grows_derives (body p) k w.0) (grows_derives xs r w.1))

-- ---- slots

unfoldable pub among : ℕ → List ℕ → Bool
among s [] = false
among s (x ∷ xs) = choose (eqb s x) (λ _. true) (λ _. among s xs)

among_true : (s : ℕ) (xs : List ℕ) → among s xs ≡ true → Memᴰ s xs
unfolding among
among_true s [] = λ e. never (cc)
among_true s (x ∷ xs) =
    choose_of (λ b. b ≡ true → Memᴰ s (x ∷ xs)) (eqb s x) _ _ (λ z e. mathlib.Core.List.Memᴰ.head (eqb-true s x z)) (λ z e. mathlib.Core.List.Memᴰ.tail (among_true s xs e))

among_false : (s : ℕ) (xs : List ℕ) → among s xs ≡ false → Memᴰ s xs → ⊥
unfolding among
among_false s [] = λ e m. mathlib.Core.List.Memᴰ.not-nil m
among_false s (x ∷ xs) =
    choose_of (λ b. b ≡ false → Memᴰ s (x ∷ xs) → ⊥) (eqb s x) _ _ (λ z e. never (cc))
    (λ z e m. ⊎_elim (eqb-false s x z) (among_false s xs e) (mathlib.Core.List.Memᴰ.cases_cons m))

-- the two lists have nothing in common
unfoldable pub apart : List ℕ → List ℕ → Bool
apart [] ts = true
apart (s ∷ ss) ts = not (among s ts) && apart ss ts

pub apart_right : {s : ℕ} {ss ts : List ℕ} → apart ss ts ≡ true → Memᴰ s ss → Memᴰ s ts → ⊥
unfolding apart
apart_right {ss = []} e m n = mathlib.Core.List.Memᴰ.not-nil m
apart_right {ss = x ∷ ss} {ts} e m n =
    let u = both_true _ _ e in
    let f : Memᴰ x ts → ⊥ = among_false x ts (not-true (among x ts) u.0) in
    ⊎_elim (λ z. f (rw z at n)) (λ k. apart_right u.1 k n) (mathlib.Core.List.Memᴰ.cases_cons m)

-- the slots from s up to y are among those held
unfoldable pub filled : List ℕ → ℕ → ℕ → Bool
filled held s y = below y (λ z. choose (ltb z s) (λ _. true) (λ _. among z held))

filled_true : (held : List ℕ) (s y : ℕ) → filled held s y ≡ true → (z : ℕ) → s ≤ z → z < y → Memᴰ z held
unfolding filled choose
filled_true held s y e z l m =
    let h = below_at y (λ z. choose (ltb z s) (λ _. true) (λ _. among z held)) e z m in
    among_true z held (rw (le-ltb z s l) at h)

-- of the slots that are held or, where there is 0, to be given, those given
unfoldable pub gives : List ℕ → ℕ → List ℕ → List ℕ → Bool
gives held s [] [] = true
gives held s [] (y ∷ ss) = false
gives held s (x ∷ hs) [] = false
gives held s (zero ∷ hs) (y ∷ ss) = leb s y && (not (among y held) && (filled held s y && gives held (suc y) hs ss))
gives held s (suc x ∷ hs) (y ∷ ss) = eqb (suc x) y && gives held s hs ss

pub gives_given : (held : List ℕ) (s : ℕ) (hs ss : List ℕ) → gives held s hs ss ≡ true → Given held s hs ss
unfolding gives
gives_given held s [] [] e = Given.nil
gives_given held s [] (y ∷ ss) e = never (cc)
gives_given held s (zero ∷ hs) [] e = never (cc)
gives_given held s (suc x ∷ hs) [] e = never (cc)
gives_given held s (zero ∷ hs) (y ∷ ss) e =
    let u = both_true _ _ e in
    let v = both_true _ _ u.1 in
    let w = both_true _ _ v.1 in
    Given.made (leb-true s y u.0) (among_false y held (not-true (among y held) v.0)) (filled_true held s y w.0) (gives_given held (suc y) hs ss w.1)
gives_given held s (suc x ∷ hs) (y ∷ ss) e =
    let u = both_true _ _ e in
    let l : 1 ≤ suc x = omega arith in
    rw (← eqb-true (suc x) y u.0) (Given.kept l (gives_given held s hs ss u.1))

-- how many slots no node holds
unfoldable pub given_up_between : List ℕ → List ℕ → ℕ
given_up_between held [] = 0
given_up_between held (s ∷ ss) = choose (among s held) (λ _. given_up_between held ss) (λ _. suc (given_up_between held ss))

pub given_up_right : (held ss : List ℕ) → GivenUp held ss (given_up_between held ss)
unfolding given_up_between
given_up_right held [] = GivenUp.nil
given_up_right held (s ∷ ss) =
    choose_of (GivenUp held (s ∷ ss)) (among s held) _ _ (λ z. GivenUp.kept (among_true s held z) (given_up_right held ss))
    (λ z. GivenUp.free (among_false s held z) (given_up_right held ss))
