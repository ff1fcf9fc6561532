-- Every element of a list has a property.
use Rattle.std.specs.Prelude.{List, [], ◌∷◌, ◌++◌, ℕ, zero, suc, ◌<◌, length, get_or, take, drop}
use Rattle.std.proofs.Common.{take-append-drop, arith}

pub data Each {A : Type 0} (P : A → Type 0) : List A → Type 0 where
  nil : Each P []
  cons : {x : A} {xs : List A} → P x → Each P xs → Each P (x ∷ xs)

pub each_join : {A : Type 0} {P : A → Type 0} {xs ys : List A} → Each P xs → Each P ys → Each P (xs ++ ys)
each_join Each.nil k = k
each_join (Each.cons p e) k = Each.cons p (each_join e k)

pub each_parts : {A : Type 0} {P : A → Type 0} (xs : List A) {ys : List A} → Each P (xs ++ ys) → Each P xs × Each P ys
each_parts [] e = (Each.nil, e)
each_parts (x ∷ xs) (Each.cons p e) = let q = each_parts xs e in (Each.cons p q.0, q.1)

pub each_take : {A : Type 0} {P : A → Type 0} (k : ℕ) (xs : List A) → Each P xs → Each P (take k xs)
each_take {P = P} k xs e = (each_parts {P = P} (take k xs) {ys = drop k xs} (rw (take-append-drop k xs) e)).0

pub each_drop : {A : Type 0} {P : A → Type 0} (k : ℕ) (xs : List A) → Each P xs → Each P (drop k xs)
each_drop {P = P} k xs e = (each_parts {P = P} (take k xs) {ys = drop k xs} (rw (take-append-drop k xs) e)).1

pub each_head : {A : Type 0} {P : A → Type 0} {x : A} {xs : List A} → Each P (x ∷ xs) → P x
each_head (Each.cons p e) = p

pub each_tail : {A : Type 0} {P : A → Type 0} {x : A} {xs : List A} → Each P (x ∷ xs) → Each P xs
each_tail (Each.cons p e) = e

pub each_map : {A : Type 0} {P Q : A → Type 0} {xs : List A} → ((x : A) → P x → Q x) → Each P xs → Each Q xs
each_map f Each.nil = Each.nil
each_map f (Each.cons {x = x} p e) = Each.cons (f x p) (each_map f e)

-- the element at a place
pub each_at : {P : ℕ → Type 0} (xs : List ℕ) (i : ℕ) → Each P xs → i < length xs → P (get_or xs i 0)
each_at [] i e l = absurd (omega arith)
each_at (x ∷ xs) zero (Each.cons p e) l = p
each_at (x ∷ xs) (suc i) (Each.cons p e) l = each_at xs i e (omega arith)

-- and from each place
pub each_from : {P : ℕ → Type 0} (xs : List ℕ) → ((i : ℕ) → i < length xs → P (get_or xs i 0)) → Each P xs
each_from [] h = Each.nil
each_from (x ∷ xs) h = Each.cons (h 0 (omega arith)) (each_from xs (λ i l. h (suc i) (omega arith)))
