-- Numbers in a list, and lists in which none stands twice: which stands where, one left out, and how many there can be.
use Rattle.std.specs.Prelude.{ℕ, zero, suc, ◌≤◌, ◌<◌, ◌≡◌, refl, ◌⊎◌, length, get_or}
use Rattle.std.proofs.Common.{sym, inl, inr, ⊎_elim, arith}
use Rattle.std.proofs.Math.Logic.{by_cases}
use mathlib.Core.List.Memᴰ
use mathlib.Core.List.{List, [], ◌∷◌, Memᴰ}
use Rattle.std.proofs.Math.Decide.{ℕ_discrete}
use Rattle.grammar.specs.Each.{Each, each_head, each_tail}
use Rattle.trees.specs.Area.{Distinct}

pub each_mem : {P : ℕ → Type 0} {x : ℕ} (xs : List ℕ) → Each P xs → Memᴰ x xs → P x
each_mem [] _ m = elim m [ ]
each_mem (y ∷ xs) (Each.cons p e) (Memᴰ.head q) = rw q p
each_mem (y ∷ xs) (Each.cons p e) (Memᴰ.tail m) = each_mem xs e m

pub mem_each : {P : ℕ → Type 0} (xs : List ℕ) → ((x : ℕ) → Memᴰ x xs → P x) → Each P xs
mem_each [] h = Each.nil
mem_each (x ∷ xs) h = Each.cons (h x (Memᴰ.head refl)) (mem_each xs (λ y m. h y (Memᴰ.tail m)))

pub mem_get : (xs : List ℕ) (i : ℕ) → i < length xs → Memᴰ (get_or xs i 0) xs
mem_get [] i l = absurd (omega arith)
mem_get (x ∷ xs) zero l = Memᴰ.head refl
mem_get (x ∷ xs) (suc i) l = Memᴰ.tail (mem_get xs i (omega arith))

-- whether x stands in the list
pub member : (x : ℕ) (xs : List ℕ) → Memᴰ x xs ⊎ (Memᴰ x xs → ⊥)
member x [] = inr (λ m. elim m [ ])
member x (y ∷ xs) = by_cases (ℕ_discrete x y) (λ e. inl (Memᴰ.head e)) (λ n. more n (member x xs))
  where
    more : (x ≡ y → ⊥) → Memᴰ x xs ⊎ (Memᴰ x xs → ⊥) → Memᴰ x (y ∷ xs) ⊎ (Memᴰ x (y ∷ xs) → ⊥)
    more n (inl m) = inl (Memᴰ.tail m)
    more n (inr m) = inr no_more
      where
        no_more : Memᴰ x (y ∷ xs) → ⊥
        no_more (Memᴰ.head e) = n e
        no_more (Memᴰ.tail i) = m i

-- ---- different numbers

pub distinct_head : {x : ℕ} {xs : List ℕ} → Distinct (x ∷ xs) → Memᴰ x xs → ⊥
distinct_head (Distinct.cons f d) = f

pub distinct_tail : {x : ℕ} {xs : List ℕ} → Distinct (x ∷ xs) → Distinct xs
distinct_tail (Distinct.cons f d) = d

-- they stand at different places
pub distinct_get : (xs : List ℕ) (i j : ℕ) → Distinct xs → i < length xs → j < length xs → get_or xs i 0 ≡ get_or xs j 0 → i ≡ j
distinct_get [] i j d l m e = absurd (omega arith)
distinct_get (x ∷ xs) zero zero d l m e = refl
distinct_get (x ∷ xs) zero (suc j) d l m e = absurd (distinct_head d (Memᴰ.cast e (mem_get xs j (omega arith))))
distinct_get (x ∷ xs) (suc i) zero d l m e = absurd (distinct_head d (Memᴰ.cast (sym e) (mem_get xs i (omega arith))))
distinct_get (x ∷ xs) (suc i) (suc j) d l m e = let q = distinct_get xs i j (distinct_tail d) (omega arith) (omega arith) e in omega arith

-- a list without v, where that stands once
pub record Without (v : ℕ) (xs : List ℕ) : Type 1 where
  pub rest : List ℕ
  pub short : length xs ≤ suc (length rest)
  pub shorter : Memᴰ v xs → length xs ≡ suc (length rest)
  pub part : {y : ℕ} → Memᴰ y rest → Memᴰ y xs
  pub stays : {y : ℕ} → Memᴰ y xs → (y ≡ v → ⊥) → Memᴰ y rest
  pub apart : Distinct xs → Distinct rest
  pub gone : Distinct xs → Memᴰ v rest → ⊥
  pub keeps : {P : ℕ → Type 0} → Each P xs → Each P rest

pub without : (v : ℕ) (xs : List ℕ) → Without v xs
without v [] =
    record {
      rest = [];
      short = omega arith;
      shorter = λ m. absurd (Memᴰ.not-nil m);
      part = λ m. m;
      stays = λ m n. m;
      apart = λ d. d;
      gone = λ d m. Memᴰ.not-nil m;
      keeps = λ e. e;
    }
without v (x ∷ xs) = by_cases (ℕ_discrete v x) here (there (without v xs))
  where
    here : v ≡ x → Without v (x ∷ xs)
    here e =
        record {
          rest = xs;
          short = omega arith;
          shorter = λ m. refl;
          part = Memᴰ.tail;
          stays = λ m n. ⊎_elim (λ q. let z = n (cc) in absurd z) (λ z. z) (Memᴰ.cases_cons m);
          apart = distinct_tail;
          gone = λ d m. distinct_head d (Memᴰ.cast (sym e) m);
          keeps = each_tail;
        }

    there : Without v xs → (v ≡ x → ⊥) → Without v (x ∷ xs)
    there w n =
        record {
          rest = x ∷ w.rest;
          short = omega (arith, w.short);
          shorter = λ m. ⊎_elim (λ e. absurd (n e)) (λ z. omega (arith, w.shorter z)) (Memᴰ.cases_cons m);
          part = λ m. ⊎_elim (λ e. Memᴰ.head e) (λ z. Memᴰ.tail (w.part z)) (Memᴰ.cases_cons m);
          stays = λ m o. ⊎_elim (λ e. Memᴰ.head e) (λ z. Memᴰ.tail (w.stays z o)) (Memᴰ.cases_cons m);
          apart = λ d. Distinct.cons (λ m. distinct_head d (w.part m)) (w.apart (distinct_tail d));
          gone = λ d m. ⊎_elim n (w.gone (distinct_tail d)) (Memᴰ.cases_cons m);
          keeps = λ p. Each.cons (each_head p) (w.keeps (each_tail p));
        }

-- ---- how many

lower : (S : ℕ) (xs : List ℕ) → Each (λ s. (1 ≤ s) × (s ≤ suc S)) xs → (Memᴰ (suc S) xs → ⊥) → Each (λ s. (1 ≤ s) × (s ≤ S)) xs
lower S [] Each.nil n = Each.nil
lower S (x ∷ xs) (Each.cons w e) n =
    let m : x ≡ suc S → ⊥ = λ q. n (Memᴰ.head (sym q)) in
    Each.cons (w.0, omega arith) (lower S xs e (λ z. n (Memᴰ.tail z)))

-- so many different numbers of 1..S are at most S
pub pigeon : (S : ℕ) (xs : List ℕ) → Each (λ s. (1 ≤ s) × (s ≤ S)) xs → Distinct xs → length xs ≤ S
pigeon zero [] e d = omega arith
pigeon zero (x ∷ xs) (Each.cons w e) d = omega arith
pigeon (suc S) xs e d =
    let w = without (suc S) xs in
    omega (arith, w.short, pigeon S w.rest (lower S w.rest (w.keeps e) (w.gone d)) (w.apart d))

-- a list in which all of 1..n stand has n at least
pub covers : (n : ℕ) (xs : List ℕ) → ((y : ℕ) → 1 ≤ y → y ≤ n → Memᴰ y xs) → n ≤ length xs
covers zero xs h = omega arith
covers (suc n) xs h =
    let w = without (suc n) xs in
    omega (arith, w.shorter (h (suc n) (omega arith) (omega arith)), covers n w.rest (λ y l m. w.stays (h y l (omega arith)) (λ e. omega arith)))
