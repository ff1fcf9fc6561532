-- The slots of a list of nodes: a mark for each, so that none stands twice, and one that is not marked has room.
use Rattle.std.specs.Prelude.{ℕ, ◌≤◌, ◌<◌, ◌≡◌, length, set}
use Rattle.std.proofs.Common.{sym, ap, ◌∙◌, ⊎_elim, get_or-set_same, get_or-set_other, arith}
use Rattle.std.proofs.Math.Logic.{by_cases}
use mathlib.Core.List.{List, [], ◌∷◌, ◌++◌, Memᴰ}
use Rattle.std.proofs.Math.Decide.{ℕ_discrete}
use Rattle.base.specs.Bytes.{byte_at}
use Rattle.base.specs.Blocks.{zeros, length_zeros, byte_zeros}
use Rattle.grammar.specs.Each.{Each}
use Rattle.trees.specs.Area.{Distinct}
use Rattle.trees.specs.Members.{pigeon}
use Rattle.trees.specs.Nodes.{Node}
use Rattle.trees.specs.Spread.{slots_of, slots_append}
use Rattle.walks.specs.Frames.{Within}

-- ---- different numbers

distinct_last : {xs : List ℕ} (y : ℕ) → Distinct xs → (Memᴰ y xs → ⊥) → Distinct (xs ++ (y ∷ []))
distinct_last y Distinct.nil n = Distinct.cons (λ m. mathlib.Core.List.Memᴰ.not-nil m) Distinct.nil
distinct_last y (Distinct.cons {x = x} {xs = xs} f d) n =
    Distinct.cons (λ m. ⊎_elim f (λ z. n (mathlib.Core.List.Memᴰ.head (sym (mathlib.Core.List.Memᴰ.eq_of_singleton z)))) (mathlib.Core.List.Memᴰ.append_cases xs m))
    (distinct_last y d (λ m. n (mathlib.Core.List.Memᴰ.tail m)))

distinct_apart : (xs : List ℕ) (y : ℕ) (ys : List ℕ) → Distinct (xs ++ (y ∷ ys)) → Memᴰ y xs → ⊥
distinct_apart [] y ys d m = mathlib.Core.List.Memᴰ.not-nil m
distinct_apart (x ∷ xs) y ys (Distinct.cons f d) m =
    ⊎_elim (λ e. f (mathlib.Core.List.Memᴰ.append_right xs (mathlib.Core.List.Memᴰ.head (sym e)))) (distinct_apart xs y ys d) (mathlib.Core.List.Memᴰ.cases_cons m)

-- ---- a mark for each slot

-- the slots of the nodes are different, and they are the ones marked, with slot 0
pub record Marked (m : List ℕ) (es : List Node) : Type 0 where
  pub ground : byte_at m 0 ≡ 1
  pub once : Distinct (slots_of es)
  pub marked : (s : ℕ) → Memᴰ s (slots_of es) → byte_at m s ≡ 1
  pub free : (s : ℕ) → 1 ≤ s → (Memᴰ s (slots_of es) → ⊥) → byte_at m s ≡ 0

pub marked_none : (m : List ℕ) (k : ℕ) → m ≡ set (zeros k) 0 1 → 0 < k → Marked m []
marked_none m k e l =
    let q : (s v : ℕ) → byte_at (set (zeros k) 0 1) s ≡ v → byte_at m s ≡ v = λ s v h. ap (λ (u : List ℕ). byte_at u s) e ∙ h in
    record {
      ground = q 0 1 (get_or-set_same (zeros k) 0 1 0 (omega (arith, length_zeros k)));
      once = Distinct.nil;
      marked = λ s x. absurd (mathlib.Core.List.Memᴰ.not-nil x);
      free = λ s o x. q s 0 (get_or-set_other (zeros k) 0 s 1 0 (λ z. omega (arith, o, z)) ∙ byte_zeros k s);
    }

pub marked_more : (m : List ℕ) (es : List Node) (e : Node) (s : ℕ) → e.slot ≡ s → s < length m → byte_at m s ≡ 0 → Marked m es → Marked (set m s 1) (es ++ (e ∷ []))
marked_more m es e s q l z h =
    let new : Memᴰ s (slots_of es) → ⊥ = λ x. omega (arith, h.marked s x) in
    let d : Distinct (slots_of (es ++ (e ∷ []))) = rw (slots_append es (e ∷ []), q) (distinct_last s h.once new) in
    record {
      ground = get_or-set_other m s 0 1 0 (λ i. omega (arith, z, h.ground, ap (byte_at m) i)) ∙ h.ground;
      once = d;
      marked = λ y x. at y (rw (slots_append es (e ∷ []), q) at x);
      free = λ y o x. off y o (rw (slots_append es (e ∷ []), q) at x);
    }
  where
    at : (y : ℕ) → Memᴰ y (slots_of es ++ (s ∷ [])) → byte_at (set m s 1) y ≡ 1
    at y x =
        by_cases (ℕ_discrete y s) (λ i. rw i (get_or-set_same m s 1 0 l))
        (λ n. get_or-set_other m s y 1 0 n ∙ ⊎_elim (h.marked y) (λ o. absurd (n (mathlib.Core.List.Memᴰ.eq_of_singleton o))) (mathlib.Core.List.Memᴰ.append_cases (slots_of es) x))

    off : (y : ℕ) → 1 ≤ y → (Memᴰ y (slots_of es ++ (s ∷ [])) → ⊥) → byte_at (set m s 1) y ≡ 0
    off y u x =
        get_or-set_other m s y 1 0 (λ i. x (mathlib.Core.List.Memᴰ.append_right (slots_of es) (mathlib.Core.List.Memᴰ.head i)))
        ∙ h.free y u (λ o. x (mathlib.Core.List.Memᴰ.append_left (s ∷ []) o))

-- there is room for a slot that is not marked
pub marked_room : (S : ℕ) (m : List ℕ) (es : List Node) (s : ℕ) → Marked m es → Each (Within S) (slots_of es) → Within S s → byte_at m s ≡ 0 → length (slots_of es) < S
marked_room S m es s h e w z = let p = pigeon S (s ∷ slots_of es) (Each.cons w e) (Distinct.cons (λ x. omega (arith, z, h.marked s x)) h.once) in omega arith

-- a marked slot was visited
pub marked_twice : (m : List ℕ) (es : List Node) (e : Node) (fs : List Node) (s : ℕ) → 1 ≤ s → Marked m es → (byte_at m s ≡ 0 → ⊥) → e.slot ≡ s → Distinct (slots_of (es ++ (e ∷ fs))) → ⊥
marked_twice m es e fs s o h n q d =
    let x : Distinct (slots_of es ++ (s ∷ slots_of fs)) = rw (slots_append es (e ∷ fs), q) at d in
    n (h.free s o (distinct_apart (slots_of es) s (slots_of fs) x))
