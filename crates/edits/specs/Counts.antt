-- The counts of an edit: the kept nodes and those given up are the old tree's.
use Rattle.std.specs.Prelude.{ℕ, suc, ◌+◌, ◌≡◌, refl, length}
use Rattle.std.proofs.Common.{sym, ap, ⊎_elim, arith}
use mathlib.Core.List.Memᴰ
use mathlib.Core.List.{List, [], ◌∷◌, Memᴰ}
use Rattle.grammar.specs.Forest.{Forest, size}
use Rattle.trees.specs.Area.{slots, Distinct, Area}
use Rattle.trees.specs.Members.{each_mem, distinct_head, distinct_tail, without}
use Rattle.trees.specs.Spread.{length_slots}
use Rattle.edits.specs.Keeping.{Edit, Holding, GivenUp, kept_of}
use Rattle.edits.specs.Giving.{held_of, Held, held_in, in_held, length_held, holding_among}

-- the number of slots given up is one
pub given_up_one : {held ss : List ℕ} {n n' : ℕ} → GivenUp held ss n → GivenUp held ss n' → n ≡ n'
given_up_one GivenUp.nil GivenUp.nil = refl
given_up_one (GivenUp.kept m g) (GivenUp.kept _ h) = given_up_one g h
given_up_one (GivenUp.kept m g) (GivenUp.free f h) = absurd (f m)
given_up_one (GivenUp.free f g) (GivenUp.kept m h) = absurd (f m)
given_up_one (GivenUp.free f g) (GivenUp.free _ h) = ap suc (given_up_one g h)

-- only whether a slot is held matters
given_up_held : {held held' ss : List ℕ} {n : ℕ} → ((s : ℕ) → Memᴰ s ss → Memᴰ s held → Memᴰ s held') → ((s : ℕ) → Memᴰ s ss → Memᴰ s held' → Memᴰ s held)
    → GivenUp held ss n → GivenUp held' ss n
given_up_held u v GivenUp.nil = GivenUp.nil
given_up_held u v (GivenUp.kept {s = s} m g) = GivenUp.kept (u s (Memᴰ.head refl) m) (given_up_held (λ x i. u x (Memᴰ.tail i)) (λ x i. v x (Memᴰ.tail i)) g)
given_up_held u v (GivenUp.free {s = s} f g) =
    GivenUp.free (λ m. f (v s (Memᴰ.head refl) m)) (given_up_held (λ x i. u x (Memᴰ.tail i)) (λ x i. v x (Memᴰ.tail i)) g)

-- different numbers that stand in a list of different numbers, and the others of that list
given_up_count : (ss held : List ℕ) (n : ℕ) → Distinct ss → Distinct held → ((s : ℕ) → Memᴰ s held → Memᴰ s ss) → GivenUp held ss n → length held + n ≡ length ss
given_up_count [] [] n d d' h GivenUp.nil = refl
given_up_count [] (x ∷ xs) n d d' h GivenUp.nil = absurd (Memᴰ.not-nil (h x (Memᴰ.head refl)))
given_up_count (s ∷ ss) held n d d' h (GivenUp.kept m g) =
    let w = without s held in
    let q = given_up_count ss w.rest n (distinct_tail d) (w.apart d')
    (λ y i. ⊎_elim (λ e. absurd (w.gone d' (Memᴰ.cast (sym e) i))) (λ z. z) (Memᴰ.cases_cons (h y (w.part i))))
    (given_up_held (λ y i j. w.stays j (λ e. distinct_head d (Memᴰ.cast (sym e) i))) (λ y i j. w.part j) g) in
    omega (arith, w.shorter m)
given_up_count (s ∷ ss) held n d d' h (GivenUp.free {n = u} f g) =
    let q = given_up_count ss held u (distinct_tail d) d' (λ y i. ⊎_elim (λ e. absurd (f (Memᴰ.cast (sym e) i))) (λ z. z) (Memᴰ.cases_cons (h y i))) g in
    omega arith

-- the old tree's nodes are those kept and those given up
pub kept_given_up : {e : Edit} {old new : Forest} {S n : ℕ} {b hs : List ℕ} → Area S old b → Held S hs → Holding e old new hs → GivenUp hs (slots old) n → kept_of hs + n ≡ size old
kept_given_up {old = old} {n = n} {hs = hs} a h u g =
    let g' : GivenUp (held_of hs) (slots old) n = given_up_held (λ s m i. in_held hs i (each_mem (slots old) a.within m).0) (λ s m i. (held_in hs i).0) g in
    omega (arith, given_up_count (slots old) (held_of hs) n a.once h.once (λ s m. holding_among u m) g', length_held hs, length_slots old)
