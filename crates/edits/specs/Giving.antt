-- The slots of the new tree: those held are different slots of the old tree; the others are given in one way only, and there are enough of them.
use Rattle.std.specs.Prelude.{ℕ, zero, suc, ◌+◌, ◌≤◌, ◌<◌, ◌≡◌, refl, ◌⊎◌, length, get_or}
use Rattle.std.proofs.Common.{sym, ap, ◌∙◌, inl, inr, ⊎_elim, get_or-append-add, arith}
use Rattle.std.proofs.Math.Logic.{by_cases}
use mathlib.Core.List.Memᴰ
use mathlib.Core.List.{List, [], ◌∷◌, ◌++◌, Memᴰ}
use Rattle.std.proofs.Math.ListN.{get_or-append}
use Rattle.std.proofs.Math.Decide.{dec_lt}
use Rattle.grammar.specs.Each.{Each, each_head, each_tail}
use Rattle.grammar.specs.Grammar.{Grammar}
use Rattle.grammar.specs.Prediction.{Prepared}
use Rattle.grammar.specs.Forest.{Forest, size, Derives}
use Rattle.trees.specs.Area.{top, slots, Distinct, Area}
use Rattle.trees.specs.Members.{each_mem, mem_each, mem_get, distinct_get, distinct_head, distinct_tail, covers}
use Rattle.trees.specs.Spread.{length_slots}
use Rattle.edits.specs.Keeping.{Edit, At, Holds, Holding, Given, kept_of, made_of}
use Rattle.edits.specs.One.{keeps_apart}

-- ---- a node's slot is the one at its place

pub record Slot (i : ℕ) (F : Forest) (a : ℕ) (f : Forest) : Type 0 where
  pub place : ℕ
  pub number : a ≡ i + place
  pub among : place < size F
  pub is : get_or (slots F) place 0 ≡ top f

pub at_slot : {i par n j a q m t : ℕ} {F f : Forest} → At i par n j F a q m t f → Slot i F a f
at_slot (At.here {F = Forest.nil} e _ _ _ l) = absurd (omega arith)
at_slot (At.here {F = Forest.leaf s x g r} e _ _ _ l) = record { place = 0; number = omega arith; among = omega arith; is = refl }
at_slot (At.here {F = Forest.node s M p k r} e _ _ _ l) = record { place = 0; number = omega arith; among = omega arith; is = refl }
at_slot (At.inside {k = k} {r = r} h) =
    let u = at_slot h in
    record {
      place = suc u.place;
      number = omega (arith, u.number);
      among = omega (arith, u.among);
      is = get_or-append (slots k) (slots r) 0 u.place (omega (arith, u.among, length_slots k)) ∙ u.is;
    }
at_slot (At.past_leaf h) =
    let u = at_slot h in
    record { place = suc u.place; number = omega (arith, u.number); among = omega (arith, u.among); is = u.is }
at_slot (At.past_node {k = k} {r = r} h) =
    let u = at_slot h in
    record {
      place = suc (size k + u.place);
      number = omega (arith, u.number);
      among = omega (arith, u.among);
      is = ap (λ (x : ℕ). get_or (slots k ++ slots r) (x + u.place) 0) (sym (length_slots k)) ∙ get_or-append-add (slots k) (slots r) u.place 0 ∙ u.is;
    }

-- the same node has the same slot
pub slot_one : {i a : ℕ} {F f f' : Forest} → Slot i F a f → Slot i F a f' → top f ≡ top f'
slot_one {F = F} u v =
    let q : u.place ≡ v.place = omega (arith, u.number, v.number) in
    sym u.is ∙ ap (λ (x : ℕ). get_or (slots F) x 0) q ∙ v.is

-- different nodes have different slots
pub slot_apart : {i a b : ℕ} {F f f' : Forest} → Distinct (slots F) → Slot i F a f → Slot i F b f' → top f ≡ top f' → a ≡ b
slot_apart {F = F} d u v e =
    let q : u.place ≡ v.place =
    distinct_get (slots F) u.place v.place d (omega (arith, u.among, length_slots F)) (omega (arith, v.among, length_slots F)) (u.is ∙ e ∙ sym v.is) in
    omega (arith, u.number, v.number)

pub slot_among : {i a : ℕ} {F f : Forest} → Slot i F a f → Memᴰ (top f) (slots F)
slot_among {F = F} u = Memᴰ.cast (sym u.is) (mem_get (slots F) u.place (omega (arith, u.among, length_slots F)))

-- ---- the slots that are held

-- those among them that are not 0
abbrev pub held_of : List ℕ → List ℕ
held_of [] = []
held_of (zero ∷ hs) = held_of hs
held_of (suc s ∷ hs) = suc s ∷ held_of hs

-- they are among 1..S, each once
pub record Held (S : ℕ) (hs : List ℕ) : Type 0 where
  pub once : Distinct (held_of hs)
  pub within : Each (λ s. (1 ≤ s) × (s ≤ S)) (held_of hs)

pub held_in : {x : ℕ} (hs : List ℕ) → Memᴰ x (held_of hs) → Memᴰ x hs × (1 ≤ x)
held_in [] m = absurd (Memᴰ.not-nil m)
held_in (zero ∷ hs) m = let q = held_in hs m in (Memᴰ.tail q.0, q.1)
held_in {x} (suc s ∷ hs) m =
    ⊎_elim (λ e. (Memᴰ.head e, omega arith)) (λ z. let q = held_in hs z in (Memᴰ.tail q.0, q.1)) (Memᴰ.cases_cons m)

pub in_held : {x : ℕ} (hs : List ℕ) → Memᴰ x hs → 1 ≤ x → Memᴰ x (held_of hs)
in_held [] m l = absurd (Memᴰ.not-nil m)
in_held (zero ∷ hs) m l = ⊎_elim (λ e. absurd (omega arith)) (λ z. in_held hs z l) (Memᴰ.cases_cons m)
in_held (suc s ∷ hs) m l = ⊎_elim (λ e. Memᴰ.head e) (λ z. Memᴰ.tail (in_held hs z l)) (Memᴰ.cases_cons m)

pub length_held : (hs : List ℕ) → length (held_of hs) ≡ kept_of hs
length_held [] = refl
length_held (zero ∷ hs) = length_held hs
length_held (suc s ∷ hs) = ap suc (length_held hs)

-- "All others": those that hold a slot, and those that don't
pub kept_made : (hs : List ℕ) → kept_of hs + made_of hs ≡ length hs
kept_made [] = refl
kept_made (zero ∷ hs) = omega (arith, kept_made hs)
kept_made (suc s ∷ hs) = omega (arith, kept_made hs)

mem_at : {x : ℕ} (xs : List ℕ) → Memᴰ x xs → (i : ℕ) × (i < length xs) × (x ≡ get_or xs i 0)
mem_at [] m = elim m [ ]
mem_at (y ∷ xs) (Memᴰ.head e) = (0, omega arith, e)
mem_at (y ∷ xs) (Memᴰ.tail m) = let q = mem_at xs m in (suc q.0, omega (arith, q.1), q.2)

-- where a slot is held at one place only, it is held once
held_once : (hs : List ℕ) → ((i j : ℕ) → i < length hs → j < length hs → 1 ≤ get_or hs i 0 → get_or hs i 0 ≡ get_or hs j 0 → i ≡ j) → Distinct (held_of hs)
held_once [] h = Distinct.nil
held_once (x ∷ hs) h = go x (λ i j a b l e. h i j a b l e) (held_once hs (λ i j a b l e. let q = h (suc i) (suc j) (omega arith) (omega arith) l e in omega arith))
  where
    go : (x : ℕ) → ((i j : ℕ) → i < suc (length hs) → j < suc (length hs) → 1 ≤ get_or (x ∷ hs) i 0 → get_or (x ∷ hs) i 0 ≡ get_or (x ∷ hs) j 0 → i ≡ j) → Distinct (held_of hs)
        → Distinct (held_of (x ∷ hs))
    go zero h d = d
    go (suc x) h d =
        Distinct.cons (λ m. let q = mem_at hs (held_in hs m).0 in
        let z = h 0 (suc q.0) (omega arith) (omega (arith, q.1)) (omega arith) q.2 in omega arith) d

-- a slot that a node holds is its own node's in the old tree
module _ {e : Edit} {old new : Forest} where
  pub holds_among : {a' x : ℕ} → Holds e old new a' x → 1 ≤ x → Memᴰ x (slots old)
  holds_among (Holds.keeps k n) l = slot_among (at_slot n)
  holds_among (Holds.makes f) l = absurd (omega arith)

  -- the slots held are slots of the old tree
  pub holding_among : {hs : List ℕ} {x : ℕ} → Holding e old new hs → Memᴰ x (held_of hs) → Memᴰ x (slots old)
  holding_among {hs} {x} h m =
      let q = held_in hs m in
      let p = mem_at hs q.0 in
      let o : 1 ≤ get_or hs p.0 0 = omega (arith, q.1, p.2) in
      Memᴰ.cast p.2 (holds_among (h.each p.0 (omega (arith, p.1, h.long))) o)

  -- none is held twice
  module _ {G : Grammar} (g : Prepared G) (dn : Derives G (G.start ∷ []) new) where
    holds_apart : {a b x y : ℕ} → Distinct (slots old) → Holds e old new a x → Holds e old new b y → 1 ≤ x → x ≡ y → a ≡ b
    holds_apart d (Holds.keeps k n) (Holds.keeps k' n') l q = let z = slot_apart d (at_slot n) (at_slot n') q in keeps_apart g dn k (rw (← z) at k')
    holds_apart d (Holds.keeps k n) (Holds.makes f) l q = absurd (omega arith)
    holds_apart d (Holds.makes f) h l q = absurd (omega arith)

    pub holding_held : {S : ℕ} {b hs : List ℕ} → Area S old b → Holding e old new hs → Held S hs
    holding_held {S} {b} {hs} a h =
        record {
          once = held_once hs (λ i j l m o q.
              let z = holds_apart a.once (h.each i (omega (arith, h.long))) (h.each j (omega (arith, h.long))) o q in omega arith);
          within = mem_each (held_of hs) (λ x m. each_mem (slots old) a.within (holding_among h m));
        }

-- ---- the slots that are given

-- they are given in one way only
pub given_one : {held hs ss ss' : List ℕ} {s : ℕ} → Given held s hs ss → Given held s hs ss' → ss ≡ ss'
given_one Given.nil Given.nil = refl
given_one (Given.kept {x = x} l g) (Given.kept m h) = ap (λ (u : List ℕ). x ∷ u) (given_one g h)
given_one (Given.kept l g) (Given.made _ _ _ h) = absurd (omega arith)
given_one (Given.made _ _ _ h) (Given.kept l g) = absurd (omega arith)
given_one {held} {s = s} (Given.made {x = x} l f u g) (Given.made {x = y} m f' v h) =
    let q : x ≡ y = by_cases (dec_lt x y) (λ z. absurd (f (v x l z))) (λ z. by_cases (dec_lt y x) (λ o. absurd (f' (u y m o))) (λ o. omega arith)) in
    let h' : Given held (suc x) _ _ = rw (← q) at h in
    rw (← q) (ap (λ (u : List ℕ). x ∷ u) (given_one g h'))

pub length_given : {held hs ss : List ℕ} {s : ℕ} → Given held s hs ss → length ss ≡ length hs
length_given Given.nil = refl
length_given (Given.kept l g) = ap suc (length_given g)
length_given (Given.made _ _ _ g) = ap suc (length_given g)

-- a slot of the new tree is held, or it is given
given_from : {held hs ss : List ℕ} {s y : ℕ} → Given held s hs ss → Memᴰ y ss → Memᴰ y (held_of hs) ⊎ ((Memᴰ y held → ⊥) × (s ≤ y))
given_from Given.nil m = absurd (Memᴰ.not-nil m)
given_from (Given.kept {x = zero} l g) m = absurd (omega arith)
given_from (Given.kept {x = suc x} l g) (Memᴰ.head e) = inl (Memᴰ.head e)
given_from (Given.kept {x = suc x} l g) (Memᴰ.tail m) = ⊎_elim (λ z. inl (Memᴰ.tail z)) (λ z. inr z) (given_from g m)
given_from (Given.made l f u g) (Memᴰ.head e) = inr ((λ m. f (Memᴰ.cast (sym e) m)), omega arith)
given_from (Given.made l f u g) (Memᴰ.tail m) = ⊎_elim (λ z. inl z) (λ z. inr (z.0, omega (arith, z.1))) (given_from g m)

given_distinct : {held hs ss : List ℕ} {s : ℕ} → ((y : ℕ) → Memᴰ y (held_of hs) → Memᴰ y held) → Distinct (held_of hs) → Given held s hs ss → Distinct ss
given_distinct h d Given.nil = Distinct.nil
given_distinct h d (Given.kept {x = zero} l g) = absurd (omega arith)
given_distinct h d (Given.kept {x = suc x} l g) =
    Distinct.cons (λ m. ⊎_elim (λ z. distinct_head d z) (λ z. z.0 (h (suc x) (Memᴰ.head refl))) (given_from g m))
    (given_distinct (λ y m. h y (Memᴰ.tail m)) (distinct_tail d) g)
given_distinct h d (Given.made {x = x} l f u g) =
    Distinct.cons (λ m. ⊎_elim (λ z. f (h x z)) (λ z. omega (arith, z.1)) (given_from g m)) (given_distinct h d g)

-- the slots below s are among xs, the held ones and those given before: then there are enough for the others
given_within : {held hs ss : List ℕ} {s : ℕ} (S : ℕ) (xs : List ℕ) → 1 ≤ s → ((y : ℕ) → 1 ≤ y → y < s → Memᴰ y xs) → ((y : ℕ) → 1 ≤ y → Memᴰ y held → Memᴰ y xs)
    → length xs + made_of hs ≤ S → Each (λ s. (1 ≤ s) × (s ≤ S)) (held_of hs) → Given held s hs ss → Each (λ s. (1 ≤ s) × (s ≤ S)) ss
given_within S xs o b h l w Given.nil = Each.nil
given_within S xs o b h l w (Given.kept {x = zero} m g) = absurd (omega arith)
given_within S xs o b h l w (Given.kept {x = suc x} m g) = Each.cons (each_head w) (given_within S xs o b h l (each_tail w) g)
given_within {held} {s = s} S xs o b h l w (Given.made {x = x} m f u g) =
    let c : (y : ℕ) → 1 ≤ y → y ≤ x → Memᴰ y (x ∷ xs) =
    λ y i j. by_cases (dec_lt y s) (λ z. Memᴰ.tail (b y i z)) (λ z. by_cases (dec_lt y x)
    (λ k. Memᴰ.tail (h y i (u y (omega arith) k))) (λ k. Memᴰ.head (omega arith))) in
    Each.cons {x = x} (omega arith, omega (arith, covers x (x ∷ xs) c))
    (given_within S (x ∷ xs) (omega arith) (λ y i j. c y i (omega arith)) (λ y i k. Memᴰ.tail (h y i k)) (omega arith) w g)

-- the slots of the new tree are among 1..S, each once
pub given_spread : {S : ℕ} {hs ss : List ℕ} → Held S hs → length hs ≤ S → Given hs 1 hs ss → Distinct ss × Each (λ s. (1 ≤ s) × (s ≤ S)) ss
given_spread {S} {hs} h l g = (
  given_distinct (λ y m. (held_in hs m).0) h.once g,
  given_within S (held_of hs) (omega arith) (λ y i j. absurd (omega arith)) (λ y i m. in_held hs m i) (omega (arith, length_held hs, kept_made hs)) h.within g,
)
