-- Which slot each node of the new tree holds: that of the old node with which it is matched.
use Rattle.std.specs.Prelude.{Option, None, Some, ℕ, zero, suc, ◌+◌, ◌-◌, ◌*◌, ◌≤◌, ◌<◌, ◌≡◌, refl, List, [], ◌∷◌, ◌++◌, length, get_or}
use Rattle.std.proofs.Common.{ap, ◌∙◌, arith}
use Rattle.trees.specs.Coded.{node_size, node_at}
use Rattle.trees.specs.Listing.{node_kept}
use Rattle.trees.specs.Members.{each_mem, mem_get}
use Rattle.trees.specs.Nodes.{Node}
use Rattle.base.specs.Bytes.{byte_at}
use Rattle.edits.specs.Giving.{held_of, Held, in_held}

-- of the nodes in w: the slot of node m, counted from 1, or 0 if m is 0
unfoldable pub slot_by : List ℕ → ℕ → ℕ
slot_by w zero = 0
slot_by w (suc a) = (node_at w a).slot

-- the slots that k nodes of the new tree hold, from its node i on, or 0, where ms has 0 or 1 + the number of the matched old node for each
abbrev pub held_from : List ℕ → List ℕ → ℕ → ℕ → List ℕ
held_from w ms zero i = []
held_from w ms (suc k) i = slot_by w (get_or ms i 0) ∷ held_from w ms k (i + 1)

-- each of the k new nodes is matched with one of the nodes before node `base`, or with none
pub record Old (base k : ℕ) (ms : List ℕ) : Type 0 where
  pub each : (i : ℕ) → i < k → get_or ms i 0 ≤ base

-- the slot that a node holds, if it holds one: h, unless that is 0
abbrev pub HoldsSlot : ℕ → Option ℕ → Type 0
HoldsSlot h None = h ≡ 0
HoldsSlot h (Some s) = (h ≡ s) × (1 ≤ s) × (s < 65536)

-- such a slot
abbrev pub Slot : Option ℕ → Type 0
Slot None = Unit {0}
Slot (Some s) = (1 ≤ s) × (s < 65536)

pub slot_none : (w : List ℕ) (m : ℕ) → m ≡ 0 → 0 ≡ slot_by w m
unfolding slot_by
slot_none w m e = rw e

pub slot_some : (w : List ℕ) (m s : ℕ) → (m ≡ 0 → ⊥) → s ≡ (node_at w (m - 1)).slot → s ≡ slot_by w m
unfolding slot_by
slot_some w zero s n e = absurd (n refl)
slot_some w (suc a) s n e = e ∙ ap (λ (x : ℕ). (node_at w x).slot) (omega arith)

-- the same of node j
pub slot_next : (w : List ℕ) (j m s : ℕ) → j + 1 ≡ m → s ≡ (node_at w j).slot → slot_by w m ≡ s
unfolding slot_by
slot_next w j m s e f = let q : suc j ≡ m = omega arith in rw (← q, f)

-- only the old tree's nodes matter
pub slot_kept : (w w' : List ℕ) (base m : ℕ) → ((j : ℕ) → j < node_size * base → byte_at w' j ≡ byte_at w j) → m ≤ base → slot_by w' m ≡ slot_by w m
unfolding slot_by
slot_kept w w' base zero h l = refl
slot_kept w w' base (suc a) h l = ap (λ (e : Node). e.slot) (node_kept w w' a (λ j x y. h j (omega arith)))

pub length_from : (w ms : List ℕ) (k i : ℕ) → length (held_from w ms k i) ≡ k
length_from w ms zero i = refl
length_from w ms (suc k) i = ap suc (length_from w ms k (i + 1))

pub held_get : (w ms : List ℕ) (k j i : ℕ) → i < k → get_or (held_from w ms k j) i 0 ≡ slot_by w (get_or ms (j + i) 0)
held_get w ms zero j i l = absurd (omega arith)
held_get w ms (suc k) j zero l = ap (λ (x : ℕ). slot_by w (get_or ms x 0)) (omega arith)
held_get w ms (suc k) j (suc i) l = held_get w ms k (j + 1) i (omega arith) ∙ ap (λ (x : ℕ). slot_by w (get_or ms x 0)) (omega arith)

pub held_last : (w ms : List ℕ) (k i : ℕ) → held_from w ms (k + 1) i ≡ held_from w ms k i ++ (slot_by w (get_or ms (i + k) 0) ∷ [])
held_last w ms zero i = let q : i + 0 ≡ i = omega arith in rw q
held_last w ms (suc k) i =
    let q : i + 1 + k ≡ i + suc k = omega arith in
    let r : suc k + 1 ≡ suc (k + 1) = omega arith in
    rw r (ap (λ (l : List ℕ). slot_by w (get_or ms i 0) ∷ l) (held_last w ms k (i + 1) ∙ ap (λ (j : ℕ). held_from w ms k (i + 1) ++ (slot_by w (get_or ms j 0) ∷ [])) q))

pub held_next : (w ms : List ℕ) (k i : ℕ) → i < k → held_from w ms (k - i) i ≡ slot_by w (get_or ms i 0) ∷ held_from w ms (k - (i + 1)) (i + 1)
held_next w ms k i l = let q : k - i ≡ suc (k - (i + 1)) = omega arith in rw q

-- the slots that the k new nodes hold are among 1..S, each once
pub record Fit (S : ℕ) (w ms : List ℕ) (k : ℕ) : Type 0 where
  pub held : Held S (held_from w ms k 0)

pub fit_few : {S k : ℕ} {w ms : List ℕ} (i : ℕ) → Fit S w ms k → i < k → slot_by w (get_or ms i 0) ≤ S
fit_few {S} {k} {w} {ms} i h l = go (slot_by w (get_or ms i 0)) (held_get w ms k 0 i l ∙ ap (λ (x : ℕ). slot_by w (get_or ms x 0)) (omega arith))
  where
    go : (x : ℕ) → get_or (held_from w ms k 0) i 0 ≡ x → x ≤ S
    go zero e = omega arith
    go (suc x) e =
        let m = mem_get (held_from w ms k 0) i (omega (arith, length_from w ms k 0)) in
        let z = each_mem (held_of (held_from w ms k 0)) h.held.within (in_held (held_from w ms k 0) m (omega arith)) in
        omega (arith, z.1)
