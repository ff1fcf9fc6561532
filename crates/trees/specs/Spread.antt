-- Nodes whose slots can be laid out, and a forest built from nodes: its slots and their number are the nodes' own.
use Rattle.std.specs.Prelude.{ℕ, zero, suc, ◌+◌, ◌≤◌, ◌<◌, ◌≡◌, refl, List, [], ◌∷◌, ◌++◌, length}
use Rattle.std.proofs.Common.{sym, ap, ◌∙◌, append_assoc, length-append, arith}
use Rattle.grammar.specs.Each.{Each}
use Rattle.grammar.specs.Forest.{Forest, size, yield}
use Rattle.grammar.specs.Trees.{join, yield_join, size_join}
use Rattle.trees.specs.Area.{slots, Distinct}
use Rattle.trees.specs.Nodes.{Node, front, back, above, build}
use Rattle.trees.specs.Listing.{node_of}

-- the slots of nodes
abbrev pub slots_of : List Node → List ℕ
slots_of [] = []
slots_of (e ∷ es) = e.slot ∷ slots_of es

pub slots_append : (es fs : List Node) → slots_of (es ++ fs) ≡ slots_of es ++ slots_of fs
slots_append [] fs = refl
slots_append (e ∷ es) fs = ap (λ (l : List ℕ). e.slot ∷ l) (slots_append es fs)

-- the nodes' slots are among 1..S, each once
pub record Spread (S : ℕ) (es : List Node) : Type 0 where
  pub once : Distinct (slots_of es)
  pub within : Each (λ s. (1 ≤ s) × (s ≤ S)) (slots_of es)

-- a slot for each node
pub length_slots : (f : Forest) → length (slots f) ≡ size f
length_slots Forest.nil = refl
length_slots (Forest.leaf s a g r) = ap suc (length_slots r)
length_slots (Forest.node s M p k r) = omega (arith, length-append (slots k) (slots r), length_slots k, length_slots r)

-- ---- a forest and its first trees

front_back : (k : ℕ) (f : Forest) → join (front k f) (back k f) ≡ f
front_back zero f = refl
front_back (suc k) Forest.nil = refl
front_back (suc k) (Forest.leaf s a g r) = ap (Forest.leaf s a g) (front_back k r)
front_back (suc k) (Forest.node s M p c r) = ap (Forest.node s M p c) (front_back k r)

slots_join : (f g : Forest) → slots (join f g) ≡ slots f ++ slots g
slots_join Forest.nil g = refl
slots_join (Forest.leaf s a x r) g = ap (λ (l : List ℕ). s ∷ l) (slots_join r g)
slots_join (Forest.node s M p k r) g = ap (λ (l : List ℕ). s ∷ l) (ap (λ (l : List ℕ). slots k ++ l) (slots_join r g) ∙ sym (append_assoc (slots k) (slots r) (slots g)))

pub slots_parts : (k : ℕ) (f : Forest) → slots (front k f) ++ slots (back k f) ≡ slots f
slots_parts k f = sym (slots_join (front k f) (back k f)) ∙ ap slots (front_back k f)

yield_parts : (k : ℕ) (f : Forest) → yield (front k f) ++ yield (back k f) ≡ yield f
yield_parts k f = sym (yield_join (front k f) (back k f)) ∙ ap yield (front_back k f)

size_parts : (k : ℕ) (f : Forest) → size (front k f) + size (back k f) ≡ size f
size_parts k f = sym (size_join (front k f) (back k f)) ∙ ap size (front_back k f)

-- ---- a node above a forest

module _ (ar : ℕ → ℕ) (s x g : ℕ) (f : Forest) where
  pub above_leaf : (p : ℕ) → p ≡ 0 → above ar (node_of s x p g) f ≡ Forest.leaf s x g f
  above_leaf zero e = refl
  above_leaf (suc p) e = absurd (omega arith)

  pub above_inner : (p : ℕ) → 0 < p → above ar (node_of s x p g) f ≡ Forest.node s x p (front (ar p) f) (back (ar p) f)
  above_inner zero l = absurd (omega arith)
  above_inner (suc p) l = refl

  slots_above : (p : ℕ) → slots (above ar (node_of s x p g) f) ≡ s ∷ slots f
  slots_above zero = refl
  slots_above (suc p) = ap (λ (l : List ℕ). s ∷ l) (slots_parts (ar (suc p)) f)

  size_above : (p : ℕ) → size (above ar (node_of s x p g) f) ≡ suc (size f)
  size_above zero = refl
  size_above (suc p) = ap suc (size_parts (ar (suc p)) f)

  pub tokens_inner : (p : ℕ) → 0 < p → length (yield (above ar (node_of s x p g) f)) ≡ length (yield f)
  tokens_inner zero l = absurd (omega arith)
  tokens_inner (suc p) l = ap length (yield_parts (ar (suc p)) f)

-- the slots of the forest are those of its nodes
pub slots_build : (ar : ℕ → ℕ) (es : List Node) → slots (build ar es) ≡ slots_of es
slots_build ar [] = refl
slots_build ar (e ∷ es) =
    slots_above ar e.slot e.symbol e.tag (build ar es) e.production ∙ ap (λ (l : List ℕ). e.slot ∷ l) (slots_build ar es)

pub size_build : (ar : ℕ → ℕ) (es : List Node) → size (build ar es) ≡ length es
size_build ar [] = refl
size_build ar (e ∷ es) =
    size_above ar e.slot e.symbol e.tag (build ar es) e.production ∙ ap suc (size_build ar es)
