-- Meaning: the tree area. Document 01, "Tokens and the tree area".
use Rattle.std.specs.Prelude.{ℕ, ◌+◌, ◌*◌, ◌^◌, ◌≤◌, ◌<◌, ◌≡◌, length, take, drop}
use mathlib.Core.List.{List, [], ◌∷◌, ◌++◌, Memᴰ}
use Rattle.base.specs.Bytes.{le_bytes}
use Rattle.base.specs.Blocks.{zeros}
use Rattle.grammar.specs.Each.{Each}
use Rattle.grammar.specs.Grammar.{Grammar}
use Rattle.grammar.specs.Forest.{Forest, size, yield, Derives}

-- "A tree area is 16+16S bytes, S from 1 to 1,000"
abbrev pub header_size : ℕ
header_size = 16

abbrev pub slot_size : ℕ
slot_size = 16

abbrev pub max_slots : ℕ
max_slots = 1000

abbrev pub area_size : ℕ → ℕ
area_size S = header_size + slot_size * S

-- "three times the tree area": how many of them a work area has room for
abbrev pub work_areas : ℕ
work_areas = 3

-- "a 32-bit tag"
abbrev pub tag_space : ℕ
tag_space = 2 ^ 32

-- the marks `54 52` and `4E 44`
abbrev pub tree_mark : List ℕ
tree_mark = 0x54 ∷ 0x52 ∷ []

abbrev pub node_mark : List ℕ
node_mark = 0x4E ∷ 0x44 ∷ []

-- "Header: `54 52`, root slot, used slots, tokens (2 bytes each), eight zeros"
unfoldable pub header_bytes : ℕ → ℕ → ℕ → List ℕ
header_bytes root used tokens = tree_mark ++ (le_bytes 2 root ++ (le_bytes 2 used ++ (le_bytes 2 tokens ++ zeros 8)))

-- where the header has the root slot, the number of used slots, that of tokens, and the zeros
abbrev pub root_place : ℕ
root_place = 2

abbrev pub used_place : ℕ
used_place = 4

abbrev pub tokens_place : ℕ
tokens_place = 6

abbrev pub header_spare : ℕ
header_spare = 8

-- "A used slot: `4E 44`, symbol and production (1 byte each; production 0 for a leaf), then parent, first child and next sibling (2 bytes each, 0 for none), tag (4; 0 unless a leaf), two zeros"
unfoldable pub slot_bytes : ℕ → ℕ → ℕ → ℕ → ℕ → ℕ → List ℕ
slot_bytes symbol production parent first next tag =
    node_mark ++ (symbol ∷ production ∷ (le_bytes 2 parent ++ (le_bytes 2 first ++ (le_bytes 2 next ++ (le_bytes 4 tag ++ zeros 2)))))

-- where a used slot has them
abbrev pub symbol_place : ℕ
symbol_place = 2

abbrev pub production_place : ℕ
production_place = 3

abbrev pub parent_place : ℕ
parent_place = 4

abbrev pub first_place : ℕ
first_place = 6

abbrev pub next_place : ℕ
next_place = 8

abbrev pub tag_place : ℕ
tag_place = 10

abbrev pub spare_place : ℕ
spare_place = 14

-- the bytes of slot s: "Slots are numbered from 1"; those of the header stand where slot 0 would
abbrev pub slot_at : List ℕ → ℕ → List ℕ
slot_at b s = take slot_size (drop (slot_size * s) b)

-- the slot of the first of the trees, "0 for none"
abbrev pub top : Forest → ℕ
top Forest.nil = 0
top (Forest.leaf s a g r) = s
top (Forest.node s M p k r) = s

-- the slots of a forest, in preorder
abbrev pub slots : Forest → List ℕ
slots Forest.nil = []
slots (Forest.leaf s a g r) = s ∷ slots r
slots (Forest.node s M p k r) = s ∷ (slots k ++ slots r)

-- no number stands twice in the list
pub data Distinct : List ℕ → Type 0 where
  nil : Distinct []
  cons : {x : ℕ} {xs : List ℕ} → (Memᴰ x xs → ⊥) → Distinct xs → Distinct (x ∷ xs)

-- the slots of a forest's nodes are as they should be, its trees standing below the slot `parent`
pub data Linked (b : List ℕ) : ℕ → Forest → Type 0 where
  nil : {parent : ℕ} → Linked b parent Forest.nil
  leaf : {parent s a g : ℕ} {r : Forest} → slot_at b s ≡ slot_bytes a 0 parent 0 (top r) g → g < tag_space → Linked b parent r
      → Linked b parent (Forest.leaf s a g r)
  node : {parent s M p : ℕ} {k r : Forest} → slot_at b s ≡ slot_bytes M p parent (top k) (top r) 0 → Linked b s k → Linked b parent r
      → Linked b parent (Forest.node s M p k r)

-- the bytes are the area of a tree in S slots
pub record Area (S : ℕ) (f : Forest) (b : List ℕ) : Type 0 where
  pub long : length b ≡ area_size S
  pub header : slot_at b 0 ≡ header_bytes (top f) (size f) (length (yield f))
  pub within : Each (λ s. (1 ≤ s) × (s ≤ S)) (slots f)
  -- "every used slot is reached from the root once"
  pub once : Distinct (slots f)
  pub linked : Linked b 0 f
  -- "A free slot is all zero"
  pub free : (s : ℕ) → 1 ≤ s → s ≤ S → (Memᴰ s (slots f) → ⊥) → slot_at b s ≡ zeros slot_size

-- "A tree is valid exactly when it is one derivation tree of a sentence from the start symbol, every used slot is reached from the root once, all links and counts are right, and free slots are zero"
pub record Valid (G : Grammar) (S : ℕ) (b : List ℕ) : Type 0 where
  pub some : 1 ≤ S
  pub few : S ≤ max_slots
  pub tree : Forest
  pub derives : Derives G (G.start ∷ []) tree
  pub area : Area S tree b
