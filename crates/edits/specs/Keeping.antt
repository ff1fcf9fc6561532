-- Meaning: which slots an edit keeps. Document 01, "Which slots an edit keeps".
use Rattle.std.specs.Prelude.{ℕ, zero, suc, ◌+◌, ◌≤◌, ◌<◌, ◌≡◌, length, get_or, take, drop}
use mathlib.Core.List.{List, [], ◌∷◌, ◌++◌, Memᴰ}
use Rattle.grammar.specs.Grammar.{Grammar}
use Rattle.grammar.specs.Forest.{Token, Forest, size, yield, Derives}
use Rattle.trees.specs.Area.{top, slots}

-- ---- the edit, and its new sentence

-- its place, how many tokens it removes, and the tokens that it puts there
pub record Edit : Type 0 where
  pub place : ℕ
  pub removed : ℕ
  pub inserted : List Token

-- the edit at this place that removes so many tokens and puts these there
abbrev pub edit_of : ℕ → ℕ → List Token → Edit
edit_of place removed w = record { place = place; removed = removed; inserted = w }

-- the sentence w with the run of tokens replaced
abbrev pub edited : Edit → List Token → List Token
edited e w = take e.place w ++ (e.inserted ++ drop (e.place + e.removed) w)

-- "Tokens before the place, and those after the removed run, are kept tokens": token t' of the new sentence is token t of the old one, both counted from 0
pub data Kept (e : Edit) : ℕ → ℕ → Type 0 where
  before : {t' t : ℕ} → t' ≡ t → t < e.place → Kept e t' t
  after : {t' t : ℕ} (d : ℕ) → t' ≡ e.place + length e.inserted + d → t ≡ e.place + e.removed + d → Kept e t' t

-- ---- the nodes of a tree

-- of a forest's first tree: its symbol, how many tokens it has, its production (0 for a leaf), and its children; and the trees behind it
abbrev pub symbol : Forest → ℕ
symbol Forest.nil = 0
symbol (Forest.leaf s a g r) = a
symbol (Forest.node s M p k r) = M

abbrev pub own : Forest → ℕ
own Forest.nil = 0
own (Forest.leaf s a g r) = 1
own (Forest.node s M p k r) = length (yield k)

abbrev pub production : Forest → ℕ
production Forest.nil = 0
production (Forest.leaf s a g r) = 0
production (Forest.node s M p k r) = p

abbrev pub below : Forest → Forest
below Forest.nil = Forest.nil
below (Forest.leaf s a g r) = Forest.nil
below (Forest.node s M p k r) = k

abbrev pub beside : Forest → Forest
beside Forest.nil = Forest.nil
beside (Forest.leaf s a g r) = r
beside (Forest.node s M p k r) = r

-- where the first node of F has the number i, the parent par and the child number n, and starts at token j:
-- node a of F, the first of f, has the parent q and the child number m, and starts at token t; f are that node and the siblings behind it
pub data At : (i par n j : ℕ) → Forest → (a q m t : ℕ) → Forest → Type 0 where
  here : {i par n j a q m t : ℕ} {F : Forest} → a ≡ i → q ≡ par → m ≡ n → t ≡ j → 1 ≤ size F → At i par n j F a q m t F
  inside : {i par n j a q m t s M p : ℕ} {k r f : Forest} → At (suc i) i 0 j k a q m t f → At i par n j (Forest.node s M p k r) a q m t f
  past_leaf : {i par n j a q m t s x g : ℕ} {r f : Forest} → At (suc i) par (suc n) (suc j) r a q m t f → At i par n j (Forest.leaf s x g r) a q m t f
  past_node : {i par n j a q m t s M p : ℕ} {k r f : Forest} → At (suc i + size k) par (suc n) (j + length (yield k)) r a q m t f
      → At i par n j (Forest.node s M p k r) a q m t f

-- node a of a tree, numbered from 1 in preorder; the root stands below 0, as child 0
abbrev pub Node : Forest → (a q m t : ℕ) → Forest → Type 0
Node F a q m t f = At 1 0 0 0 F a q m t f

-- ---- which nodes keep their slots

-- node a' of the new tree keeps the slot of node a of the old one; 0 stands for what is above the root
pub data Keeps (e : Edit) (old new : Forest) : ℕ → ℕ → Type 0 where
  above : {a' a : ℕ} → a' ≡ 0 → a ≡ 0 → Keeps e old new a' a
  -- "A node with tokens keeps its slot exactly when its first token is kept and both trees have a node of that symbol starting with it"
  full : {a' q' m' t' a q m t : ℕ} {f' f : Forest} → Node new a' q' m' t' f' → Node old a q m t f → Kept e t' t → symbol f' ≡ symbol f → 1 ≤ own f' → 1 ≤ own f
      → Keeps e old new a' a
  -- "A node without tokens keeps its slot exactly when its parent does and the new tree's node at the same place below that parent has no tokens either.
  -- A root without tokens keeps its slot exactly when the new root has none"
  void : {a' q' t' a q m t : ℕ} {f' f : Forest} → Node new a' q' m t' f' → Node old a q m t f → Keeps e old new q' q → own f' ≡ 0 → own f ≡ 0
      → Keeps e old new a' a

-- ---- the slots of the new tree

-- the slot that node a' of the new tree keeps, or 0
pub data Holds (e : Edit) (old new : Forest) (a' : ℕ) : ℕ → Type 0 where
  keeps : {a q m t : ℕ} {f : Forest} → Keeps e old new a' a → Node old a q m t f → Holds e old new a' (top f)
  makes : ((a : ℕ) → Keeps e old new a' a → ⊥) → Holds e old new a' 0

-- the same for each node of the new tree, in preorder
pub record Holding (e : Edit) (old new : Forest) (hs : List ℕ) : Type 0 where
  pub long : length hs ≡ size new
  pub each : (i : ℕ) → i < size new → Holds e old new (suc i) (get_or hs i 0)

-- "New nodes, in preorder, take the lowest-numbered slots that no kept node holds; given-up slots count as free":
-- hs has the slot that each node keeps, or 0, and ss the slot that it gets; a new node looks for a slot from s on
pub data Given (held : List ℕ) : ℕ → List ℕ → List ℕ → Type 0 where
  nil : {s : ℕ} → Given held s [] []
  kept : {s x : ℕ} {hs ss : List ℕ} → 1 ≤ x → Given held s hs ss → Given held s (x ∷ hs) (x ∷ ss)
  made : {s x : ℕ} {hs ss : List ℕ} → s ≤ x → (Memᴰ x held → ⊥) → ((y : ℕ) → s ≤ y → y < x → Memᴰ y held) → Given held (suc x) hs ss
      → Given held s (0 ∷ hs) (x ∷ ss)

-- ---- the counts

-- how many nodes of the new tree keep a slot, and how many don't
abbrev pub kept_of : List ℕ → ℕ
kept_of [] = 0
kept_of (zero ∷ hs) = kept_of hs
kept_of (suc s ∷ hs) = suc (kept_of hs)

abbrev pub made_of : List ℕ → ℕ
made_of [] = 0
made_of (zero ∷ hs) = suc (made_of hs)
made_of (suc s ∷ hs) = made_of hs

-- "All others are given up": of the old tree's slots, how many no kept node holds
pub data GivenUp (held : List ℕ) : List ℕ → ℕ → Type 0 where
  nil : GivenUp held [] 0
  kept : {s n : ℕ} {ss : List ℕ} → Memᴰ s held → GivenUp held ss n → GivenUp held (s ∷ ss) n
  free : {s n : ℕ} {ss : List ℕ} → (Memᴰ s held → ⊥) → GivenUp held ss n → GivenUp held (s ∷ ss) (suc n)

-- ---- the edit

-- the new tree: the derivation tree of the new sentence, fit for S slots, with its slots and counts
pub record Altered (G : Grammar) (S : ℕ) (e : Edit) (old new : Forest) (kept made up : ℕ) : Type 0 where
  pub derives : Derives G (G.start ∷ []) new
  pub yields : yield new ≡ edited e (yield old)
  pub fits : size new ≤ S
  pub held : List ℕ
  pub holding : Holding e old new held
  pub given : Given held 1 held (slots new)
  pub kept_count : kept ≡ kept_of held
  pub made_count : made ≡ made_of held
  pub given_up : GivenUp held (slots old) up
