-- Meaning: rows of the table that are edits with the reference grammar, of trees that parse or an earlier edit leaves.
use Rattle.std.specs.Prelude.{ℕ, zero, suc, ◌+◌, ◌*◌, ◌≤◌, ◌≡◌, List, [], ◌∷◌, ◌++◌, length, take, drop}
use Rattle.base.specs.Blocks.{zeros}
use Rattle.grammar.specs.Forest.{Token, kinds, Forest, yield, Derives}
use Rattle.grammar.specs.Reference.{reference, reference_image}
use Rattle.trees.specs.Area.{max_slots, work_areas, slots, Area}
use Rattle.trees.specs.Nodes.{Node, preorder}
use Rattle.plain.specs.Tokens.{Sentence}
use Rattle.edits.specs.Keeping.{edit_of, Altered}
use Rattle.replies.specs.declared.Counts.{Counts}
use Rattle.replies.specs.declared.Reply.{Reply}
use Rattle.replies.specs.declared.Reply.TheVariants.{Accepted}
use Rattle.calls.specs.Order.{Ends}
use Rattle.calls.specs.Edit.{edit_call}
use Rattle.worked.specs.Entries.{reference_tables}

-- ---- the rows

-- a node of the new tree that kept its slot, or that was made: its slot, symbol and production (0 for a leaf)
pub data Cell : Type 0 where
  kept : (slot symbol production : ℕ) → Cell
  made : (slot symbol production : ℕ) → Cell

-- the nodes of a tree, in preorder, with the slots that they hold, or 0
abbrev pub cell_of : ℕ → Node → Cell
cell_of zero e = made e.slot e.symbol e.production
cell_of (suc h) e = kept e.slot e.symbol e.production

abbrev pub cells_of : List ℕ → List Node → List Cell
cells_of [] es = []
cells_of (h ∷ hs) [] = []
cells_of (h ∷ hs) (e ∷ es) = cell_of h e ∷ cells_of hs es

-- their slots
abbrev pub slots_in : List Cell → List ℕ
slots_in [] = []
slots_in (kept s x p ∷ cs) = s ∷ slots_in cs
slots_in (made s x p ∷ cs) = s ∷ slots_in cs

-- a tree that an edit starts from, in an area of S slots: the kinds of its tokens, and the slots of its nodes in preorder;
-- where parse has stored it they are 1, 2, ..
pub record OldTree : Type 0 where
  pub S : ℕ
  pub sentence : List ℕ
  pub slots : List ℕ

-- f is the derivation tree of the sentence w, and its nodes are in these slots
pub record InSlots (w : List Token) (ss : List ℕ) (f : Forest) : Type 0 where
  pub derives : Derives reference (reference.start ∷ []) f
  pub yields : yield f ≡ w
  pub order : slots f ≡ ss

-- an edit of such a tree: the counts it is accepted with, and the nodes of the new tree
pub record Row : Type 0 where
  pub old : OldTree
  pub place : ℕ
  pub removed : ℕ
  pub inserted : List ℕ
  pub total : ℕ
  pub kept : ℕ
  pub made : ℕ
  pub up : ℕ
  pub nodes : List Cell

-- the kinds of the new sentence
abbrev pub new_kinds : (place removed : ℕ) → List ℕ → List ℕ → List ℕ
new_kinds place removed ks new = take place ks ++ (new ++ drop (place + removed) ks)

-- the tree that it leaves, for another edit to start from
abbrev pub left_by : Row → OldTree
left_by r =
    record {
      S = r.old.S;
      sentence = new_kinds r.place r.removed r.old.sentence r.inserted;
      slots = slots_in r.nodes;
    }

-- its counts
abbrev pub row_counts : Row → Counts
row_counts r = record { total = r.total; kept = r.kept; made = r.made; given_up = r.up }

-- ---- what a row says

-- what an edit is given: the area of such a tree, tokens of kinds `new` to insert, and work enough; tags are free
pub record Setting (o : OldTree) (new : List ℕ) : Type 0 where
  pub some : 1 ≤ o.S
  pub few : o.S ≤ max_slots
  pub sentence : List Token
  pub sentence_kinds : kinds sentence ≡ o.sentence
  pub old : Forest
  pub placed : InSlots sentence o.slots old
  pub tree : List ℕ
  pub area : Area o.S old tree
  pub inserted : List Token
  pub inserted_kinds : kinds inserted ≡ new
  pub tokens : List ℕ
  pub spelt : Sentence reference.t tokens inserted
  pub work : List ℕ
  pub long : work_areas * length tree ≤ length work

-- how the call ends: the reply, and tree and work after it
abbrev pub EditEnds : {o : OldTree} {new : List ℕ} → Setting o new → (place removed : ℕ) → Reply → List ℕ → List ℕ → Type 0
EditEnds x place removed =
    Ends (edit_call reference_image reference_tables x.tokens place removed (length x.work) x.tree) x.tree x.work

-- it gives this reply and leaves this tree area; the work is zero
abbrev pub Replies : {o : OldTree} {new : List ℕ} → Setting o new → (place removed : ℕ) → Reply → List ℕ → Type 0
Replies x place removed r tree' = EditEnds x place removed r tree' (zeros (length x.work))

-- it is accepted with the row's counts, and the tree that it leaves has the row's nodes
pub record Remade (r : Row) (x : Setting r.old r.inserted) : Type 0 where
  pub tree : Forest
  pub altered :
      Altered reference r.old.S (edit_of r.place r.removed x.inserted) x.old tree r.kept r.made r.up
  pub nodes : cells_of altered.held (preorder tree) ≡ r.nodes
  pub order : slots tree ≡ slots_in r.nodes
  pub bytes : List ℕ
  pub area : Area r.old.S tree bytes
  pub outcome : Replies x r.place r.removed (Accepted (row_counts r)) bytes
