-- Laying out and walking undo each other: walking what was laid out gives the node list and its slots back; laying out what was walked gives the bytes back.
use Rattle.std.specs.Prelude.{ℕ, ◌≤◌, ◌≡◌, List, [], ◌∷◌, Option, Some, None}
use Rattle.std.proofs.Common.{sym, ap, ◌∙◌}
use Rattle.grammar.specs.Grammar.{Grammar}
use Rattle.grammar.specs.Forest.{Forest, Derives}
use Rattle.grammar.specs.Rows.{grammar_in}
use Rattle.grammar.specs.declared.Head.{Head}
use Rattle.trees.specs.Area.{max_slots, Area, Valid}
use Rattle.trees.specs.AreaOne.{area_one}
use Rattle.trees.specs.Nodes.{preorder, build, build_preorder, derives_formed}
use Rattle.trees.specs.Coded.{nodes_from, arity_in}
use Rattle.walks.specs.Reading.{valid_one}
use Rattle.walks.specs.Closing.{Reads}
use Rattle.altering.specs.Treed.{arity_rows, Treed, treed, untreed}

module _ {G : Grammar} {S : ℕ} {b w : List ℕ} {r : Option ℕ} (some : 1 ≤ S) (few : S ≤ max_slots) (f : Forest) (d : Derives G (G.start ∷ []) f) (a : Area S f b) (h : Reads G S b w r) where
  abbrev laid : Valid G S b
  laid = record { some = some; few = few; tree = f; derives = d; area = a }

  -- an area that was laid out is no invalid one
  pub laid_valid : r ≡ None → ⊥
  laid_valid e = untreed h e laid

  -- and its walk lists the nodes that were laid out, slots and all
  pub laid_walked : (n : ℕ) → r ≡ Some n → nodes_from w n 0 ≡ preorder f
  laid_walked n e = let t = treed n h e in sym t.nodes ∙ ap preorder (valid_one t.valid laid)

-- what a walk has listed, laid out again, is the area that was walked
pub walked_laid : (rows : List ℕ) (head : Head) (S : ℕ) (b b' w : List ℕ) (o : ℕ) → Treed (grammar_in rows head) S b w o → Area S (build (arity_in rows) (nodes_from w o 0)) b' → b' ≡ b
walked_laid rows head S b b' w o h a =
    let f = h.valid.tree in
    let e : build (arity_in rows) (preorder f) ≡ f = build_preorder (derives_formed (arity_in rows) (arity_rows rows head) h.valid.derives) in
    let q : build (arity_in rows) (nodes_from w o 0) ≡ f = rw h.nodes at e in
    area_one S f b' b (rw q at a) h.valid.area
