-- Which slots a kept node has: a node of the new tree keeps an old node by document 01's rule exactly if it has that
-- node's slot and the old node is not given up.
use Rattle.std.specs.Prelude.{ℕ, ◌≡◌, ◌↔◌, List}
use Rattle.std.proofs.Common.{sym, ◌∙◌}
use Rattle.grammar.specs.Grammar.{Grammar}
use Rattle.grammar.specs.Forest.{Forest}
use Rattle.trees.specs.Area.{top, Area}
use Rattle.edits.specs.Keeping.{Edit, Node, Keeps, Altered}
use Rattle.edits.specs.Places.{at_number}
use Rattle.edits.specs.One.{keeps_new}
use Rattle.edits.specs.Edited.{Trees}
use Rattle.edits.specs.Giving.{at_slot, slot_apart}
use Rattle.edits.specs.Untouched.{kept_top}

module _ {G : Grammar} {S kept made up : ℕ} {e : Edit} {old new : Forest} {b b' : List ℕ} (h : Trees G e old new)
    (w : Altered G S e old new kept made up)
    (area : Area S old b) (area' : Area S new b') where
  pub keeps_exactly : {a' q' m' t' a q m t : ℕ} {f' f : Forest} → Node new a' q' m' t' f' → Node old a q m t f
      → Keeps e old new a' a ↔ ((top f' ≡ top f) × ((b' : ℕ) × Keeps e old new b' a))
  keeps_exactly {a' = a'} n o = (λ k. (kept_top h w area area' k n o, (a', k)), λ x. back n o x.0 x.1.1)
    where
      back : {a' q' m' t' a q m t b' : ℕ} {f' f : Forest} → Node new a' q' m' t' f' → Node old a q m t f
          → top f' ≡ top f → Keeps e old new b' a → Keeps e old new a' a
      back n o s k =
          let y = keeps_new k (at_number o).0 in
          let z = slot_apart area'.once (at_slot y.node) (at_slot n) (kept_top h w area area' k y.node o ∙ sym s) in
          rw z at k
