-- The ways through an edit.
use Rattle.std.specs.Prelude.{ℕ, ◌+◌, ◌-◌, ◌*◌, ◌≤◌, ◌≡◌, List, length, take, drop}
use Rattle.std.proofs.Common.{sym, ap, ◌∙◌, arith}
use Rattle.base.specs.Blocks.{part_tail}
use Rattle.grammar.specs.declared.Head.{Head}
use Rattle.grammar.specs.Rows.{grammar_in}
use Rattle.trees.specs.Area.{max_slots, area_size, Area}
use Rattle.trees.specs.Nodes.{trees, build, Fed}
use Rattle.trees.specs.Coded.{node_size, nodes_from, arity_in}
use Rattle.trees.specs.Spread.{Spread}
use Rattle.edits.specs.Keeping.{Edit}
use Rattle.matching.specs.Measure.{tree_in, Built}
use Rattle.matching.specs.Finding.{Numbers}
use Rattle.matching.specs.Handing.{Few}
use Rattle.matching.specs.Through.{Matching}
use Rattle.keeping.specs.Matched.{held_from, Old, Fit}
use Rattle.keeping.specs.Marking.{Keeps as Counts}
use Rattle.keeping.specs.Filling.{Gives}
use Rattle.altering.specs.Outcome.{renewed, AltersTree}
use Rattle.altering.specs.Treed.{treed_fits}
use Rattle.altering.specs.Settling.{Both, both_old, both_new, both_one, both_some, both_numbers, both_fit, both_old_nodes, both_spread, both_fed, both_few, both_alters}
use Rattle.altering.specs.Parts.{nodes_drop}
use Rattle.notes.specs.Views.{nodes_in, nodes_in_lem}

-- both trees stand in the buffers, for a grammar in the rows and an edit of these numbers
pub record Doubled (rows : List ℕ) (S place removed inserted : ℕ) (tree w : List ℕ) (o k : ℕ) : Type 0 where
  pub head : Head
  pub edit : Edit
  pub numbers : Numbers edit place removed inserted
  pub both : Both (grammar_in rows head) S edit tree w o k

-- the new tree is laid out, whichever such grammar and edit it was
pub record SettledAll (rows : List ℕ) (S place removed inserted : ℕ) (tree w : List ℕ) (o k r : ℕ) (tree' : List ℕ)
    : Type 0 where
  pub all : (head : Head) (e : Edit) → Numbers e place removed inserted → Both (grammar_in rows head) S e tree w o k
      → AltersTree (grammar_in rows head) S e tree (renewed k r) tree'

module _ {rows : List ℕ} {S place removed inserted : ℕ} {tree w : List ℕ} {o k : ℕ}
    (h : Doubled rows S place removed inserted tree w o k) where
  -- the numbers are small
  pub record Small : Type 0 where
    pub few : S ≤ max_slots
    pub long : length tree ≡ area_size S
    pub old : o ≤ S
    pub old_some : 1 ≤ o
    pub new : k ≤ S
    pub place_few : place ≤ S
    pub removed_few : removed ≤ S
    pub inserted_few : inserted ≤ S

  pub small : Small
  small =
      let y = both_numbers rows h.head h.both in
      record {
        few = h.both.old.valid.few;
        long = h.both.old.valid.area.long;
        old = treed_fits rows h.head S tree w o h.both.old;
        old_some = both_some rows h.head h.both;
        new = h.both.fits;
        place_few = omega (arith, y.0, h.numbers.place_is);
        removed_few = omega (arith, y.1, h.numbers.removed_is);
        inserted_few = omega (arith, y.2, h.numbers.inserted_is);
      }

  pub lists_old : Built rows w o 0
  lists_old = both_old rows h.head h.both

  pub lists_new : Built rows w k S
  lists_new = both_new rows h.head h.both

  pub one_root : trees (tree_in rows w k S) ≡ 1
  one_root = both_one rows h.head h.both

  module _ {ms : List ℕ} (m : Matching rows w o S k place removed inserted ms) (few : Few o ms) where
    pub slots_fit : Fit S w ms k
    slots_fit = both_fit rows h.head h.both h.numbers m few

    pub slots_old : Old S k ms
    slots_old = both_old_nodes rows h.head h.both h.numbers m few

    pub settled_few : (r : ℕ) → Counts w ms k r → r ≤ o
    settled_few r c = both_few rows h.head h.both h.numbers m few r c

    -- of a list that is the same
    module _ {u : List ℕ} (q : u ≡ w) where
      pub fit_then : Fit S u ms k
      fit_then = rw q slots_fit

      pub counts_then : {r : ℕ} → Counts u ms k r → Counts w ms k r
      counts_then c = rw q at c

      pub gives_then : {w' : List ℕ} → Gives u S k (held_from u ms k 0) w' → Gives w S k (held_from w ms k 0) w'
      gives_then g = rw q at g

    -- the new nodes in the part that is lent
    module _ (v : List ℕ) {part : List ℕ} (g : Gives w S k (held_from w ms k 0) (nodes_in S v)) (p : part ≡ take (length v - node_size * S) (drop (node_size * S) v)) where
      part_is : nodes_from part k 0 ≡ nodes_from (nodes_in S v) k S
      part_is =
          let z : S + 0 ≡ S = omega arith in
          rw (p, part_tail v (node_size * S)) (nodes_drop v S k 0 ∙ ap (nodes_from v k) z ∙ sym (nodes_in_lem v S k S (omega (arith, small.new))))

      pub laid_spread : Spread S (nodes_from part k 0)
      laid_spread = rw part_is (both_spread rows h.head h.both h.numbers m few g)

      pub laid_fed : Fed (arity_in rows) (nodes_from part k 0)
      laid_fed = rw part_is (both_fed rows h.head h.both h.numbers m few g)

      pub settled_all : {tree' : List ℕ} (r : ℕ) → Counts w ms k r → Area S (build (arity_in rows) (nodes_from part k 0)) tree' → SettledAll rows S place removed inserted tree w o k r tree'
      settled_all {tree'} r c a =
          let b : Area S (build (arity_in rows) (nodes_from (nodes_in S v) k S)) tree' = rw part_is at a in
          record { all = λ head e s d. both_alters rows head d s m few g r c b }
