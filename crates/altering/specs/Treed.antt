-- A tree area that was walked, and the list of its nodes.
use Rattle.std.specs.Prelude.{ℕ, ◌-◌, ◌*◌, ◌≤◌, ◌≡◌, length, List, Option, Some, None}
use Rattle.std.proofs.Common.{sym, ap, ◌∙◌, arith}
use Rattle.base.specs.Choose.{never}
use Rattle.grammar.specs.declared.Head.{Head}
use Rattle.grammar.specs.Grammar.{Grammar}
use Rattle.grammar.specs.Forest.{size, yield}
use Rattle.grammar.specs.Rows.{length_at, grammar_in}
use Rattle.grammar.specs.RowRules.{rule_row}
use Rattle.trees.specs.Area.{max_slots, area_size, work_areas, Valid}
use Rattle.trees.specs.Nodes.{preorder, leaves_of, leaves_yield, Arity, derives_formed, size_preorder}
use Rattle.trees.specs.Coded.{node_size, nodes_from, arity_in}
use Rattle.notes.specs.Views.{notes_size}
use Rattle.plain.specs.Machine.{length_symbols}
use Rattle.walks.specs.Reading.{valid_few}
use Rattle.walks.specs.Closing.{Reads}

-- the rows say how many children a production has
pub arity_rows : (rows : List ℕ) (head : Head) → Arity (grammar_in rows head) (arity_in rows)
unfolding arity_in
arity_rows rows head =
    record {
      is = λ p M γ r.
          let x = rule_row rows head r in
          let z : p - 1 ≡ x.row = omega (arith, x.number) in
          ap (length_at rows) z ∙ sym (length_symbols rows x.row (length_at rows x.row) 0) ∙ sym (ap length x.body);
    }

-- the area's tree has these nodes
pub record Treed (G : Grammar) (S : ℕ) (b w : List ℕ) (n : ℕ) : Type 0 where
  pub valid : Valid G S b
  pub nodes : preorder valid.tree ≡ nodes_from w n 0
  pub count : n ≡ size valid.tree

pub treed : {G : Grammar} {S : ℕ} {b w : List ℕ} {r : Option ℕ} (n : ℕ) → Reads G S b w r → r ≡ Some n → Treed G S b w n
treed n (Reads.tree {n = m} v e f) q = let z : m ≡ n = cc in record { valid = v; nodes = rw z at e; count = rw z at f }
treed n (Reads.none f) q = never (cc)

pub untreed : {G : Grammar} {S : ℕ} {b w : List ℕ} {r : Option ℕ} → Reads G S b w r → r ≡ None → Valid G S b → ⊥
untreed (Reads.tree v e f) q = never (cc)
untreed (Reads.none f) q = f

module _ (rows : List ℕ) (head : Head) (S : ℕ) (tree nodes : List ℕ) (o : ℕ) (h : Treed (grammar_in rows head) S tree nodes o) where
  -- the tokens of its leaves are those of the tree
  pub leaves : leaves_of (nodes_from nodes o 0) ≡ yield h.valid.tree
  leaves = ap leaves_of (sym h.nodes) ∙ leaves_yield (derives_formed (arity_in rows) (arity_rows rows head) h.valid.derives)

  -- it has no more nodes than slots
  pub treed_fits : o ≤ S
  treed_fits = let l = valid_few h.valid in let q = h.count in let z = size_preorder h.valid.tree in omega (arith, l, q, z)

  pub treed_few : o ≤ max_slots
  treed_few = omega (arith, treed_fits, h.valid.few)

  pub treed_sized : (1 ≤ S) × (S ≤ max_slots) × (o ≤ S) × (length tree ≡ area_size S)
  treed_sized = (h.valid.some, h.valid.few, treed_fits, h.valid.area.long)

  -- the work area has room for a list of nodes
  pub treed_long : work_areas * length tree ≤ length nodes → node_size * S ≤ length nodes
  treed_long l = omega (arith, h.valid.area.long)

  -- and for both lists and what is noted
  pub treed_room : (x : ℕ) → work_areas * length tree ≤ length nodes → x ≡ length nodes → notes_size S ≤ x
  treed_room x l e = omega (arith, h.valid.area.long)
