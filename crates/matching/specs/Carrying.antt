-- A kept node whose subtree keeps the old one's slots node by node: the subtree's entries are numbers in a row.
use Rattle.std.specs.Prelude.{ℕ, ◌+◌, ◌-◌, ◌≤◌, ◌<◌, ◌≡◌, ◌⊎◌, List, length, get_or, set}
use Rattle.std.proofs.Common.{◌∙◌, inl, inr, get_or-set_same, get_or-set_other, arith}
use Rattle.std.proofs.Math.Logic.{by_cases}
use Rattle.std.proofs.Math.Decide.{ℕ_discrete, dec_lt}
use Rattle.grammar.specs.Forest.{Forest}
use Rattle.edits.specs.Keeping.{At, here, inside, past_leaf, past_node}
use Rattle.edits.specs.Places.{tree_size, at_number, at_parent}
use Rattle.matching.specs.Measure.{at_within, tree_few}
use Rattle.matching.specs.Handing.{Few}

-- ---- the numbers of a subtree

-- the parent is neither the one above nor one of those numbers
nowhere : {p par n c lo hi : ℕ} {A : Type 0} → ((p ≡ par) × (n ≤ c)) ⊎ ((lo ≤ p) × (p < hi)) → (p ≡ par → ⊥) → (lo ≤ p → p < hi → ⊥) → A
nowhere (inl x) y z = absurd (y x.0)
nowhere (inr x) y z = absurd (z x.0 x.1)

-- a node whose parent is in a node's subtree is in it
pub in_subtree : {i par n j a q m t b p c v : ℕ} {F f g : Forest} → par < i → At i par n j F a q m t f → At i par n j F b p c v g → a ≤ p → p < a + tree_size f → b < a + tree_size f
in_subtree o (here x y z w l) (here x' y' z' w' l') s u = absurd (omega arith)
in_subtree o (here x y z w l) (inside k) s u = omega (arith, (at_number k).1)
in_subtree o (here x y z w l) (past_leaf k) s u = nowhere (at_parent k) (λ e. omega arith) (λ e d. omega arith)
in_subtree o (here x y z w l) (past_node k) s u = nowhere (at_parent k) (λ e. omega arith) (λ e d. omega arith)
in_subtree o (inside h) (here x y z w l) s u = absurd (omega (arith, (at_number h).0))
in_subtree o (inside h) (inside k) s u = in_subtree (omega arith) h k s u
in_subtree {f = f} o (inside h) (past_node k) s u = nowhere (at_parent k) (λ e. omega (arith, (at_number h).0)) (λ e d. omega (arith, at_within h, (tree_few f).0))
in_subtree o (past_leaf h) (here x y z w l) s u = absurd (omega (arith, (at_number h).0))
in_subtree o (past_leaf h) (past_leaf k) s u = in_subtree (omega arith) h k s u
in_subtree o (past_node h) (here x y z w l) s u = absurd (omega (arith, (at_number h).0))
in_subtree o (past_node h) (inside k) s u = nowhere (at_parent k) (λ e. omega (arith, (at_number h).0)) (λ e d. omega (arith, (at_number h).0))
in_subtree o (past_node h) (past_node k) s u = in_subtree (omega arith) h k s u

-- ---- entries in a row

-- entries i..stop are v, v + 1, ..; the others are as they were
pub record InRow (ms : List ℕ) (i stop v : ℕ) (ms' : List ℕ) : Type 0 where
  pub inner : (y : ℕ) → i ≤ y → y < stop → get_or ms' y 0 ≡ v + (y - i)
  pub low : (y : ℕ) → y < i → get_or ms' y 0 ≡ get_or ms y 0
  pub high : (y : ℕ) → stop ≤ y → get_or ms' y 0 ≡ get_or ms y 0

pub row_next : {ms₀ ms ms' : List ℕ} {i y v : ℕ} → InRow ms₀ i y v ms → i ≤ y → y < length ms → ms' ≡ set ms y (v + (y - i)) → InRow ms₀ i (y + 1) v ms'
row_next {ms = ms} {i = i} {y = y} {v = v} h l k e =
    rw e (record {
      inner = λ z a b. by_cases (ℕ_discrete z y) (λ d. rw d (get_or-set_same ms y (v + (y - i)) 0 k)) (λ d. get_or-set_other ms y z (v + (y - i)) 0 d ∙ h.inner z a (omega arith));
      low = λ z a. get_or-set_other ms y z (v + (y - i)) 0 (λ d. omega arith) ∙ h.low z a;
      high = λ z a. get_or-set_other ms y z (v + (y - i)) 0 (λ d. omega arith) ∙ h.high z (omega arith);
    })

pub few_row : {n i stop v : ℕ} {ms ms' : List ℕ} → Few n ms → v + (stop - i) ≤ n + 1 → InRow ms i stop v ms' → Few n ms'
few_row {i = i} {stop = stop} h l r =
    record {
      each = λ z. by_cases (dec_lt z i) (λ a. omega (arith, h.each z, r.low z a))
          (λ a. by_cases (dec_lt z stop) (λ b. omega (arith, r.inner z (omega arith) b)) (λ b. omega (arith, h.each z, r.high z (omega arith))));
    }
