-- The lowest nonterminal that is not both productive and reachable.
use Rattle.std.specs.Prelude.{ℕ, ◌+◌, ◌-◌, ◌%◌, ◌≤◌, ◌<◌, ◌≡◌, Option, Some, None, ◌⊎◌, List, get_or}
use Rattle.std.proofs.Math.Logic.{by_cases}
use Rattle.std.proofs.Common.{inl, inr, arith}
use Rattle.std.proofs.Math.Decide.{ℕ_discrete}
use Rattle.base.specs.Bits.{Has, bit, has?}
use Rattle.grammar.specs.Grammar.{Grammar, Nonterminal, WellFormed}
use Rattle.grammar.specs.Derivation.{Productive, Reachable, Useless, Lowest}
use Rattle.grammar.specs.Rows.{symbol_space}
use Rattle.sets.specs.Words.{marks}
use Rattle.sets.specs.Known.{Known, known_made, known_reached}

-- both bits of X's mark are lit
pub record Busy (s : List ℕ) (X : ℕ) : Type 0 where
  pub made : Has (get_or s (marks + X) 0) 0
  pub reached : Has (get_or s (marks + X) 0) 1

three_busy : (s : List ℕ) (X : ℕ) → get_or s (marks + X) 0 % 4 ≡ 3 → Busy s X
unfolding bit
three_busy s X e = record { made = record { is = omega arith }; reached = record { is = omega arith } }

busy_three : (s : List ℕ) (X : ℕ) → Busy s X → get_or s (marks + X) 0 % 4 ≡ 3
unfolding bit
busy_three s X b = omega (arith, b.made.is, b.reached.is)

-- the nonterminals up to x are busy
pub record BusyTo (s : List ℕ) (t x : ℕ) : Type 0 where
  pub all : (Y : ℕ) → t < Y → Y ≤ x → Busy s Y

-- the lowest nonterminal that is not busy
pub data Idle (s : List ℕ) (t n : ℕ) : Option ℕ → Type 0 where
  none : BusyTo s t (t + n) → Idle s t n None
  some : {X : ℕ} → t < X → X ≤ t + n → (Busy s X → ⊥) → BusyTo s t (X - 1) → Idle s t n (Some X)

module _ (s : List ℕ) (t : ℕ) where
  pub busy_none : BusyTo s t t
  busy_none = record { all = λ Y l m. absurd (omega arith) }

  pub busy_more : (x : ℕ) → get_or s (marks + (x + 1)) 0 % 4 ≡ 3 → BusyTo s t x → BusyTo s t (x + 1)
  busy_more x e h = record { all = λ Y l m. by_cases (ℕ_discrete Y (x + 1)) (λ q. rw q (three_busy s (x + 1) e)) (λ q. h.all Y l (omega arith)) }

  -- the search up to x, which comes next
  pub busy_first : (x : ℕ) → x ≡ t + 1 → BusyTo s t (x - 1)
  busy_first x e = let q : x - 1 ≡ t = omega arith in rw q busy_none

  pub busy_next : (x : ℕ) → 0 < x → get_or s (marks + x) 0 % 4 ≡ 3 → BusyTo s t (x - 1) → BusyTo s t (x + 1 - 1)
  busy_next x l e h = let q : x - 1 + 1 ≡ x = omega arith in let r : x + 1 - 1 ≡ x - 1 + 1 = omega arith in rw r (busy_more (x - 1) (rw q e) h)

  pub idle_some : (n x : ℕ) → t < x → x ≤ t + n → (get_or s (marks + x) 0 % 4 ≡ 3 → ⊥) → BusyTo s t (x - 1) → Idle s t n (Some x)
  idle_some n x l m e h = some l m (λ b. e (busy_three s x b)) h

  pub idle_none : (n x : ℕ) → x ≡ t + n → BusyTo s t x → Idle s t n None
  idle_none n x e h = none (rw e at h)

pub ruleset idling = (busy_first, busy_next, idle_some, idle_none)

-- ---- what that says of a grammar

module _ {G : Grammar} {s : List ℕ} (k : Known G s) (f : WellFormed G) where
  small : {M : ℕ} → Nonterminal G M → M < symbol_space
  small m = omega (arith, m.1, f.head.terminals.1, f.head.nonterminals.1)

  busy_useful : {M : ℕ} → Nonterminal G M → Busy s M → Useless G M → ⊥
  busy_useful {M} m b u = go u.fault
    where
      go : ((Productive G M → ⊥) ⊎ (Reachable G M → ⊥)) → ⊥
      go (inl n) = n ((known_made k M (small m)).0 b.made)
      go (inr n) = n ((known_reached k M (small m)).0 b.reached)

  idle_useless : {M : ℕ} → Nonterminal G M → (Busy s M → ⊥) → Useless G M
  idle_useless {M} m n =
      by_cases (has? (get_or s (marks + M) 0) 0)
      (λ a. by_cases (has? (get_or s (marks + M) 0) 1) (λ b. absurd (n (record { made = a; reached = b })))
      (λ b. record { nonterminal = m; fault = inr (λ r. b ((known_reached k M (small m)).1 r)) }))
      (λ a. record { nonterminal = m; fault = inl (λ p. a ((known_made k M (small m)).1 p)) })

  -- reply 2's place, or no useless nonterminal
  pub idle_lowest : {X : ℕ} → Idle s G.t G.n (Some X) → Lowest (Useless G) X
  idle_lowest (some l m e h) =
      record { holds = idle_useless (l, m) e; first = λ N i u. busy_useful u.nonterminal (h.all N u.nonterminal.0 (omega arith)) u }

  pub idle_useful : Idle s G.t G.n None → (M : ℕ) → Useless G M → ⊥
  idle_useful (none h) M u = busy_useful u.nonterminal (h.all M u.nonterminal.0 u.nonterminal.1) u
