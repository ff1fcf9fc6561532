-- In an LL(1) grammar a lookahead predicts at most one production of a nonterminal; a lowest number is one only.
use Rattle.std.specs.Prelude.{◌≡◌, ℕ}
use Rattle.std.proofs.Math.Logic.{by_cases}
use Rattle.std.proofs.Math.Decide.{ℕ_discrete, dec_lt}
use Rattle.std.proofs.Common.{arith}
use Rattle.grammar.specs.Grammar.{Grammar}
use Rattle.grammar.specs.Derivation.{Lowest}
use Rattle.grammar.specs.Prediction.{Predicts, LL1}

pub ll1_one : {G : Grammar} → LL1 G → {M a p q : ℕ} → Predicts G M a p → Predicts G M a q → p ≡ q
ll1_one ll {M} {a} {p} {q} x y =
    by_cases (ℕ_discrete p q) (λ e. e) (λ n. absurd (ll M (record { lookahead = a; one = p; other = q; differ = n; predicted = x; too = y })))

pub lowest_one : {P : ℕ → Type 0} {M N : ℕ} → Lowest P M → Lowest P N → M ≡ N
lowest_one {M = M} {N = N} h k =
    by_cases (dec_lt M N) (λ l. absurd (k.first M l h.holds))
    (λ l. by_cases (dec_lt N M) (λ m. absurd (h.first N m k.holds)) (λ m. omega arith))
