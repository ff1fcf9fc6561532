-- Rules of a well-formed grammar: a number has one, and each is allowed.
use Rattle.std.specs.Prelude.{◌≡◌, ℕ, zero, suc, ◌≤◌, List, [], ◌∷◌, length}
use Rattle.std.proofs.Common.{ap, arith}
use Rattle.std.proofs.Math.Option.{some}
use Rattle.base.specs.Choose.{never}
use Rattle.grammar.specs.Each.{Each}
use Rattle.grammar.specs.Grammar.{Production, Grammar, Nonterminal, Allowed, WellFormed, numbered, Rule}

pub rule_one : {G : Grammar} {p M N : ℕ} {γ δ : List ℕ} → Rule G p M γ → Rule G p N δ → (M ≡ N) × (γ ≡ δ)
rule_one {M = M} {N = N} {γ = γ} {δ = δ} r s =
    let i = r.found in
    let j = s.found in
    let z : ◌≡◌ {A = Production} (record { left = M; body = γ }) (record { left = N; body = δ }) = cc in
    (ap (λ (P : Production). P.left) z, ap (λ (P : Production). P.body) z)

numbered_each : {Q : Production → Type 0} (Ps : List Production) (p : ℕ) {P : Production} → Each Q Ps → numbered Ps p ≡ some P → (1 ≤ p) × (p ≤ length Ps) × Q P
numbered_each [] p e h = never (cc)
numbered_each (R ∷ Ps) zero e h = never (cc)
numbered_each {Q} (R ∷ Ps) (suc zero) {P} (Each.cons q e) h = let z : R ≡ P = cc in (omega arith, omega arith, rw z at q)
numbered_each (R ∷ Ps) (suc (suc p)) (Each.cons q e) h = let w = numbered_each Ps (suc p) e h in (omega arith, omega (arith, w.1), w.2)

module _ {G : Grammar} (f : WellFormed G) {p M : ℕ} {γ : List ℕ} (r : Rule G p M γ) where
  pub rule_allowed : Allowed G.t G.n (record { left = M; body = γ })
  rule_allowed = (numbered_each G.productions p f.each r.found).2

  pub rule_number : (1 ≤ p) × (p ≤ length G.productions)
  rule_number = let w = numbered_each G.productions p f.each r.found in (w.0, w.1)

  pub rule_left : Nonterminal G M
  rule_left = rule_allowed.left
