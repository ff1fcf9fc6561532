-- A stem is short: it repeats no symbol, and there are few symbols.
use Rattle.std.specs.Prelude.{ℕ, zero, suc, ◌≤◌, ◌<◌, ◌≡◌, refl, Bool, true, false, List, [], ◌∷◌, length, get_or, set, eqb}
use Rattle.std.proofs.Common.{sym, ◌∙◌, length-set, get_or-set_other, eqb-true, arith}
use Rattle.std.proofs.Math.Logic.{by_cases}
use Rattle.std.proofs.Math.Decide.{ℕ_discrete}
use Rattle.base.specs.Choose.{choose}
use Rattle.base.specs.Blocks.{zeros, length_zeros, byte_zeros}
use Rattle.grammar.specs.Grammar.{Grammar, Rule}
use Rattle.grammar.specs.Rows.{symbol_space}
use Rattle.predictions.specs.Paths.{Single, Path, p_end, p_down, On, here, below, once}

-- how many flags are not 1
unfoldable dark : List ℕ → ℕ
dark [] = 0
dark (x ∷ f) = choose (eqb x 1) (λ _. dark f) (λ _. suc (dark f))

dark_le : (f : List ℕ) → dark f ≤ length f
unfolding dark choose
dark_le [] = omega arith
dark_le (x ∷ f) = go (dark_le f) (eqb x 1)
  where
    go : dark f ≤ length f → (b : Bool) → choose b (λ _. dark f) (λ _. suc (dark f)) ≤ suc (length f)
    go h true = omega arith
    go h false = omega arith

dark_set : (f : List ℕ) (i : ℕ) → i < length f → (get_or f i 0 ≡ 1 → ⊥) → dark (set f i 1) < dark f
unfolding dark choose
dark_set [] i l h = absurd (omega arith)
dark_set (x ∷ f) zero l h = go (eqb x 1) refl
  where
    go : (b : Bool) → eqb x 1 ≡ b → dark f < choose b (λ _. dark f) (λ _. suc (dark f))
    go true e = absurd (h (eqb-true x 1 e))
    go false e = omega arith
dark_set (x ∷ f) (suc i) l h = go (dark_set f i (omega arith) h) (eqb x 1)
  where
    go : dark (set f i 1) < dark f → (b : Bool)
        → choose b (λ _. dark (set f i 1)) (λ _. suc (dark (set f i 1))) < choose b (λ _. dark f) (λ _. suc (dark f))
    go q true = q
    go q false = omega arith

module _ {G : Grammar} (one : Single G) {a : ℕ} (small : (p M : ℕ) (γ : List ℕ) → Rule G p M γ → M < symbol_space) (low : G.t < symbol_space) where
  short_in : {M : ℕ} {s : List ℕ} (f : List ℕ) → length f ≡ symbol_space → Path G a M s → ((x : ℕ) (u : List ℕ) → On x s u → get_or f x 0 ≡ 1 → ⊥) → length s ≤ dark f
  short_in f l (p_end t) h = omega (arith, dark_set f a (omega (arith, t.1)) (h a (a ∷ []) here))
  short_in f l (p_down {p} {M} {x} {γ} {s} α β r e v k) h =
      omega (
        arith,
        dark_set f M (omega (arith, small p M γ r)) (h M (M ∷ s) here),
        short_in (set f M 1) (simp length-set l) k
            (λ y u o b. by_cases (ℕ_discrete y M)
            (λ q. once one (p_down α β r e v k) (rw q at o))
            (λ q. h y u (below o) (sym (get_or-set_other f M y 1 0 q) ∙ b))),
      )

  pub short : {M : ℕ} {s : List ℕ} → Path G a M s → length s ≤ symbol_space
  short k =
      let h = short_in (zeros symbol_space) (length_zeros symbol_space) k (λ x u o b. omega (arith, b, byte_zeros symbol_space x)) in
      omega (arith, h, dark_le (zeros symbol_space), length_zeros symbol_space)
