-- Sums over the numbers below a bound, and such a sum by rows of 32.
use Rattle.std.specs.Prelude.{ℕ, zero, suc, ◌+◌, ◌*◌, ◌≤◌, ◌<◌, ◌≡◌, refl}
use Rattle.std.proofs.Common.{ap, ◌∙◌, arith}

unfoldable pub sum : ℕ → (ℕ → ℕ) → ℕ
sum zero f = 0
sum (suc n) f = f n + sum n f

pub sum_same : (n : ℕ) (f g : ℕ → ℕ) → ((i : ℕ) → i < n → f i ≡ g i) → sum n f ≡ sum n g
unfolding sum
sum_same zero f g h = refl
sum_same (suc n) f g h = omega (arith, h n (omega arith), sum_same n f g (λ i l. h i (omega arith)))

pub sum_none : (n : ℕ) (f : ℕ → ℕ) → ((i : ℕ) → i < n → f i ≡ 0) → sum n f ≡ 0
unfolding sum
sum_none zero f h = refl
sum_none (suc n) f h = omega (arith, h n (omega arith), sum_none n f (λ i l. h i (omega arith)))

sum_join : (a b : ℕ) (f : ℕ → ℕ) → sum (b + a) f ≡ sum b (λ j. f (a + j)) + sum a f
unfolding sum
sum_join a zero f = let q : 0 + a ≡ a = omega arith in ap (λ (k : ℕ). sum k f) q ∙ omega arith
sum_join a (suc b) f =
    let q : suc b + a ≡ suc (b + a) = omega arith in
    let p : f (b + a) ≡ f (a + b) = let z : b + a ≡ a + b = omega arith in ap f z in
    ap (λ (k : ℕ). sum k f) q ∙ omega (arith, p, sum_join a b f)

-- nothing from a on
pub sum_first : (a b : ℕ) (f : ℕ → ℕ) → ((i : ℕ) → a ≤ i → i < b + a → f i ≡ 0) → sum (b + a) f ≡ sum a f
sum_first a b f h = omega (arith, sum_join a b f, sum_none b (λ j. f (a + j)) (λ j l. h (a + j) (omega arith) (omega arith)))

pub sum_rows : (n : ℕ) (f : ℕ → ℕ) → sum (n * 32) f ≡ sum n (λ i. sum 32 (λ j. f (i * 32 + j)))
unfolding sum
sum_rows zero f = refl
sum_rows (suc n) f =
    let q : suc n * 32 ≡ 32 + n * 32 = omega arith in
    ap (λ (k : ℕ). sum k f) q ∙ omega (arith, sum_join (n * 32) 32 f, sum_rows n f)
