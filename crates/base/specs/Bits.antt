-- Sets of small numbers as the bits of a number: which are in it, and what `|`, a shift and the lowest bit do.
use Rattle.std.specs.Prelude.{ℕ, zero, suc, ◌+◌, ◌*◌, ◌-◌, ◌/◌, ◌%◌, ◌^◌, ◌≤◌, ◌<◌, max, ◌≡◌, refl, ◌⊎◌}
use Rattle.std.proofs.Common.{ap, sym, ◌∙◌, inl, inr, mod-eq_of_lt, pow-suc, arith}
use Rattle.std.proofs.Math.Logic.{by_cases}
use Rattle.std.proofs.Math.Pow.{pow-lt}
use Rattle.std.proofs.Math.Nat.{pow-succ', div-div-eq-div-mul}
use Rattle.std.proofs.Math.Decide.{ℕ_discrete}
use Rattle.std.specs.Int.Bits.{bit_or, or_step, or_add_and}
use Rattle.std.proofs.lemmas.Nat.{and_le_r}

-- bit i of m, 0 or 1
unfoldable pub bit : ℕ → ℕ → ℕ
bit zero m = m % 2
bit (suc i) m = bit i (m / 2)

-- i is in the set m
pub record Has (m i : ℕ) : Type 0 where
  pub is : bit i m ≡ 1

pub has? : (m i : ℕ) → Dec (Has m i)
has? m i = by_cases (ℕ_discrete (bit i m) 1) (λ e. yes (record { is = e })) (λ n. no (λ h. n h.is))

bit_small : (i m : ℕ) → bit i m ≤ 1
unfolding bit
bit_small zero m = omega arith
bit_small (suc i) m = bit_small i (m / 2)

bit_or_lem : (i a b : ℕ) → bit i (bit_or a b) ≡ max (bit i a) (bit i b)
unfolding bit
bit_or_lem zero a b = omega (arith, or_step a b)
bit_or_lem (suc i) a b =
    let q : bit_or a b / 2 ≡ bit_or (a / 2) (b / 2) = omega (arith, or_step a b) in
    ap (bit i) q ∙ bit_or_lem i (a / 2) (b / 2)

module _ (a b i : ℕ) where
  pub or_has : Has (bit_or a b) i → Has a i ⊎ Has b i
  or_has h =
      by_cases (ℕ_discrete (bit i a) 1) (λ e. inl (record { is = e }))
      (λ n. inr (record { is = omega (arith, h.is, bit_or_lem i a b, bit_small i a, bit_small i b) }))

  pub has_or_left : Has a i → Has (bit_or a b) i
  has_or_left h = record { is = omega (arith, h.is, bit_or_lem i a b, bit_small i b) }

  pub has_or_right : Has b i → Has (bit_or a b) i
  has_or_right h = record { is = omega (arith, h.is, bit_or_lem i a b, bit_small i a) }

pub or_grows : (a b : ℕ) → a ≤ bit_or a b
or_grows a b = omega (arith, or_add_and a b, and_le_r a b)

bit_zero : (i : ℕ) → bit i 0 ≡ 0
unfolding bit
bit_zero zero = refl
bit_zero (suc i) = bit_zero i

pub none_has : (i : ℕ) → Has 0 i → ⊥
none_has i h = omega (arith, h.is, bit_zero i)

-- one number alone

bit_pow_same : (k : ℕ) → bit k (2 ^ k) ≡ 1
unfolding bit
bit_pow_same zero = refl
bit_pow_same (suc k) = let q : 2 ^ suc k / 2 ≡ 2 ^ k = omega (arith, pow-suc 2 k) in ap (bit k) q ∙ bit_pow_same k

bit_pow_other : (i k : ℕ) → (i ≡ k → ⊥) → bit i (2 ^ k) ≡ 0
unfolding bit
bit_pow_other zero zero n = absurd (n refl)
bit_pow_other zero (suc k) n = omega (arith, pow-suc 2 k)
bit_pow_other (suc i) zero n = bit_zero i
bit_pow_other (suc i) (suc k) n =
    let q : 2 ^ suc k / 2 ≡ 2 ^ k = omega (arith, pow-suc 2 k) in
    ap (bit i) q ∙ bit_pow_other i k (λ e. n (ap suc e))

pub one_has : (k : ℕ) → Has (2 ^ k) k
one_has k = record { is = bit_pow_same k }

pub has_one : (k i : ℕ) → Has (2 ^ k) i → i ≡ k
has_one k i h = by_cases (ℕ_discrete i k) (λ e. e) (λ n. absurd (omega (arith, h.is, bit_pow_other i k n)))

-- as `1 << i` is to the checker in k bits
pub shift_one : (k i : ℕ) → i < k → 1 * 2 ^ i % 2 ^ k ≡ 2 ^ i
shift_one k i l = mod-eq_of_lt (omega (arith, pow-lt {i = i} {j = k} l)) ∙ omega arith

-- the lowest bit, and all but the lowest

pub odd_has : (m : ℕ) → m % 2 ≡ 1 → Has m 0
unfolding bit
odd_has m e = record { is = e }

pub has_odd : (m : ℕ) → Has m 0 → m % 2 ≡ 1
unfolding bit
has_odd m h = h.is

bit_high : (i m : ℕ) → bit (suc i) (m - m % 2) ≡ bit (suc i) m
unfolding bit
bit_high i m = let q : (m - m % 2) / 2 ≡ m / 2 = omega arith in ap (bit i) q

pub high_has : (m i : ℕ) → Has (m - m % 2) i → (0 < i) × Has m i
unfolding bit
high_has m zero h = absurd (omega (arith, h.is))
high_has m (suc i) h = (omega arith, record { is = sym (bit_high i m) ∙ h.is })

pub has_high : (m i : ℕ) → 0 < i → Has m i → Has (m - m % 2) i
has_high m zero l h = absurd (omega arith)
has_high m (suc i) l h = record { is = bit_high i m ∙ h.is }

-- a shift and the lowest bit

shift_bit : (i m : ℕ) → m / 2 ^ i % 2 ≡ bit i m
unfolding bit
shift_bit zero m = let q : m / 1 ≡ m = omega arith in ap (λ (x : ℕ). x % 2) q
shift_bit (suc i) m = ap (λ (x : ℕ). m / x % 2) (pow-succ' 2 i) ∙ ap (λ (x : ℕ). x % 2) (sym (div-div-eq-div-mul m 2 (2 ^ i))) ∙ shift_bit i (m / 2)

pub shifted_has : (m i : ℕ) → m / 2 ^ i % 2 ≡ 1 → Has m i
shifted_has m i e = record { is = sym (shift_bit i m) ∙ e }

pub has_shifted : (m i : ℕ) → Has m i → m / 2 ^ i % 2 ≡ 1
has_shifted m i h = shift_bit i m ∙ h.is

-- numbers below 2 ^ k with the same bits are equal

pub bits_one : (k a b : ℕ) → a < 2 ^ k → b < 2 ^ k → ((i : ℕ) → i < k → Has a i → Has b i) → ((i : ℕ) → i < k → Has b i → Has a i) → a ≡ b
unfolding bit
bits_one zero a b l m f g = omega arith
bits_one (suc k) a b l m f g =
    let e = pow-succ' 2 k in
    let h = bits_one k (a / 2) (b / 2) (omega (arith, e)) (omega (arith, e))
    (λ i x y. record { is = (f (suc i) (omega arith) (record { is = y.is })).is })
    (λ i x y. record { is = (g (suc i) (omega arith) (record { is = y.is })).is }) in
    let p : a % 2 ≡ 1 → b % 2 ≡ 1 = λ x. (f 0 (omega arith) (record { is = x })).is in
    let q : b % 2 ≡ 1 → a % 2 ≡ 1 = λ x. (g 0 (omega arith) (record { is = x })).is in
    by_cases (ℕ_discrete (a % 2) 1) (λ x. omega (arith, h, x, p x)) (λ x. by_cases (ℕ_discrete (b % 2) 1) (λ y. absurd (x (q y))) (λ y. omega (arith, h, x, y)))

-- a number below 2 ^ k for any decidable set of numbers below k

pub record Gathered (P : ℕ → Type 0) (k m : ℕ) : Type 0 where
  pub small : m < 2 ^ k
  pub all : (i : ℕ) → i < k → P i → Has m i
  pub only : (i : ℕ) → Has m i → P i

gather_step : (P : ℕ → Type 0) (k m b : ℕ) → b ≤ 1 → (P 0 → b ≡ 1) → (b ≡ 1 → P 0) → Gathered (λ i. P (suc i)) k m → Gathered P (suc k) (2 * m + b)
unfolding bit
gather_step P k m b l f g h =
    let q : (2 * m + b) / 2 ≡ m = omega arith in
    let z : (2 * m + b) % 2 ≡ b = omega arith in
    record { small = omega (arith, pow-succ' 2 k, h.small); all = fill q z; only = look q z }
  where
    fill : (2 * m + b) / 2 ≡ m → (2 * m + b) % 2 ≡ b → (i : ℕ) → i < suc k → P i → Has (2 * m + b) i
    fill q z zero j x = record { is = z ∙ f x }
    fill q z (suc i) j x = record { is = ap (bit i) q ∙ (h.all i (omega arith) x).is }

    look : (2 * m + b) / 2 ≡ m → (2 * m + b) % 2 ≡ b → (i : ℕ) → Has (2 * m + b) i → P i
    look q z zero x = g (sym z ∙ x.is)
    look q z (suc i) x = h.only i (record { is = ap (bit i) (sym q) ∙ x.is })

pub gather : (P : ℕ → Type 0) → ((i : ℕ) → Dec (P i)) → (k : ℕ) → (m : ℕ) × Gathered P k m
unfolding bit
gather P d zero = (0, record { small = omega arith; all = λ i l. absurd (omega arith); only = λ i h. absurd (none_has i h) })
gather P d (suc k) =
    let h = gather (λ i. P (suc i)) (λ i. d (suc i)) k in
    by_cases (d 0)
    (λ x. (2 * h.0 + 1, gather_step P k h.0 1 (omega arith) (λ _. refl) (λ _. x) h.1))
    (λ x. (2 * h.0 + 0, gather_step P k h.0 0 (omega arith) (λ y. absurd (x y)) (λ e. absurd (omega (arith, e))) h.1))
