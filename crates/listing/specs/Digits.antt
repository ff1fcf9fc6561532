-- The digits of a number, as the library `io` counts them.
use Rattle.std.specs.Prelude.{ℕ, zero, suc, ◌+◌, ◌-◌, ◌/◌, ◌%◌, ◌^◌, ◌≤◌, ◌<◌, ◌≡◌, cond, List, [], ◌∷◌, ◌++◌, length, ltb, decimal}
use Rattle.std.proofs.Common.{◌∙◌, lt-ltb, le-ltb, length-append, arith}
use Rattle.std.proofs.Math.Nat.{pow-le-pow_right}
use Rattle.std.proofs.Math.Logic.{by_cases}
use Rattle.std.proofs.Math.Decide.{dec_lt}
use borrow.Author.Tests.{ltb-true, ltb-false}
use Rattle.io.specs.Digits.{last_digits, IsDigitCount}
use Rattle.base.specs.Choose.{choose_of, choose_yes, choose_no}
use Rattle.listing.specs.Text.{digits_of, most_digits}
use Rattle.listing.specs.Writing.{digits_text}

glyph_low : (d : ℕ) → d < 10 → cond (ltb d 10) (48 + d) (87 + d) ≡ 48 + d
glyph_low d l = rw (lt-ltb d 10 l)

power : (k : ℕ) → 1 ≤ 10 ^ k
power zero = omega arith
power (suc k) = omega (arith, power k)

-- the fewest digits that hold a number are its digits
digits_fewest : (f k n : ℕ) → k ≤ f → IsDigitCount 10 1 n k → last_digits 10 k n ≡ digits_of f n
unfolding digits_of
digits_fewest f zero n l h = absurd (omega (arith, h.0))
digits_fewest zero (suc k) n l h = absurd (omega arith)
digits_fewest (suc f) (suc zero) n l h =
    let q : n < 10 = omega (arith, h.1) in
    let e : n % 10 ≡ n = omega arith in
    choose_yes (ltb n 10) _ (λ _. (48 + n) ∷ []) (λ _. digits_of f (n / 10) ++ ((48 + n % 10) ∷ [])) (lt-ltb n 10 q)
    (rw (glyph_low (n % 10) (omega arith), e))
digits_fewest (suc f) (suc (suc k)) n l h =
    let e : suc (suc k) - 1 ≡ suc k = omega arith in
    let b : 10 ^ suc k ≤ n = rw e at (h.2 (omega arith)) in
    let u : IsDigitCount 10 1 (n / 10) (suc k) = (omega arith, omega (arith, h.1), λ _. let y : suc k - 1 ≡ k = omega arith in rw y (omega (arith, b))) in
    choose_no (ltb n 10) _ (λ _. (48 + n) ∷ []) (λ _. digits_of f (n / 10) ++ ((48 + n % 10) ∷ [])) (le-ltb n 10 (omega (arith, b, power k)))
    (rw (glyph_low (n % 10) (omega arith), digits_fewest f (suc k) (n / 10) (omega arith) u))

ten_more : (k : ℕ) → most_digits < k → 10 ^ most_digits ≤ 10 ^ (k - 1)
ten_more k m = pow-le-pow_right (omega arith) {i = most_digits} {j = k - 1} (omega arith)

-- a 64-bit number has at most 20 digits
digits_few : (n k : ℕ) → n < 2 ^ 64 → IsDigitCount 10 1 n k → k ≤ most_digits
digits_few n k l h = by_cases (dec_lt most_digits k) (λ m. absurd (omega (arith, h.2 (omega arith), ten_more k m))) (λ m. omega arith)

longer : (n : ℕ) (u : List ℕ) → 10 ≤ n → IsDigitCount 10 1 (n / 10) (length u) → IsDigitCount 10 1 n (suc (length u))
longer n [] q h = absurd (omega (arith, h.0))
longer n (x ∷ []) q h = (omega arith, omega (arith, h.1), λ m. omega arith)
longer n (x ∷ y ∷ u) q h =
    let e : suc (suc (length u)) - 1 ≡ suc (length u) = omega arith in
    let z : suc (suc (suc (length u))) - 1 ≡ suc (suc (length u)) = omega arith in
    let b : 10 ^ suc (length u) ≤ n / 10 = rw e at (h.2 (omega arith)) in
    (omega arith, omega (arith, h.1), λ m. rw z (omega (arith, b)))

-- a number's digits are as many as `io` counts
digits_count : (f n : ℕ) → 1 ≤ f → n < 10 ^ f → IsDigitCount 10 1 n (length (digits_of f n))
unfolding digits_of
digits_count zero n o l = absurd (omega arith)
digits_count (suc f) n o l =
    choose_of (λ (u : List ℕ). IsDigitCount 10 1 n (length u)) (ltb n 10) (λ _. (48 + n) ∷ []) (λ _. digits_of f (n / 10) ++ ((48 + n % 10) ∷ []))
    (λ e. let q = ltb-true n 10 e in (omega arith, omega (arith, q), λ m. absurd (omega arith)))
    (λ e. let q = ltb-false n 10 e in
    let g : 1 ≤ f = by_cases (dec_lt 0 f) (λ m. m) (λ m. let z : f ≡ 0 = omega arith in let b : n < 10 ^ 1 = rw z at l in absurd (omega (arith, b))) in
    let z : length (digits_of f (n / 10) ++ ((48 + n % 10) ∷ [])) ≡ suc (length (digits_of f (n / 10))) = omega (arith, length-append (digits_of f (n / 10)) ((48 + n % 10) ∷ [])) in
    rw z (longer n (digits_of f (n / 10)) q (digits_count f (n / 10) g (omega (arith, l)))))

-- so the decimal text of a 64-bit number is what `io` counts and gives: the fewest digits, and at most 20
pub decimal_fewest : (n : ℕ) → n < 2 ^ 64 → IsDigitCount 10 1 n (length (decimal n)) × ((length (decimal n) ≤ most_digits) × (last_digits 10 (length (decimal n)) n ≡ decimal n))
decimal_fewest n l =
    let c : IsDigitCount 10 1 n (length (decimal n)) = rw (digits_text n l) at (digits_count most_digits n (omega arith) (omega arith)) in
    let m = digits_few n (length (decimal n)) l c in
    (c, (m, digits_fewest most_digits (length (decimal n)) n m c ∙ digits_text n l))
