-- Symbols as the digits of one number: each with 64 added, so that none is 0, base 128, the first the lowest.
use Rattle.std.specs.Prelude.{ℕ, zero, suc, ◌+◌, ◌-◌, ◌*◌, ◌/◌, ◌%◌, ◌≤◌, ◌<◌, ◌≡◌, refl, List, [], ◌∷◌, length}
use Rattle.std.proofs.Common.{ap, arith}
use Rattle.grammar.specs.Rows.{symbol_space, left_at, length_at, symbol_at, symbols_from}
use Rattle.grammar.specs.RowRules.{body_at}

pub data Digits : List ℕ → ℕ → Type 0 where
  nil : Digits [] 0
  cons : {x r : ℕ} {xs : List ℕ} → x < symbol_space → Digits xs r → Digits (x ∷ xs) (128 * r + 64 + x)

-- no number but 0 is that of no symbols
pub digits_none : {xs : List ℕ} {r : ℕ} → Digits xs r → r ≡ 0 → xs ≡ []
digits_none Digits.nil e = refl
digits_none (Digits.cons l d) e = absurd (omega arith)

-- the first symbol and the others
pub record Split (xs : List ℕ) (r : ℕ) : Type 0 where
  pub rest : List ℕ
  pub is : xs ≡ (r % 64) ∷ rest
  pub digits : Digits rest (r / 128)

split_at : {x r v : ℕ} {xs : List ℕ} → x < symbol_space → Digits xs r → v ≡ 128 * r + 64 + x → Split (x ∷ xs) v
split_at {x} {r} {v} {xs} l d e =
    let a : v % 64 ≡ x = omega (arith, l, e) in
    let c : v / 128 ≡ r = omega (arith, l, e) in
    record { rest = xs; is = rw a; digits = rw c d }

pub digits_split : {xs : List ℕ} {r : ℕ} → Digits xs r → (r ≡ 0 → ⊥) → Split xs r
digits_split Digits.nil n = absurd (n refl)
digits_split (Digits.cons l d) n = split_at l d refl

pub digits_some : {xs : List ℕ} {r : ℕ} → Digits xs r → (xs ≡ [] → ⊥) → Split xs r
digits_some Digits.nil n = absurd (n refl)
digits_some (Digits.cons l d) n = split_at l d refl

pub digits_head : {x r : ℕ} {xs : List ℕ} → Digits (x ∷ xs) r → (r % 128 ≡ 64 + x) × Digits xs (r / 128)
digits_head {r = r} (Digits.cons {x = x} {r = v} l d) =
    let c : (128 * v + 64 + x) / 128 ≡ v = omega (arith, l) in
    (omega (arith, l), rw c d)

-- ---- the number of a row's symbols, as the code finds it from the last on

-- one more than the highest number of so many symbols
abbrev room : ℕ → ℕ
room zero = 1
room (suc k) = 128 * room k

digits_low : {xs : List ℕ} {r : ℕ} → Digits xs r → r < room (length xs)
digits_low Digits.nil = omega arith
digits_low (Digits.cons l d) = omega (arith, l, digits_low d)

room_few : (k : ℕ) → k ≤ 8 → room k ≤ 72057594037927936
room_few zero l = omega arith
room_few (suc zero) l = omega arith
room_few (suc (suc zero)) l = omega arith
room_few (suc (suc (suc zero))) l = omega arith
room_few (suc (suc (suc (suc zero)))) l = omega arith
room_few (suc (suc (suc (suc (suc zero))))) l = omega arith
room_few (suc (suc (suc (suc (suc (suc zero)))))) l = omega arith
room_few (suc (suc (suc (suc (suc (suc (suc zero))))))) l = omega arith
room_few (suc (suc (suc (suc (suc (suc (suc (suc zero)))))))) l = omega arith
room_few (suc (suc (suc (suc (suc (suc (suc (suc (suc k))))))))) l = absurd (omega arith)

length_symbols : (rows : List ℕ) (p k j : ℕ) → length (symbols_from rows p k j) ≡ k
length_symbols rows p zero j = refl
length_symbols rows p (suc k) j = ap suc (length_symbols rows p k (j + 1))

-- the last symbols of row q, from symbol j on, are the digits of v
pub record Tail (rows : List ℕ) (q len j v : ℕ) : Type 0 where
  pub digits : Digits (symbols_from rows q (len - j) j) v

pub tail_none : (rows : List ℕ) (q len : ℕ) → Tail rows q len len 0
tail_none rows q len = let e : len - len ≡ 0 = omega arith in record { digits = rw e Digits.nil }

pub tail_low : (rows : List ℕ) (q len j v : ℕ) → len ≤ 8 → Tail rows q len j v → v < 72057594037927936
tail_low rows q len j v l h =
    omega (arith, digits_low h.digits, ap room (length_symbols rows q (len - j) j), room_few (len - j) (omega arith))

pub tail_more : (rows : List ℕ) (q len j v x : ℕ) → 0 < j → j ≤ len → x ≡ symbol_at rows q (j - 1) → x < symbol_space → Tail rows q len j v → Tail rows q len (j - 1) (128 * v + 64 + x)
tail_more rows q len j v x l m e o h =
    let a : len - (j - 1) ≡ suc (len - j) = omega arith in
    let c : j - 1 + 1 ≡ j = omega arith in
    record { digits = rw (a, c, ← e) (Digits.cons o h.digits) }

pub tail_all : (rows : List ℕ) (q len j v y : ℕ) → len ≡ length_at rows q → j ≤ 0 → Tail rows q len j v → y ≡ left_at rows q → y < symbol_space → Digits (left_at rows q ∷ body_at rows q) (128 * v + 64 + y)
tail_all rows q len j v y e z h i o =
    let a : j ≡ 0 = omega arith in
    let c : len - 0 ≡ len = omega arith in
    let d : Tail rows q len 0 v = rw a at h in
    rw (← i, ← e, ← c) (Digits.cons o d.digits)
