-- Numbers in a list of bytes, little-endian. A read beyond the end gives 0 and a write there changes nothing, so neither asks for anything.
use Rattle.std.specs.Prelude.{ℕ, zero, suc, ◌+◌, ◌*◌, ◌-◌, ◌/◌, ◌%◌, ◌^◌, ◌<◌, ◌≤◌, ◌≡◌, refl, List, [], ◌∷◌, length, get_or, set, take}
use Rattle.std.proofs.Common.{sym, ap, ◌∙◌, length-set, get_or-set_same, get_or-set_other, pow-suc, arith}
use Rattle.std.proofs.Math.ListN.{get_or-eq_default}
use Rattle.std.specs.Int as int
use Rattle.std.specs.Int.{bytes_low_first}
use Rattle.std.proofs.Math.Nat.{pow-le-pow_right, div-div-eq-div-mul}
use Rattle.std.proofs.Math.Seq.{set_out}

-- the byte at a place
abbrev pub byte_at : List ℕ → ℕ → ℕ
byte_at xs at = get_or xs at 0

-- the two-byte number at a place
abbrev pub get16 : List ℕ → ℕ → ℕ
get16 xs at = get_or xs at 0 + 256 * get_or xs (at + 1) 0

-- the four-byte number at a place
abbrev pub get32 : List ℕ → ℕ → ℕ
get32 xs at = get_or xs at 0 + 256 * (get_or xs (at + 1) 0 + 256 * (get_or xs (at + 2) 0 + 256 * get_or xs (at + 3) 0))

-- the number of the n bytes from a place on
abbrev pub number : ℕ → List ℕ → ℕ → ℕ
number zero xs at = 0
number (suc n) xs at = byte_at xs at + 256 * number n xs (at + 1)

-- every element is a byte
abbrev pub Bytes : List ℕ → Type 0
Bytes xs = (i : ℕ) → get_or xs i 0 < 256

-- v as the two-byte number at a place
abbrev pub put16 : List ℕ → ℕ → ℕ → List ℕ
put16 xs at v = set (set xs at (v % 256)) (at + 1) (v / 256)

-- "All numbers are little-endian"
unfoldable pub le_bytes : ℕ → ℕ → List ℕ
le_bytes zero v = []
le_bytes (suc k) v = v % 256 ∷ le_bytes k (v / 256)

pub length_le : (k v : ℕ) → length (le_bytes k v) ≡ k
unfolding le_bytes
length_le zero v = refl
length_le (suc k) v = ap suc (length_le k (v / 256))

byte_low : (i v : ℕ) → int.byte_at i v ≡ v / 256 ^ i % 256
byte_low zero v = let q : v / 256 ^ 0 ≡ v = omega arith in rw q
byte_low (suc i) v = refl

low_bytes : (i k n v : ℕ) → n ≤ k → take n (bytes_low_first i k v) ≡ le_bytes n (v / 256 ^ i)
unfolding le_bytes
low_bytes i k zero v l = refl
low_bytes i zero (suc n) v l = absurd (omega arith)
low_bytes i (suc k) (suc n) v l =
    let p : 256 ^ suc i ≡ 256 ^ i * 256 = omega (arith, pow-suc 256 i) in
    let q : v / 256 ^ suc i ≡ v / 256 ^ i / 256 = rw p (sym (div-div-eq-div-mul v (256 ^ i) 256)) in
    let b = byte_low i v in
    let h = low_bytes (suc i) k n v (omega arith) in
    cc

-- as `to_le_bytes` has them
pub le_low : (k n v : ℕ) → n ≤ k → take n (bytes_low_first 0 k v) ≡ le_bytes n v
le_low k n v l = let q : v / 256 ^ 0 ≡ v = omega arith in rw q at (low_bytes 0 k n v l)

-- beyond the end

pub byte_out : (xs : List ℕ) (at : ℕ) → length xs ≤ at → 0 ≡ byte_at xs at
byte_out xs at l = sym (get_or-eq_default xs 0 l)

pub set_beyond : (xs : List ℕ) (at v : ℕ) → length xs ≤ at → xs ≡ set xs at v
set_beyond xs at v l = sym (set_out xs at v l)

pub get16_out : (xs : List ℕ) (at : ℕ) → length xs ≤ at → 0 ≡ get16 xs at
get16_out xs at l =
    let a = byte_out xs at l in
    let b = byte_out xs (at + 1) (omega arith) in
    omega arith

pub put16_out : (xs : List ℕ) (at v : ℕ) → length xs ≤ at → xs ≡ put16 xs at v
put16_out xs at v l =
    set_beyond xs at (v % 256) l ∙ set_beyond (set xs at (v % 256)) (at + 1) (v / 256) (simp length-set (omega arith))

-- inside

pub length_put16 : (xs : List ℕ) (at v : ℕ) → length (put16 xs at v) ≡ length xs
length_put16 xs at v = simp length-set

pub get_put16 : (xs : List ℕ) (at v : ℕ) → at + 1 < length xs → get16 (put16 xs at v) at ≡ v
get_put16 xs at v h =
    rw (
      get_or-set_same (set xs at (v % 256)) (at + 1) (v / 256) 0 (simp length-set (omega arith)),
      get_or-set_other (set xs at (v % 256)) (at + 1) at (v / 256) 0 (omega arith),
      get_or-set_same xs at (v % 256) 0 (omega arith),
    ) (omega arith)

-- a byte that a two-byte write does not touch
pub byte_put16 : (xs : List ℕ) (at v j : ℕ) → (j ≡ at → ⊥) → (j ≡ at + 1 → ⊥) → byte_at (put16 xs at v) j ≡ byte_at xs j
byte_put16 xs at v j a b =
    get_or-set_other (set xs at (v % 256)) (at + 1) j (v / 256) 0 b ∙ get_or-set_other xs at j (v % 256) 0 a

-- how large a number of some bytes is

pub number_small : (n : ℕ) (xs : List ℕ) (at : ℕ) → Bytes xs → number n xs at < 256 ^ n
number_small zero xs at h = omega arith
number_small (suc n) xs at h = omega (arith, number_small n xs (at + 1) h, h at, pow-suc 256 n)

-- one of at most seven bytes has room for one more
pub number_room : (n k m : ℕ) (xs : List ℕ) → n ≤ 8 → 0 < k → Bytes xs → m ≡ number (n - k) xs k → 256 * m + 255 < 2 ^ 64
number_room n k m xs l o h e =
    omega (arith, number_small (n - k) xs k h, pow-le-pow_right {n = 256} (omega arith) {i = n - k} {j = 7} (omega arith))
