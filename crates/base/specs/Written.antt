-- What a write of some bytes leaves: the others stay, and with them the numbers that stand there. Numbers of eight bytes.
use Rattle.std.specs.Prelude.{ℕ, ◌+◌, ◌-◌, ◌*◌, ◌/◌, ◌%◌, ◌^◌, ◌≤◌, ◌<◌, min, ◌≡◌, refl, ◌⊎◌, List, [], ◌∷◌, length, set}
use Rattle.std.proofs.Common.{sym, ◌∙◌, inl, inr, add-one, length-set, get_or-set_other, arith}
use Rattle.std.proofs.Math.Logic.{by_cases}
use Rattle.std.proofs.Math.Decide.{dec_lt}
use Rattle.std.proofs.lemmas.List.Edits.{sets-eq}
use Rattle.base.specs.Bytes.{byte_at, get16, get32, put16, number, le_bytes, length_le, length_put16, byte_put16, set_beyond, put16_out}
use Rattle.base.specs.Blocks.{copied, copied_long, copied_at, copied_other, copy_none}

-- ---- a write of the bytes a..b

-- the others are as they were
pub record Only (a b : ℕ) (w w' : List ℕ) : Type 0 where
  pub long : length w' ≡ length w
  pub others : (j : ℕ) → (j < a) ⊎ (b ≤ j) → byte_at w' j ≡ byte_at w j

pub only_word : (w : List ℕ) (a v : ℕ) → Only a (a + 2) w (put16 w a v)
only_word w a v =
    record {
      long = length_put16 w a v;
      others = λ j o. byte_put16 w a v j (λ e. out j o (omega arith)) (λ e. out j o (omega arith));
    }
  where
    out : (j : ℕ) → (j < a) ⊎ (a + 2 ≤ j) → (a ≤ j) × (j < a + 2) → ⊥
    out j (inl x) y = omega (arith, y.0)
    out j (inr x) y = omega (arith, y.1)

pub only_byte : (w : List ℕ) (a v : ℕ) → Only a (a + 1) w (set w a v)
only_byte w a v = record { long = length-set w a v; others = λ j o. get_or-set_other w a j v 0 (λ e. out j o e) }
  where
    out : (j : ℕ) → (j < a) ⊎ (a + 1 ≤ j) → j ≡ a → ⊥
    out j (inl x) e = omega arith
    out j (inr x) e = omega arith

pub only_wider : {a b : ℕ} {w w' : List ℕ} (c d : ℕ) → c ≤ a → b ≤ d → Only a b w w' → Only c d w w'
only_wider {a} {b} {w} {w'} c d l m h = record { long = h.long; others = λ j o. go j o }
  where
    go : (j : ℕ) → (j < c) ⊎ (d ≤ j) → byte_at w' j ≡ byte_at w j
    go j (inl x) = h.others j (inl (omega arith))
    go j (inr x) = h.others j (inr (omega arith))

pub only_then : {a b : ℕ} {w w1 w2 : List ℕ} → Only a b w w1 → Only a b w1 w2 → Only a b w w2
only_then h k = record { long = k.long ∙ h.long; others = λ j o. k.others j o ∙ h.others j o }

module _ {a b : ℕ} {w w' : List ℕ} (h : Only a b w w') where
  pub word_kept : (at : ℕ) → (at + 2 ≤ a) ⊎ (b ≤ at) → get16 w' at ≡ get16 w at
  word_kept at (inl x) =
      let y = h.others at (inl (omega arith)) in
      let z = h.others (at + 1) (inl (omega arith)) in
      omega (arith, y, z)
  word_kept at (inr x) =
      let y = h.others at (inr x) in
      let z = h.others (at + 1) (inr (omega arith)) in
      omega (arith, y, z)

-- ---- numbers of eight bytes

-- the eight-byte number at a place; shut, so that only its laws are used
unfoldable pub get64 : List ℕ → ℕ → ℕ
get64 w at = get32 w at + 4294967296 * get32 w (at + 4)

pub get64_same : (w w' : List ℕ) (at : ℕ) → ((i : ℕ) → at ≤ i → i < at + 8 → byte_at w' i ≡ byte_at w i) → get64 w' at ≡ get64 w at
unfolding get64
get64_same w w' at h =
    let a0 = h at (omega arith) (omega arith) in
    let a1 = h (at + 1) (omega arith) (omega arith) in
    let a2 = h (at + 2) (omega arith) (omega arith) in
    let a3 = h (at + 3) (omega arith) (omega arith) in
    let a4 = h (at + 4) (omega arith) (omega arith) in
    let a5 = h (at + 4 + 1) (omega arith) (omega arith) in
    let a6 = h (at + 4 + 2) (omega arith) (omega arith) in
    let a7 = h (at + 4 + 3) (omega arith) (omega arith) in
    omega arith

-- w' is w with v as the eight-byte number at a place
pub record Eight (w : List ℕ) (at v : ℕ) (w' : List ℕ) : Type 0 where
  pub only : Only at (at + 8) w w'
  pub is : get64 w' at ≡ v

-- of eight bytes that are those from a place on
pub get64_number : (w part : List ℕ) (at r : ℕ) → r ≡ number 8 part 0 → ((i : ℕ) → i < 8 → byte_at part i ≡ byte_at w (at + i)) → r ≡ get64 w at
unfolding get64
get64_number w part at r e h =
    let q0 : at + 0 ≡ at = omega arith in
    let q5 : at + 5 ≡ at + 4 + 1 = omega arith in
    let q6 : at + 6 ≡ at + 4 + 2 = omega arith in
    let q7 : at + 7 ≡ at + 4 + 3 = omega arith in
    let b0 = rw q0 at (h 0 (omega arith)) in
    let b5 = rw q5 at (h 5 (omega arith)) in
    let b6 = rw q6 at (h 6 (omega arith)) in
    let b7 = rw q7 at (h 7 (omega arith)) in
    omega (arith, h 1 (omega arith), h 2 (omega arith), h 3 (omega arith), h 4 (omega arith))

number_le : (v : ℕ) → v < 2 ^ 64 → v ≡ number 8 (le_bytes 8 v) 0
unfolding le_bytes
number_le v l = omega arith

pub eight_put : (w w' : List ℕ) (at v : ℕ) → at + 8 ≤ length w → v < 2 ^ 64 → w' ≡ copied w at (le_bytes 8 v) → Eight w at v w'
eight_put w w' at v l m e =
    let n : length (le_bytes 8 v) ≡ 8 = length_le 8 v in
    let r : at + length (le_bytes 8 v) ≤ length w = omega arith in
    rw e
    (record {
      only = record { long = copied_long w (le_bytes 8 v) at r; others = λ j o. copied_other w (le_bytes 8 v) at r j (rw n o) };
      is = sym (get64_number _ _ at v (number_le v m) (λ i b. sym (copied_at w (le_bytes 8 v) at r i (omega arith))));
    })

-- two bytes as they are written, as far as they fit
pub put16_copied : (w : List ℕ) (at v : ℕ) → v < 65536 → copied w at (le_bytes 2 v) ≡ put16 w at v
unfolding le_bytes copied
put16_copied w at v l =
    let k : v / 256 % 256 ≡ v / 256 = omega arith in
    by_cases (dec_lt (at + 1) (length w))
    (λ m. let q : min 2 (length w - at) ≡ 2 = omega arith in
    rw (q, k) (sym (sets-eq (v % 256 ∷ v / 256 ∷ []) w at (omega arith)) ∙ rw add-one refl))
    (λ m. by_cases (dec_lt at (length w))
    (λ n. let q : min 2 (length w - at) ≡ 1 = omega arith in
    rw q (sym (sets-eq (v % 256 ∷ []) w at (omega arith)) ∙ set_beyond (set w at (v % 256)) (at + 1) (v / 256) (simp length-set (omega arith))))
    (λ n. sym (copy_none w at (le_bytes 2 v) (omega arith)) ∙ put16_out w at v (omega arith)))
