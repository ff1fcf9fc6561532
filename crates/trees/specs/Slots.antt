-- The slots of an area, one written and the others left: sixteen bytes at once, or one of its links.
use Rattle.std.specs.Prelude.{ℕ, ◌+◌, ◌*◌, ◌/◌, ◌%◌, ◌≤◌, ◌<◌, ◌≡◌, refl, ◌⊎◌, length, set, drop}
use Rattle.std.proofs.Math.Path.{sym, ap}
use Rattle.std.proofs.Common.{◌∙◌, inl, inr, length-take, length-drop, ext_get_or, get_or-take, get_or-drop}
use Rattle.std.proofs.Math.Logic.{by_cases}
use mathlib.Core.List.{List}
use Rattle.std.proofs.Math.Seq.{take-set-lt}
use Rattle.std.proofs.lemmas.List.{drop-set-add}
use Rattle.std.proofs.Math.Decide.{dec_lt}
use native.Mathlib.Omega.{arith}
use Rattle.base.specs.Bytes.{byte_at, get16, put16, le_bytes, length_put16, byte_put16}
use Rattle.base.specs.Blocks.{zeros, length_zeros, byte_zeros}
use Rattle.base.specs.Filled.{Filled}
use Rattle.trees.specs.Area.{slot_size, slot_at, slot_bytes, header_bytes, parent_place, next_place}

-- b' is b with c in slot s
pub record Slotted (b : List ℕ) (s : ℕ) (c b' : List ℕ) : Type 0 where
  pub long : length b' ≡ length b
  pub here : slot_at b' s ≡ c
  pub others : (x : ℕ) → (x ≡ s → ⊥) → slot_at b' x ≡ slot_at b x

pub slot_byte : (b : List ℕ) (s i : ℕ) → i < slot_size → byte_at (slot_at b s) i ≡ byte_at b (slot_size * s + i)
slot_byte b s i l = get_or-take slot_size (drop (slot_size * s) b) i 0 l ∙ get_or-drop (slot_size * s) b i 0

-- a slot of the same bytes
pub slot_same : (b b' : List ℕ) (x : ℕ) → length b' ≡ length b → ((j : ℕ) → slot_size * x ≤ j → j < slot_size * x + slot_size → byte_at b' j ≡ byte_at b j)
    → slot_at b' x ≡ slot_at b x
slot_same b b' x n h =
    ext_get_or 0 (slot_at b' x) (slot_at b x) (simp (length-take, length-drop, n))
    (λ i l. let m : i < slot_size = omega (arith, length-take slot_size (drop (slot_size * x) b')) in
    slot_byte b' x i m ∙ h (slot_size * x + i) (omega arith) (omega arith) ∙ sym (slot_byte b x i m))

pub slot_is : (b c : List ℕ) (s : ℕ) → slot_size * s + slot_size ≤ length b → length c ≡ slot_size → ((i : ℕ) → i < slot_size → byte_at b (slot_size * s + i) ≡ byte_at c i)
    → slot_at b s ≡ c
slot_is b c s f n h =
    let q : length (slot_at b s) ≡ slot_size = omega (arith, length-take slot_size (drop (slot_size * s) b), length-drop (slot_size * s) b) in
    ext_get_or 0 (slot_at b s) c (q ∙ sym n) (λ i l. slot_byte b s i (omega arith) ∙ h i (omega arith))

-- two places that are not the same lie apart
pub apart : (x s : ℕ) → (x ≡ s → ⊥) → (x < s) ⊎ (s < x)
apart x s n = by_cases (dec_lt x s) (λ l. inl l) (λ l. inr (more l))
  where
    more : (x < s → ⊥) → s < x
    more l = by_cases (dec_lt s x) (λ m. m) (λ m. absurd (n (omega arith)))

pub slotted_filled : (b b' src c : List ℕ) (s : ℕ) → slot_size * s + slot_size ≤ length b → src ≡ c → length c ≡ slot_size → Filled (byte_at src) (slot_size * s) slot_size b b' → Slotted b s c b'
slotted_filled b b' src c s f e n u =
    let h : Filled (byte_at c) (slot_size * s) slot_size b b' = rw e at u in
    record {
      long = h.long;
      here = slot_is b' c s (omega (arith, h.long)) n h.inside;
      others = λ x d. slot_same b b' x h.long (go x (apart x s d));
    }
  where
    go : (x : ℕ) → (x < s) ⊎ (s < x) → (j : ℕ) → slot_size * x ≤ j → j < slot_size * x + slot_size → byte_at b' j ≡ byte_at b j
    go x (inl l) j y z = u.before j (omega arith)
    go x (inr l) j y z = u.behind j (omega arith)

pub slotted_bytes : (b b' src c : List ℕ) (s : ℕ) → slot_size * s + slot_size ≤ length b → src ≡ c → length c ≡ slot_size → Filled (byte_at src) (slot_size * s) (length src) b b' → Slotted b s c b'
slotted_bytes b b' src c s f e n u = slotted_filled b b' src c s f e n (rw (ap length e ∙ n) at u)

-- ---- one link written

slot_set : (b : List ℕ) (s j v : ℕ) → j < slot_size → slot_at (set b (slot_size * s + j) v) s ≡ set (slot_at b s) j v
slot_set b s j v l = rw (drop-set-add (slot_size * s) b j v) (take-set-lt slot_size (drop (slot_size * s) b) j v l)

-- two bytes of a slot
slotted_put16 : (b : List ℕ) (s j v : ℕ) → j + 1 < slot_size → Slotted b s (set (set (slot_at b s) j (v % 256)) (j + 1) (v / 256)) (put16 b (slot_size * s + j) v)
slotted_put16 b s j v l =
    let q : slot_size * s + j + 1 ≡ slot_size * s + (j + 1) = omega arith in
    record {
      long = length_put16 b (slot_size * s + j) v;
      here = rw (q, slot_set (set b (slot_size * s + j) (v % 256)) s (j + 1) (v / 256) l, slot_set b s j (v % 256) (omega arith));
      others = λ x d. slot_same b (put16 b (slot_size * s + j) v) x (length_put16 b (slot_size * s + j) v) (go x (apart x s d));
    }
  where
    go : (x : ℕ) → (x < s) ⊎ (s < x) → (i : ℕ) → slot_size * x ≤ i → i < slot_size * x + slot_size → byte_at (put16 b (slot_size * s + j) v) i ≡ byte_at b i
    go x (inl m) i u w = byte_put16 b (slot_size * s + j) v i (λ e. omega arith) (λ e. omega arith)
    go x (inr m) i u w = byte_put16 b (slot_size * s + j) v i (λ e. omega arith) (λ e. omega arith)

module _ (b : List ℕ) (s a p o f n g : ℕ) (e : slot_at b s ≡ slot_bytes a p o f n g) where
  pub parent_put : (v : ℕ) → v < 65536 → Slotted b s (slot_bytes a p v f n g) (put16 b (slot_size * s + parent_place) v)
  unfolding slot_bytes le_bytes
  parent_put v l =
      let h = slotted_put16 b s parent_place v (omega arith) in
      let q : v / 256 % 256 ≡ v / 256 = omega arith in
      record { long = h.long; here = h.here ∙ rw (e, q); others = h.others }

  pub next_put : (v : ℕ) → v < 65536 → Slotted b s (slot_bytes a p o f v g) (put16 b (slot_size * s + next_place) v)
  unfolding slot_bytes le_bytes
  next_put v l =
      let h = slotted_put16 b s next_place v (omega arith) in
      let q : v / 256 % 256 ≡ v / 256 = omega arith in
      record { long = h.long; here = h.here ∙ rw (e, q); others = h.others }

  pub next_get : n < 65536 → get16 b (slot_size * s + next_place) ≡ n
  unfolding slot_bytes le_bytes
  next_get l =
      let x : byte_at b (slot_size * s + next_place) ≡ n % 256 = sym (slot_byte b s next_place (omega arith)) ∙ ap (λ (c : List ℕ). byte_at c next_place) e in
      let y : byte_at b (slot_size * s + next_place + 1) ≡ n / 256 % 256 =
      ap (byte_at b) (omega arith) ∙ sym (slot_byte b s (next_place + 1) (omega arith)) ∙ ap (λ (c : List ℕ). byte_at c (next_place + 1)) e in
      omega arith

-- ---- zeros

pub slot_zeros : (m s : ℕ) → slot_size * s + slot_size ≤ m → slot_at (zeros m) s ≡ zeros slot_size
slot_zeros m s l =
    slot_is (zeros m) (zeros slot_size) s (rw (length_zeros m) l) (length_zeros slot_size) (λ i h. byte_zeros m (slot_size * s + i) ∙ sym (byte_zeros slot_size i))

pub length_slot_bytes : (a p o f n g : ℕ) → length (slot_bytes a p o f n g) ≡ slot_size
unfolding slot_bytes le_bytes zeros
length_slot_bytes a p o f n g = refl

pub length_header : (r u t : ℕ) → length (header_bytes r u t) ≡ slot_size
unfolding header_bytes le_bytes zeros
length_header r u t = refl
