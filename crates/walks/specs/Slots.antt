-- The fields of a slot, read off its bytes: bytes that are a used slot's have these fields, and bytes with the mark and the two zeros are a used slot's.
use Rattle.std.specs.Prelude.{ℕ, ◌+◌, ◌*◌, ◌≤◌, ◌<◌, ◌≡◌, refl, List, length}
use Rattle.std.proofs.Common.{sym, ap, ◌∙◌, arith, below_more}
use Rattle.base.specs.Bytes.{byte_at, get16, le_bytes, get32}
use Rattle.base.specs.Blocks.{zeros}
use Rattle.trees.specs.Area.{slot_size, symbol_place, production_place, parent_place, first_place, next_place, tag_place, tag_space, slot_bytes, slot_at}
use Rattle.trees.specs.Slots.{slot_byte, slot_is}

-- of slot s: its symbol, production, parent, first child, next sibling and tag
abbrev pub symbol_in : List ℕ → ℕ → ℕ
symbol_in b s = byte_at b (slot_size * s + symbol_place)

abbrev pub production_in : List ℕ → ℕ → ℕ
production_in b s = byte_at b (slot_size * s + production_place)

abbrev pub parent_in : List ℕ → ℕ → ℕ
parent_in b s = get16 b (slot_size * s + parent_place)

abbrev pub first_in : List ℕ → ℕ → ℕ
first_in b s = get16 b (slot_size * s + first_place)

abbrev pub next_in : List ℕ → ℕ → ℕ
next_in b s = get16 b (slot_size * s + next_place)

abbrev pub tag_in : List ℕ → ℕ → ℕ
tag_in b s = get32 b (slot_size * s + tag_place)

-- slot s has these fields
pub record Fields (b : List ℕ) (s x p par f n g : ℕ) : Type 0 where
  pub symbol : symbol_in b s ≡ x
  pub production : production_in b s ≡ p
  pub parent : par < 65536 → parent_in b s ≡ par
  pub first : f < 65536 → first_in b s ≡ f
  pub next : n < 65536 → next_in b s ≡ n
  pub tag : g < tag_space → tag_in b s ≡ g
  pub mark : byte_at b (slot_size * s) ≡ 0x4E
  pub mark' : byte_at b (slot_size * s + 1) ≡ 0x44
  pub spare : byte_at b (slot_size * s + 14) ≡ 0
  pub spare' : byte_at b (slot_size * s + 15) ≡ 0

pub fields : (b : List ℕ) (s : ℕ) {x p par f n g : ℕ} → slot_at b s ≡ slot_bytes x p par f n g → Fields b s x p par f n g
unfolding slot_bytes le_bytes zeros
fields b s {x} {p} {par} {f} {n} {g} h =
    let y : (i j : ℕ) → i < slot_size → j ≡ slot_size * s + i → byte_at b j ≡ byte_at (slot_bytes x p par f n g) i =
    λ i j l e. ap (byte_at b) e ∙ sym (slot_byte b s i l) ∙ ap (λ (u : List ℕ). byte_at u i) h
    in
    let y4 = y 4 (slot_size * s + 4) (omega arith) (omega arith) in
    let y5 = y 5 (slot_size * s + 4 + 1) (omega arith) (omega arith) in
    let y6 = y 6 (slot_size * s + 6) (omega arith) (omega arith) in
    let y7 = y 7 (slot_size * s + 6 + 1) (omega arith) (omega arith) in
    let y8 = y 8 (slot_size * s + 8) (omega arith) (omega arith) in
    let y9 = y 9 (slot_size * s + 8 + 1) (omega arith) (omega arith) in
    let z0 = y 10 (slot_size * s + 10) (omega arith) (omega arith) in
    let z1 = y 11 (slot_size * s + 10 + 1) (omega arith) (omega arith) in
    let z2 = y 12 (slot_size * s + 10 + 2) (omega arith) (omega arith) in
    let z3 = y 13 (slot_size * s + 10 + 3) (omega arith) (omega arith) in
    record {
      symbol = y 2 (slot_size * s + 2) (omega arith) (omega arith);
      production = y 3 (slot_size * s + 3) (omega arith) (omega arith);
      parent = λ l. omega (arith, y4, y5, l);
      first = λ l. omega (arith, y6, y7, l);
      next = λ l. omega (arith, y8, y9, l);
      tag = λ l. omega (arith, z0, z1, z2, z3, l);
      mark = y 0 (slot_size * s) (omega arith) (omega arith);
      mark' = y 1 (slot_size * s + 1) (omega arith) (omega arith);
      spare = y 14 (slot_size * s + 14) (omega arith) (omega arith);
      spare' = y 15 (slot_size * s + 15) (omega arith) (omega arith);
    }

-- every byte is one
pub record Known (b : List ℕ) : Type 0 where
  pub small : (i : ℕ) → byte_at b i < 256

-- slot s is a used one, with the fields that are read there
pub record Used (b : List ℕ) (s : ℕ) : Type 0 where
  pub is : slot_at b s ≡ slot_bytes (symbol_in b s) (production_in b s) (parent_in b s) (first_in b s) (next_in b s) (tag_in b s)

pub fields_used : {b : List ℕ} {s x p par f n g : ℕ} → Fields b s x p par f n g → par < 65536 → f < 65536 → n < 65536 → g < tag_space → slot_at b s ≡ slot_bytes x p par f n g → Used b s
fields_used y i j k l h = record { is = rw (y.symbol, y.production, y.parent i, y.first j, y.next k, y.tag l) h }

-- what holds of sixteen numbers holds below sixteen
pub sixteen : (P : ℕ → Type 0) → P 0 → P 1 → P 2 → P 3 → P 4 → P 5 → P 6 → P 7 → P 8 → P 9 → P 10 → P 11 → P 12 → P 13 → P 14 → P 15 → (i : ℕ) → i < slot_size → P i
sixteen P p0 p1 p2 p3 p4 p5 p6 p7 p8 p9 p10 p11 p12 p13 p14 p15 =
    let q3 = below_more P 3 (below_more P 2 (below_more P 1 (below_more P 0 (λ i l. absurd (omega arith)) p0) p1) p2) p3 in
    let q7 = below_more P 7 (below_more P 6 (below_more P 5 (below_more P 4 q3 p4) p5) p6) p7 in
    let q11 = below_more P 11 (below_more P 10 (below_more P 9 (below_more P 8 q7 p8) p9) p10) p11 in
    below_more P 15 (below_more P 14 (below_more P 13 (below_more P 12 q11 p12) p13) p14) p15

pub slot_used : (b : List ℕ) (s : ℕ) → Known b → slot_size * s + slot_size ≤ length b → byte_at b (slot_size * s) ≡ 0x4E → byte_at b (slot_size * s + 1) ≡ 0x44
    → byte_at b (slot_size * s + 14) ≡ 0 → byte_at b (slot_size * s + 15) ≡ 0 → Used b s
unfolding slot_bytes le_bytes zeros
slot_used b s k l m m' z z' =
    let at : ℕ = slot_size * s in
    let c : List ℕ = slot_bytes (symbol_in b s) (production_in b s) (parent_in b s) (first_in b s) (next_in b s) (tag_in b s) in
    let y : (i j : ℕ) → at + i ≡ j → byte_at b (at + i) ≡ byte_at b j = λ i j e. ap (byte_at b) e in
    let t0 = k.small (at + 10) in
    let t1 = k.small (at + 10 + 1) in
    let t2 = k.small (at + 10 + 2) in
    let t3 = k.small (at + 10 + 3) in
    record {
      is = slot_is b c s l refl (sixteen (λ i. byte_at b (at + i) ≡ byte_at c i) (y 0 at (omega arith) ∙ m) m' refl refl
          (omega (arith, k.small (at + 4))) (y 5 (at + 4 + 1) (omega arith) ∙ omega (arith, k.small (at + 4), k.small (at + 4 + 1)))
          (omega (arith, k.small (at + 6))) (y 7 (at + 6 + 1) (omega arith) ∙ omega (arith, k.small (at + 6), k.small (at + 6 + 1)))
          (omega (arith, k.small (at + 8))) (y 9 (at + 8 + 1) (omega arith) ∙ omega (arith, k.small (at + 8), k.small (at + 8 + 1)))
          (omega arith) (y 11 (at + 10 + 1) (omega arith) ∙ omega arith) (y 12 (at + 10 + 2) (omega arith) ∙ omega arith) (y 13 (at + 10 + 3) (omega arith) ∙ omega arith) z z');
    }
