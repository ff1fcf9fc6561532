-- The rows of slots 1, 2, .. as the bytes of an area have them are the rows of its tree's nodes in preorder.
use Rattle.std.specs.Prelude.{ℕ, zero, suc, ◌+◌, ◌-◌, ◌*◌, ◌≤◌, ◌<◌, ◌≡◌, refl, List, [], ◌∷◌, ◌++◌, length}
use Rattle.std.proofs.Common.{sym, ap, ◌∙◌, append_assoc, append-nil, arith}
use Rattle.base.specs.Bytes.{byte_at, get16, le_bytes}
use Rattle.base.specs.Blocks.{zeros}
use Rattle.grammar.specs.Forest.{Forest, size, yield}
use Rattle.trees.specs.Area.{slot_size, max_slots, tag_space, tokens_place, header_bytes, slots, Linked, Area}
use Rattle.trees.specs.Slots.{slot_byte}
use Rattle.trees.specs.Spread.{length_slots}
use Rattle.walks.specs.Slots.{symbol_in, production_in, parent_in, tag_in, Fields, fields}
use Rattle.matching.specs.Measure.{few_tokens}
use Rattle.calls.specs.Parse.{up_from}
use Rattle.listing.specs.Text.{row, accepted_word, first_row, node_rows, accepted_text}

-- slot s
abbrev pub slot_row : List ℕ → ℕ → List ℕ
slot_row b s = row (s ∷ symbol_in b s ∷ production_in b s ∷ parent_in b s ∷ tag_in b s ∷ [])

-- n slots from s on
unfoldable pub slot_rows : List ℕ → ℕ → ℕ → List ℕ
slot_rows b s zero = []
slot_rows b s (suc n) = slot_row b s ++ slot_rows b (s + 1) n

-- the text of an area with n nodes
unfoldable pub area_text : List ℕ → ℕ → List ℕ
area_text b n = first_row n (get16 b tokens_place) ++ slot_rows b 1 n

pub rows_more : (b : List ℕ) (s n m : ℕ) → slot_rows b s (n + m) ≡ slot_rows b s n ++ slot_rows b (s + n) m
unfolding slot_rows
rows_more b s zero m = let q : 0 + m ≡ m = omega arith in let p : s + 0 ≡ s = omega arith in rw (q, p)
rows_more b s (suc n) m =
    let q : suc n + m ≡ suc (n + m) = omega arith in
    let p : s + suc n ≡ s + 1 + n = omega arith in
    rw (q, p, rows_more b (s + 1) n m) (sym (append_assoc (slot_row b s) (slot_rows b (s + 1) n) (slot_rows b (s + 1 + n) m)))

rows_next : (b : List ℕ) (i : ℕ) → slot_rows b 1 (i + 1) ≡ slot_rows b 1 i ++ slot_row b (i + 1)
unfolding slot_rows
rows_next b i = let q : 1 + i ≡ i + 1 = omega arith in rows_more b 1 i 1 ∙ rw (q, append-nil (slot_row b (i + 1)))

-- ---- slot for slot

-- the text before the row of slot s
abbrev pub rows_before : List ℕ → ℕ → ℕ → List ℕ
rows_before b n s = first_row n (get16 b tokens_place) ++ slot_rows b 1 (s - 1)

pub before_first : (b w : List ℕ) (n t : ℕ) → t ≡ get16 b tokens_place → w ≡ accepted_word ++ row (n ∷ t ∷ []) → w ≡ rows_before b n 1
unfolding first_row slot_rows
before_first b w n t q e = rw (e, q, append-nil) refl

pub before_next : (b w w' : List ℕ) (n s : ℕ) → 0 < s → w ≡ rows_before b n s → w' ≡ w ++ slot_row b s → w' ≡ rows_before b n (s + 1)
before_next b w w' n s l e e' =
    let q : s + 1 - 1 ≡ s - 1 + 1 = omega arith in
    let p : s - 1 + 1 ≡ s = omega arith in
    let r : slot_rows b 1 (s - 1 + 1) ≡ slot_rows b 1 (s - 1) ++ slot_row b s = rows_next b (s - 1) ∙ ap (λ (k : ℕ). slot_rows b 1 (s - 1) ++ slot_row b k) p in
    rw (e', e, q, r) (append_assoc (first_row n (get16 b tokens_place)) (slot_rows b 1 (s - 1)) (slot_row b s))

pub before_end : (b w : List ℕ) (n s : ℕ) → s ≡ n + 1 → w ≡ rows_before b n s → w ≡ area_text b n
unfolding area_text
before_end b w n s q e = let p : s - 1 ≡ n = omega arith in rw p at e

-- ---- slots in order

-- numbers in order, cut in two
cut : (s n m : ℕ) (u v : List ℕ) → length u ≡ n → u ++ v ≡ up_from s (n + m) → (u ≡ up_from s n) × (v ≡ up_from (s + n) m)
cut s zero m [] v l e = let q : 0 + m ≡ m = omega arith in let p : s + 0 ≡ s = omega arith in (refl, rw p (rw q at e))
cut s zero m (x ∷ u) v l e = absurd (omega arith)
cut s (suc n) m [] v l e = absurd (omega arith)
cut s (suc n) m (x ∷ u) v l e =
    let q : suc n + m ≡ suc (n + m) = omega arith in
    let p : s + 1 + n ≡ s + suc n = omega arith in
    let e' : x ∷ (u ++ v) ≡ s ∷ up_from (s + 1) (n + m) = rw q at e in
    let y : x ≡ s = cc in
    let d : u ++ v ≡ up_from (s + 1) (n + m) = cc in
    let z = cut (s + 1) n m u v (omega arith) d in
    (rw (y, z.0), rw p at z.1)

-- a slot's row has its fields
slot_row_lem : {b : List ℕ} {s x p par first next g : ℕ} → Fields b s x p par first next g → par < 65536 → g < tag_space → slot_row b s ≡ row (s ∷ x ∷ p ∷ par ∷ g ∷ [])
slot_row_lem w l m = rw (w.symbol, w.production, w.parent l, w.tag m)

rows_linked : (b : List ℕ) {parent : ℕ} {f : Forest} (s : ℕ) → Linked b parent f → parent < 65536 → s + size f ≤ 65536 → slots f ≡ up_from s (size f) → slot_rows b s (size f) ≡ node_rows parent f
unfolding slot_rows node_rows
rows_linked b s Linked.nil l m e = refl
rows_linked b s (Linked.leaf {s = x} {r = r} h t j) l m e =
    let y : x ≡ s = cc in
    let d : slots r ≡ up_from (s + 1) (size r) = cc in
    let h' = rw y at (slot_row_lem (fields b x h) l t) in
    rw (y, h', rows_linked b (s + 1) j l (omega arith) d)
rows_linked b {parent = parent} s (Linked.node {s = x} {k = k} {r = r} h i j) l m e =
    let y : x ≡ s = cc in
    let d : slots k ++ slots r ≡ up_from (s + 1) (size k + size r) = cc in
    let z = cut (s + 1) (size k) (size r) (slots k) (slots r) (length_slots k) d in
    let h' = rw y at (slot_row_lem (fields b x h) l (omega arith)) in
    let u : slot_rows b (s + 1) (size k) ≡ node_rows s k = rw y at (rows_linked b (s + 1) i (omega arith) (omega arith) z.0) in
    let v : slot_rows b (s + 1 + size k) (size r) ≡ node_rows parent r = rows_linked b (s + 1 + size k) j l (omega arith) z.1 in
    rw (y, h', rows_more b (s + 1) (size k) (size r), u, v)

-- the tokens in the header
tokens_in : (S : ℕ) (f : Forest) (b : List ℕ) → Area S f b → length (yield f) < 65536 → get16 b tokens_place ≡ length (yield f)
unfolding header_bytes le_bytes zeros
tokens_in S f b h l =
    let y : (i : ℕ) → i < slot_size → byte_at b (slot_size * 0 + i) ≡ byte_at (header_bytes _ _ _) i = λ i m. sym (slot_byte b 0 i m) ∙ ap (λ (u : List ℕ). byte_at u i) h.header in
    omega (arith, y 6 (omega arith), y 7 (omega arith), l)

pub accepted_text_lem : (S : ℕ) (f : Forest) (b : List ℕ) → S ≤ max_slots → Area S f b → size f ≤ S → slots f ≡ up_from 1 (size f) → area_text b (size f) ≡ accepted_text f
unfolding area_text accepted_text
accepted_text_lem S f b l h m e =
    let t : get16 b tokens_place ≡ length (yield f) = tokens_in S f b h (omega (arith, few_tokens f)) in
    rw (t, rows_linked b 1 h.linked (omega arith) (omega arith) e)
