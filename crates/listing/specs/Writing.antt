-- A text written row by row: how much room it takes, and what a turn of the loop adds to a row.
use Rattle.std.specs.Prelude.{ℕ, zero, suc, ◌+◌, ◌-◌, ◌*◌, ◌/◌, ◌%◌, ◌^◌, ◌≤◌, ◌<◌, ◌≡◌, refl, ◌⊎◌, List, [], ◌∷◌, ◌++◌, length, get_or, drop, ltb, decimal}
use Rattle.std.proofs.Common.{sym, ap, ◌∙◌, inl, inr, append_assoc, append-nil, length-append, length-drop, lt-ltb, le-ltb, arith}
use Rattle.std.proofs.lemmas.Fmt.{decimal_from_appends, length-decimal-le}
use Rattle.std.proofs.lemmas.List.{drop_more}
use Rattle.base.specs.Choose.{choose_of, choose_yes, choose_no}
use Rattle.trees.specs.Area.{max_slots}
use Rattle.listing.specs.Text.{digits_of, most_digits, field, row, space, newline}

-- a field is a number of at most 20 digits and a mark; a line has at most five fields; a text is at most 1,001 lines
abbrev pub field_room : ℕ
field_room = most_digits + 1

abbrev pub line_room : ℕ
line_room = 5 * field_room

abbrev pub text_room : ℕ
text_room = line_room * (max_slots + 1)

-- ---- a number's digits

-- at most f digits
pub length_digits : (f n : ℕ) → length (digits_of f n) ≤ f
unfolding digits_of
length_digits zero n = omega arith
length_digits (suc f) n =
    choose_of (λ (u : List ℕ). length u ≤ suc f) (ltb n 10) (λ _. (48 + n) ∷ [])
    (λ _. digits_of f (n / 10) ++ ((48 + n % 10) ∷ [])) (λ _. omega arith)
    (λ _. omega (arith, length_digits f (n / 10), length-append (digits_of f (n / 10)) ((48 + n % 10) ∷ [])))

pub digits_text : (n : ℕ) → n < 2 ^ 64 → digits_of most_digits n ≡ decimal n
unfolding digits_of
digits_text n l = decimal_from_appends digits_of (record {
  one = λ k m h. sym (choose_yes (ltb m 10) _ _ _ (lt-ltb m 10 h) refl);
  more = λ k m h. sym (choose_no (ltb m 10) _ _ _ (le-ltb m 10 h) refl);
}) most_digits n l (length-decimal-le most_digits n (omega arith) (omega arith) l)

-- ---- a row, field by field

-- what is still to be written of it
abbrev pub rest_row : List ℕ → List ℕ
rest_row [] = []
rest_row (n ∷ ns) = row (n ∷ ns)

-- the mark behind a field, where n fields follow it
abbrev pub Mark : ℕ → ℕ → Type 0
Mark n mark = ((0 < n) × (mark ≡ space)) ⊎ ((n ≡ 0) × (mark ≡ newline))

next_field : (n mark : ℕ) (ns : List ℕ) → Mark (length ns) mark → rest_row (n ∷ ns) ≡ field n mark ++ rest_row ns
next_field n mark [] (inl h) = absurd (omega arith)
next_field n mark [] (inr h) = rw h.1 (sym (append-nil (field n newline)))
next_field n mark (m ∷ ns) (inl h) = rw h.1 refl
next_field n mark (m ∷ ns) (inr h) = absurd (omega arith)

pub row_turn : (ns w₀ w w₁ w₂ ds : List ℕ) (i mark : ℕ) → i < length ns → get_or ns i 0 < 2 ^ 64 → ds ≡ decimal (get_or ns i 0) → w₁ ≡ w ++ ds → w₂ ≡ w₁ ++ (mark ∷ [])
    → Mark (length ns - (i + 1)) mark → w ++ rest_row (drop i ns) ≡ w₀ ++ row ns → w₂ ++ rest_row (drop (i + 1) ns) ≡ w₀ ++ row ns
unfolding field
row_turn ns w₀ w w₁ w₂ ds i mark l b e e₁ e₂ m h =
    let ns' = drop (i + 1) ns in
    let f = next_field (get_or ns i 0) mark ns' (rw length-drop m) in
    let g : rest_row (drop i ns) ≡ (ds ++ (mark ∷ [])) ++ rest_row ns' = ap rest_row (drop_more ns i 0 l) ∙ f ∙ rw (digits_text (get_or ns i 0) b, e) refl in
    rw (e₂, e₁, append_assoc w ds (mark ∷ []), append_assoc w (ds ++ (mark ∷ [])) (rest_row ns'), ← g) h
