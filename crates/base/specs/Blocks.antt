-- Runs of bytes: zeros, a copy, and whether all are 0.
use Rattle.std.specs.Prelude.{ℕ, zero, suc, ◌+◌, ◌-◌, ◌<◌, ◌≤◌, ◌⊎◌, min, ◌≡◌, refl, List, [], ◌∷◌, ◌++◌, length, take, drop, get_or, set, replicate, fold, zip, bit_or, bit_xor, eqb}
use Rattle.std.proofs.Common.{sym, ap, ◌∙◌, inl, inr, add-one, length-append, length-drop, drop-drop, take_all, eqb-true, rules, arith}
use Rattle.std.proofs.lemmas.List.{length-replicate, replicate-append-replicate}
use Rattle.std.proofs.Math.Seq.{take-length, take-append_seam, drop-append-add, paste, paste-suc, paste-zero}
use Rattle.std.proofs.lemmas.Bool.{eqb-false}
use Rattle.std.specs.Int.Bits.{or_add_and, xor_add_and, xor_self}
use Rattle.std.proofs.lemmas.Nat.{and_le_l, and_le_r}
use Rattle.std.proofs.lemmas.Grind.{common_steps}
use Rattle.std.proofs.lemmas.List.{places}
use Rattle.std.proofs.lemmas.List.Edits.{paste_all}
use borrow.Rule.Slice.PartMut.{put_mid}
use Rattle.base.specs.Bits.{or_grows}
use Rattle.base.specs.Tells.{Tells}

-- n zeros; shut, so that no long run is ever written out
unfoldable pub zeros : ℕ → List ℕ
zeros n = replicate n 0

pub length_zeros : (n : ℕ) → length (zeros n) ≡ n
unfolding zeros
length_zeros n = length-replicate n 0

pub byte_zeros : (n i : ℕ) → get_or (zeros n) i 0 ≡ 0
unfolding zeros
byte_zeros zero i = refl
byte_zeros (suc n) zero = refl
byte_zeros (suc n) (suc i) = byte_zeros n i

pub zeros_append : (n m : ℕ) → zeros n ++ zeros m ≡ zeros (n + m)
unfolding zeros
zeros_append n m = replicate-append-replicate n m 0

pub drop_zeros : (k n : ℕ) → drop k (zeros n) ≡ zeros (n - k)
unfolding zeros
drop_zeros zero n = let q : n - 0 ≡ n = omega arith in rw q
drop_zeros (suc k) zero = let q : 0 - suc k ≡ 0 = omega arith in rw q
drop_zeros (suc k) (suc n) = let q : suc n - suc k ≡ n - k = omega arith in rw q (drop_zeros k n)

-- as `zero` leaves an array, whose length is known
pub zeros_sized : (w : List ℕ) (m n : ℕ) → w ≡ zeros m → m ≡ n → w ≡ zeros n
zeros_sized w m n e l = e ∙ ap zeros l

-- dst with src written from `at` on, as much of it as fits
unfoldable pub copied : List ℕ → ℕ → List ℕ → List ℕ
copied dst at src = paste dst at src (min (length src) (length dst - at))

-- `&xs[a..e]` is `take (e - a) (drop a xs)` to the checker; to the end, that is `drop a xs`
pub part_tail : (xs : List ℕ) (a : ℕ) → take (length xs - a) (drop a xs) ≡ drop a xs
part_tail xs a = take_all (length xs - a) (drop a xs) (simp length-drop (omega arith))

-- onto zeros behind other bytes
pub copied_zeros : (a src : List ℕ) (k : ℕ) → length src ≤ k → copied (a ++ zeros k) (length a) src ≡ a ++ src ++ zeros (k - length src)
unfolding copied
copied_zeros a src k l =
    let q : min (length src) (length (a ++ zeros k) - length a) ≡ length src =
    omega (arith, length-append a (zeros k), length_zeros k)
    in
    rw (q, take-append_seam a (zeros k), take-length src, drop-append-add a (zeros k) (length src), drop_zeros)

-- the start lies beyond the end
pub copy_none : (dst : List ℕ) (at : ℕ) (src : List ℕ) → length dst ≤ at → dst ≡ copied dst at src
unfolding copied
copy_none dst at src l = let q : min (length src) (length dst - at) ≡ 0 = omega arith in rw q (paste-zero dst at src)

-- a copy byte by byte
pub copy_turn :
    (dst₀ dst src : List ℕ) (at n i : ℕ) → at ≤ length dst₀ → n ≤ length src → n ≤ length dst₀ - at → i < n → dst ≡ paste dst₀ at src i →
    set dst (at + i) (get_or src i 0) ≡ paste dst₀ at src (i + 1)
copy_turn dst₀ dst src at n i g a b l e = rw (e, add-one i) (paste-suc dst₀ at src i 0 (omega arith) (omega arith))

pub copy_end :
    (dst₀ dst src : List ℕ) (at n i : ℕ) → n ≡ min (length src) (length dst₀ - at) → n ≤ i → i ≤ n → dst ≡ paste dst₀ at src i →
    dst ≡ copied dst₀ at src
unfolding copied
copy_end dst₀ dst src at n i m l u e = let q : i ≡ min (length src) (length dst₀ - at) = omega arith in e ∙ rw q

pub ruleset copying = (copy_none, copy_turn, copy_end)

-- a copy that has room

module _ (dst src : List ℕ) (at : ℕ) (l : at + length src ≤ length dst) where
  copied_is : copied dst at src ≡ take at dst ++ (src ++ drop (at + length src) dst)
  unfolding copied
  copied_is = let q : min (length src) (length dst - at) ≡ length src = omega arith in rw q (paste_all dst at src (length src) refl)

  -- onto the beginning
  pub copied_front : at ≡ 0 → (k : ℕ) → k ≡ length src → copied dst at src ≡ src ++ drop k dst
  copied_front z k e = let q : 0 + length src ≡ k = omega arith in rw (copied_is, z, q) refl

  -- all of dst
  pub copied_whole : at ≡ 0 → length dst ≡ length src → copied dst at src ≡ src
  copied_whole z e = rw copied_is (search (rules, common_steps))

  pub copied_long : length (copied dst at src) ≡ length dst
  copied_long = rw copied_is (search (rules, common_steps))

  pub copied_at : (i : ℕ) → i < length src → get_or (copied dst at src) (at + i) 0 ≡ get_or src i 0
  copied_at i m = rw copied_is (search (rules, places))

  pub copied_other : (j : ℕ) → (j < at) ⊎ (at + length src ≤ j) → get_or (copied dst at src) j 0 ≡ get_or dst j 0
  copied_other j (inl m) = rw copied_is (search (rules, places))
  copied_other j (inr m) = rw copied_is (search (rules, places))

  -- as a write to a part leaves it
  pub copied_put : (k : ℕ) (part : List ℕ) → k ≡ length src → part ≡ src → put_mid at k dst part ≡ copied dst at src
  copied_put k part e q = rw (copied_is, e, q, drop-drop)

-- ---- the bits that are lit in any byte

or_lit : (x y : ℕ) → bit_or x y ≡ 0 → (x ≡ 0) × (y ≡ 0)
or_lit x y e = (omega (arith, or_grows x y), omega (arith, or_add_and x y, and_le_l x y))

lit_none : (x : ℕ) (a : List ℕ) → fold bit_or x a ≡ 0 → (x ≡ 0) × (a ≡ zeros (length a))
unfolding zeros
lit_none x [] e = (e, refl)
lit_none x (y ∷ a) e =
    let h = lit_none (bit_or x y) a e in
    let k = or_lit x y h.0 in
    (k.0, let q : y ≡ 0 = k.1 in let p : a ≡ zeros (length a) = h.1 in cc)

none_lit : (n : ℕ) → fold bit_or 0 (zeros n) ≡ 0
unfolding zeros
none_lit zero = refl
none_lit (suc n) = none_lit n

-- they are 0 exactly if all bytes are
pub zeros_told : (a : List ℕ) (r : ℕ) → r ≡ fold bit_or 0 a → Tells (a ≡ zeros (length a)) (eqb r 0)
zeros_told a r q =
    record {
      yes = λ e. (lit_none 0 a (sym q ∙ eqb-true r 0 e)).1;
      no = λ e z. eqb-false r 0 e (q ∙ ap (fold bit_or 0) z ∙ none_lit (length a));
    }

-- ---- the bits in which two runs of bytes differ

-- lit so far, and where the next two bytes differ
abbrev pub differing : ℕ → ℕ × ℕ → ℕ
differing bits p = bit_or bits (bit_xor p.0 p.1)

xor_none : (x y : ℕ) → bit_xor x y ≡ 0 → x ≡ y
xor_none x y e = omega (arith, xor_add_and x y, and_le_l x y, and_le_r x y)

differing_none : (x : ℕ) (a b : List ℕ) → length a ≡ length b → fold differing x (zip a b) ≡ 0 → (x ≡ 0) × (a ≡ b)
differing_none x [] [] l e = (e, refl)
differing_none x [] (z ∷ b) l e = absurd (omega arith)
differing_none x (y ∷ a) [] l e = absurd (omega arith)
differing_none x (y ∷ a) (z ∷ b) l e =
    let h = differing_none (differing x (y, z)) a b (omega arith) e in
    let k = or_lit x (bit_xor y z) h.0 in
    (k.0, let q : y ≡ z = xor_none y z k.1 in let p : a ≡ b = h.1 in cc)

none_differing : (a : List ℕ) → fold differing 0 (zip a a) ≡ 0
none_differing [] = refl
none_differing (x ∷ a) = ap (λ (n : ℕ). fold differing (bit_or 0 n) (zip a a)) (xor_self x) ∙ none_differing a

-- they are 0 exactly if the bytes are the same
pub same_told : (a b : List ℕ) (r : ℕ) → length a ≡ length b → r ≡ fold differing 0 (zip a b) → Tells (a ≡ b) (eqb r 0)
same_told a b r l q =
    record {
      yes = λ e. (differing_none 0 a b l (sym q ∙ eqb-true r 0 e)).1;
      no = λ e z. eqb-false r 0 e (q ∙ ap (λ (c : List ℕ). fold differing 0 (zip a c)) (sym z) ∙ none_differing a);
    }
