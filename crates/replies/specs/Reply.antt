-- Meaning: the reply. Document 01, "Replies": "Each reply has number, place (64 bits), expected (32 bits), and the counts total, kept, made, given up."
use Rattle.std.specs.Prelude.{ℕ, zero, suc, ◌+◌, ◌*◌, ◌/◌, ◌%◌, ◌^◌, ◌≤◌, ◌<◌, ◌≡◌, refl, Result, Ok, Err, List, [], ◌∷◌, ◌++◌, length, get_or, take, drop}
use Rattle.std.specs.Int.{byte_at, bytes_low_first, to_le_bytes, w64}
use Rattle.std.proofs.Common.{ap, sym, ◌∙◌, append-nil, append_assoc, length-append, length-drop, drop-cons, take_all, add-one, arith}
use Rattle.std.proofs.Math.Nat.{div-one, div-div-eq-div-mul, pow-suc}
use Rattle.std.proofs.Math.Seq.{take-append-add, take-append_seam}
use Rattle.std.proofs.lemmas.List.{drop_all, length-take-le}
use Rattle.base.specs.Bytes.{le_bytes, length_le}
use Rattle.replies.specs.declared.Counts.{Counts}
use Rattle.replies.specs.declared.Reason.{Reason}
use Rattle.replies.specs.declared.Reply.{Reply}
use Rattle.replies.specs.declared.Reason.TheVariants.{BadGrammar, UselessSymbol, NotLl1, WrongTables, WrongTree, ShortWork, BadToken, BeyondTokens, Syntax, NoRoom, ShortOutput}
use Rattle.replies.specs.declared.Reply.TheVariants.{Accepted, Refused}

-- "Fields not named [..] are 0"
abbrev pub no_counts : Counts
no_counts = record { total = 0; kept = 0; made = 0; given_up = 0 }

-- "A reply is either accepted with its counts, or refused with one reason"
abbrev pub reply_of : Result Counts Reason → Reply
reply_of (Ok c) = Accepted c
reply_of (Err x) = Refused x

-- the table's first column
abbrev pub number_of : Reply → ℕ
number_of (Accepted c) = 0
number_of (Refused (BadGrammar k)) = 1
number_of (Refused (UselessSymbol k)) = 2
number_of (Refused (NotLl1 k)) = 3
number_of (Refused WrongTables) = 4
number_of (Refused WrongTree) = 5
number_of (Refused (ShortWork k)) = 6
number_of (Refused (BadToken k)) = 7
number_of (Refused (BeyondTokens k)) = 8
number_of (Refused (Syntax k e)) = 9
number_of (Refused NoRoom) = 10
number_of (Refused (ShortOutput k)) = 11

-- its last column
abbrev pub place_of : Reply → ℕ
place_of (Accepted c) = 0
place_of (Refused (BadGrammar k)) = k
place_of (Refused (UselessSymbol k)) = k
place_of (Refused (NotLl1 k)) = k
place_of (Refused WrongTables) = 0
place_of (Refused WrongTree) = 0
place_of (Refused (ShortWork k)) = k
place_of (Refused (BadToken k)) = k
place_of (Refused (BeyondTokens k)) = k
place_of (Refused (Syntax k e)) = k
place_of (Refused NoRoom) = 0
place_of (Refused (ShortOutput k)) = k

-- "Expected set in reply 9"
abbrev pub expected_of : Reply → ℕ
expected_of (Accepted c) = 0
expected_of (Refused (BadGrammar k)) = 0
expected_of (Refused (UselessSymbol k)) = 0
expected_of (Refused (NotLl1 k)) = 0
expected_of (Refused WrongTables) = 0
expected_of (Refused WrongTree) = 0
expected_of (Refused (ShortWork k)) = 0
expected_of (Refused (BadToken k)) = 0
expected_of (Refused (BeyondTokens k)) = 0
expected_of (Refused (Syntax k e)) = e
expected_of (Refused NoRoom) = 0
expected_of (Refused (ShortOutput k)) = 0

abbrev pub counts_of : Reply → Counts
counts_of (Accepted c) = c
counts_of (Refused x) = no_counts

-- "number and counts 4 bytes each", place "64 bits", expected "32 bits"
abbrev pub word_size : ℕ
word_size = 4

abbrev pub place_size : ℕ
place_size = 8

abbrev pub reply_size : ℕ
reply_size = place_size + 6 * word_size

-- "fields in the order below"
unfoldable pub reply_bytes : Reply → List ℕ
reply_bytes r =
    le_bytes word_size (number_of r) ++ le_bytes place_size (place_of r) ++ le_bytes word_size (expected_of r)
    ++ le_bytes word_size (counts_of r).total ++ le_bytes word_size (counts_of r).kept ++ le_bytes word_size (counts_of r).made ++ le_bytes word_size (counts_of r).given_up

-- ---- a number's bytes

byte_low : (i v : ℕ) → byte_at i v ≡ v / 256 ^ i % 256
byte_low zero v = let q : v / 256 ^ 0 ≡ v = div-one v in rw q
byte_low (suc i) v = refl

low_first : (i k m v : ℕ) → k ≤ m → take k (bytes_low_first i m v) ≡ le_bytes k (v / 256 ^ i)
unfolding le_bytes
low_first i zero m v l = refl
low_first i (suc k) zero v l = absurd (omega arith)
low_first i (suc k) (suc m) v l =
    let q : v / 256 ^ i / 256 ≡ v / 256 ^ suc i = div-div-eq-div-mul v (256 ^ i) 256 ∙ ap (λ (u : ℕ). v / u) (sym (pow-suc 256 i)) in
    rw (byte_low i v, q) (ap (λ (u : List ℕ). v / 256 ^ i % 256 ∷ u) (low_first (suc i) k m v (omega arith)))

-- `&v.to_le_bytes()[..k]`
le_taken : (k v : ℕ) → k ≤ place_size → take k (to_le_bytes w64 v) ≡ le_bytes k v
le_taken k v l = let q : v / 256 ^ 0 ≡ v = div-one v in rw q at (low_first 0 k 8 v l)

-- ---- the fields, one behind the other

-- the bytes of fields, each with its size and its value
pub fields_bytes : List (ℕ × ℕ) → List ℕ
fields_bytes [] = []
fields_bytes (f ∷ fs) = le_bytes f.0 f.1 ++ fields_bytes fs

-- they have n bytes together, and none has more than a place
pub data Sized : ℕ → List (ℕ × ℕ) → Type 0 where
  none : Sized 0 []
  more : {n : ℕ} {f : ℕ × ℕ} {fs : List (ℕ × ℕ)} → f.0 ≤ place_size → Sized n fs → Sized (f.0 + n) (f ∷ fs)

-- of the fields i are written, in `at` bytes; in the end the list is `all`
pub record Laid (all : List ℕ) (fs : List (ℕ × ℕ)) (i at : ℕ) (b : List ℕ) : Type 0 where
  pub long : length b ≡ reply_size
  pub left : ℕ
  pub sized : Sized left (drop i fs)
  pub room : at + left ≡ reply_size
  pub bytes : take at b ++ fields_bytes (drop i fs) ≡ all

pub laid_start : (r : Reply) (c : Counts) (n p x y t k m g : ℕ) → c ≡ counts_of r → n ≡ number_of r → p ≡ place_of r → x ≡ expected_of r
    → y ≡ x → t ≡ c.total → k ≡ c.kept → m ≡ c.made → g ≡ c.given_up → (b : List ℕ) → length b ≡ reply_size
    → Laid (reply_bytes r) ((word_size, n) ∷ (place_size, p) ∷ (word_size, y) ∷ (word_size, t) ∷ (word_size, k) ∷ (word_size, m) ∷ (word_size, g) ∷ []) 0 0 b
unfolding reply_bytes fields_bytes
laid_start r c n p x y t k m g ec en ep ex ey et ek em eg b l =
    record {
      long = l;
      left = reply_size;
      sized = Sized.more (omega arith) (Sized.more (omega arith) (Sized.more (omega arith) (Sized.more (omega arith) (Sized.more (omega arith) (Sized.more (omega arith) (Sized.more (omega arith) Sized.none))))));
      room = refl;
      bytes = rw (ey, et, ek, em, eg, ec, en, ep, ex) (simp (append_assoc, append-nil));
    }

none_left : {n : ℕ} {gs : List (ℕ × ℕ)} → Sized n gs → gs ≡ [] → n ≡ 0
none_left Sized.none e = refl
none_left (Sized.more s z) e = absurd (cc)

module _ {all : List ℕ} {fs : List (ℕ × ℕ)} {i at : ℕ} {b : List ℕ} (h : Laid all fs i at b) where
  abbrev field : ℕ × ℕ
  field = get_or fs i (0, 0)

  module _ (l : i < length fs) where
    opened : drop i fs ≡ field ∷ drop (i + 1) fs
    opened = rw add-one (drop-cons fs i (0, 0) l)

    first : {n : ℕ} {gs : List (ℕ × ℕ)} → Sized n gs → gs ≡ field ∷ drop (i + 1) fs → (m : ℕ) × (n ≡ field.0 + m) × (field.0 ≤ place_size) × Sized m (drop (i + 1) fs)
    first Sized.none e = absurd (cc)
    first (Sized.more {n = m} {f = f} {fs = gs} s z) e =
        let q : f ≡ field = cc in
        let t : gs ≡ drop (i + 1) fs = cc in
        (m, ap (λ (u : ℕ × ℕ). u.0 + m) q, rw q at s, rw t at z)

    pub laid_more : (v s : List ℕ) (m n : ℕ) → v ≡ to_le_bytes w64 field.1 → s ≡ take m v → m ≡ field.0 → n ≡ field.0
        → Laid all fs (i + 1) (at + field.0) (take at b ++ (s ++ drop n (drop at b)))
    unfolding fields_bytes
    laid_more w s m n o e j k =
        let q = first h.sized opened in
        let t : s ≡ le_bytes field.0 field.1 = rw (o, j) at e ∙ le_taken field.0 field.1 q.2 in
        let x : length s ≡ field.0 = rw t (length_le field.0 field.1) in
        let y : length (take at b) ≡ at = length-take-le at b (omega (arith, h.room, h.long)) in
        let z : take (at + field.0) (take at b ++ (s ++ drop n (drop at b))) ≡ take at b ++ s =
        let v : at + field.0 ≡ length (take at b) + length s = omega (arith, x, y) in
        rw v (take-append-add (take at b) (s ++ drop n (drop at b)) (length s) ∙ ap (λ (u : List ℕ). take at b ++ u) (take-append_seam s (drop n (drop at b)))) in
        record {
          long = omega (arith, length-append (take at b) (s ++ drop n (drop at b)), length-append s (drop n (drop at b)), length-drop n (drop at b), length-drop at b, x, y, k, q.1, h.long, h.room);
          left = q.0;
          sized = q.3;
          room = omega (arith, h.room, q.1);
          bytes = rw (z, t, append_assoc) (rw opened at h.bytes);
        }

  pub laid_all : length fs ≤ i → b ≡ all
  unfolding fields_bytes
  laid_all l =
      let q : drop i fs ≡ [] = drop_all i fs l in
      let n = none_left h.sized q in
      sym (take_all at b (omega (arith, n, h.long, h.room))) ∙ sym (append-nil (take at b)) ∙ (rw q at h.bytes)
