-- Meaning: sentences in bytes. Document 01: "A token is 5 bytes: kind 1..t, then a 32-bit tag that is carried and never interpreted. All numbers are little-endian."
use Rattle.std.specs.Prelude.{ℕ, zero, suc, ◌+◌, ◌*◌, ◌/◌, ◌%◌, ◌≤◌, ◌<◌, ◌≡◌, refl, ◌⊎◌, List, [], ◌∷◌, ◌++◌, length, drop}
use Rattle.std.proofs.Common.{sym, ap, ◌∙◌, inl, inr, append_assoc, append-nil, length-drop, drop_of_length-le, drop-cons, get_or-drop, arith}
use Rattle.std.proofs.Math.Logic.{by_cases}
use Rattle.std.proofs.Math.Decide.{ℕ_discrete}
use Rattle.base.specs.Bytes.{byte_at, get32, Bytes, le_bytes}
use Rattle.grammar.specs.Each.{Each, each_join}
use Rattle.trees.specs.Area.{tag_space, Linked}
use Rattle.grammar.specs.Grammar.{TerminalOf}
use Rattle.grammar.specs.Forest.{Token, kinds, Forest, yield}

abbrev pub token_size : ℕ
token_size = 5

-- "a 32-bit tag"
abbrev pub Tagged : Token → Type 0
Tagged k = k.tag < tag_space

abbrev pub token_bytes : List Token → List ℕ
token_bytes [] = []
token_bytes (k ∷ w) = k.kind ∷ (le_bytes 4 k.tag ++ token_bytes w)

-- the bytes are the sentence w, whose kinds are 1..t
pub record Sentence (t : ℕ) (b : List ℕ) (w : List Token) : Type 0 where
  pub is : b ≡ token_bytes w
  pub kinds : Each (TerminalOf t) (kinds w)
  pub tags : Each Tagged w

-- no good record stands first
abbrev pub Stops : ℕ → List ℕ → Type 0
Stops t r = (length r < token_size) ⊎ (TerminalOf t (byte_at r 0) → ⊥)

-- reply 7: "token bytes end inside a record, or a kind is not 1..t"; record k, "from 0", is the first bad one
pub record BadToken (t : ℕ) (b : List ℕ) (k : ℕ) : Type 0 where
  pub good : List Token
  pub rest : List ℕ
  pub sentence : Sentence t (token_bytes good) good
  pub count : length good ≡ k
  pub is : b ≡ token_bytes good ++ rest
  pub some : 1 ≤ length rest
  pub bad : Stops t rest

-- ---- their bytes

pub length_token_bytes : (w : List Token) → length (token_bytes w) ≡ token_size * length w
unfolding le_bytes
length_token_bytes [] = refl
length_token_bytes (k ∷ w) = omega (arith, length_token_bytes w)

pub token_bytes_append : (u v : List Token) → token_bytes (u ++ v) ≡ token_bytes u ++ token_bytes v
token_bytes_append [] v = refl
token_bytes_append (k ∷ u) v =
    ap (λ (x : List ℕ). k.kind ∷ x) (ap (λ (x : List ℕ). le_bytes 4 k.tag ++ x) (token_bytes_append u v) ∙ sym (append_assoc (le_bytes 4 k.tag) (token_bytes u) (token_bytes v)))

-- ---- good tokens

-- a token of kind 1..t with a 32-bit tag
abbrev pub Good : ℕ → Token → Type 0
Good t k = TerminalOf t k.kind × Tagged k

pub good_of : {t : ℕ} (w : List Token) → Each (TerminalOf t) (kinds w) → Each Tagged w → Each (Good t) w
good_of [] a b = Each.nil
good_of (k ∷ w) (Each.cons x a) (Each.cons y b) = Each.cons (x, y) (good_of w a b)

pub good_kinds : {t : ℕ} (w : List Token) → Each (Good t) w → Each (TerminalOf t) (kinds w)
good_kinds [] a = Each.nil
good_kinds (k ∷ w) (Each.cons x a) = Each.cons x.0 (good_kinds w a)

pub good_tags : {t : ℕ} (w : List Token) → Each (Good t) w → Each Tagged w
good_tags [] a = Each.nil
good_tags (k ∷ w) (Each.cons x a) = Each.cons x.1 (good_tags w a)

pub good_linked : {b : List ℕ} {p : ℕ} {f : Forest} → Linked b p f → Each Tagged (yield f)
good_linked Linked.nil = Each.nil
good_linked (Linked.leaf e l h) = Each.cons l (good_linked h)
good_linked (Linked.node e h k) = each_join (good_linked h) (good_linked k)

-- ---- reading them

unfoldable pub token_at : List ℕ → ℕ → Token
token_at b i = record { kind = byte_at b (token_size * i); tag = get32 b (token_size * i + 1) }

-- k tokens from token i on
abbrev pub tokens_from : List ℕ → ℕ → ℕ → List Token
tokens_from b zero i = []
tokens_from b (suc k) i = token_at b i ∷ tokens_from b k (i + 1)

four : (x y z u : ℕ) → x < 256 → y < 256 → z < 256 → u < 256 → le_bytes 4 (x + 256 * (y + 256 * (z + 256 * u))) ≡ x ∷ y ∷ z ∷ u ∷ []
unfolding le_bytes
four x y z u a b c d =
    let e₁ : (x + 256 * (y + 256 * (z + 256 * u))) % 256 ≡ x = omega arith in
    let q₁ : (x + 256 * (y + 256 * (z + 256 * u))) / 256 ≡ y + 256 * (z + 256 * u) = omega arith in
    let e₂ : (y + 256 * (z + 256 * u)) % 256 ≡ y = omega arith in
    let q₂ : (y + 256 * (z + 256 * u)) / 256 ≡ z + 256 * u = omega arith in
    let e₃ : (z + 256 * u) % 256 ≡ z = omega arith in
    let q₃ : (z + 256 * u) / 256 ≡ u = omega arith in
    let e₄ : u % 256 ≡ u = omega arith in
    rw (e₁, q₁, e₂, q₂, e₃, q₃, e₄)

-- a record, then the others
drop_token : (b : List ℕ) (n : ℕ) → n + token_size ≤ length b → drop n b ≡ byte_at b n ∷ byte_at b (n + 1) ∷ byte_at b (n + 2) ∷ byte_at b (n + 3) ∷ byte_at b (n + 4) ∷ drop (n + 5) b
drop_token b n l =
    one n (n + 1) (omega arith) (omega arith) (one (n + 1) (n + 2) (omega arith) (omega arith) (one (n + 2) (n + 3) (omega arith) (omega arith)
    (one (n + 3) (n + 4) (omega arith) (omega arith) (one (n + 4) (n + 5) (omega arith) (omega arith) refl))))
  where
    one : (i j : ℕ) {r : List ℕ} → j ≡ suc i → i < length b → drop j b ≡ r → drop i b ≡ byte_at b i ∷ r
    one i j q l e = drop-cons b i 0 l ∙ ap (λ (u : List ℕ). byte_at b i ∷ u) (rw q at e)

-- k tokens from token i on, then the others
pub tokens_part : (b : List ℕ) (k i : ℕ) → Bytes b → token_size * (i + k) ≤ length b → drop (token_size * i) b ≡ token_bytes (tokens_from b k i) ++ drop (token_size * (i + k)) b
unfolding token_at
tokens_part b zero i f l = let q : i + 0 ≡ i = omega arith in rw q
tokens_part b (suc k) i f l =
    let n : ℕ = token_size * i in
    let q : n + 5 ≡ token_size * (i + 1) = omega arith in
    let q₁ : i + 1 + k ≡ i + suc k = omega arith in
    let q₂ : n + 1 + 1 ≡ n + 2 = omega arith in
    let q₃ : n + 1 + 2 ≡ n + 3 = omega arith in
    let q₄ : n + 1 + 3 ≡ n + 4 = omega arith in
    let h = rw q₁ at (tokens_part b k (i + 1) f (omega (arith, l))) in
    let d = rw (q, h) at (drop_token b n (omega (arith, l))) in
    rw (q₂, q₃, q₄, four (byte_at b (n + 1)) (byte_at b (n + 2)) (byte_at b (n + 3)) (byte_at b (n + 4)) (f (n + 1)) (f (n + 2)) (f (n + 3)) (f (n + 4))) d

-- every kind of the first i tokens is a terminal
pub record Kinds (t : ℕ) (b : List ℕ) (i : ℕ) : Type 0 where
  pub is : (j : ℕ) → j < i → TerminalOf t (byte_at b (token_size * j))

pub kinds_none : (t : ℕ) (b : List ℕ) → Kinds t b 0
kinds_none t b = record { is = λ j l. absurd (omega arith) }

pub kinds_more : (t : ℕ) (b : List ℕ) (i a : ℕ) → a ≡ byte_at b (token_size * i) → (a ≡ 0 → ⊥) → a ≤ t → Kinds t b i → Kinds t b (i + 1)
kinds_more t b i a e n l h =
    let w : TerminalOf t a = (omega (arith, n), l) in
    record { is = λ j m. by_cases (ℕ_discrete j i) (λ q. rw q (rw e at w)) (λ q. h.is j (omega arith)) }

each_kind : (t : ℕ) (b : List ℕ) (k i : ℕ) → Kinds t b (i + k) → Each (TerminalOf t) (kinds (tokens_from b k i))
unfolding token_at
each_kind t b zero i h = Each.nil
each_kind t b (suc k) i h = let q : i + suc k ≡ i + 1 + k = omega arith in Each.cons (h.is i (omega arith)) (each_kind t b k (i + 1) (rw q at h))

each_tag : (b : List ℕ) (k i : ℕ) → Bytes b → Each Tagged (tokens_from b k i)
unfolding token_at
each_tag b zero i f = Each.nil
each_tag b (suc k) i f =
    let n : ℕ = token_size * i + 1 in
    let l : get32 b n < tag_space = omega (arith, f n, f (n + 1), f (n + 2), f (n + 3)) in
    Each.cons l (each_tag b k (i + 1) f)

pub length_tokens : (b : List ℕ) (k i : ℕ) → length (tokens_from b k i) ≡ k
length_tokens b zero i = refl
length_tokens b (suc k) i = ap suc (length_tokens b k (i + 1))

-- bytes that are records, with kinds 1..t, are the sentence of their tokens
pub sentence_of : (t : ℕ) (b : List ℕ) (k : ℕ) → Bytes b → length b ≡ token_size * k → Kinds t b k → Sentence t b (tokens_from b k 0)
sentence_of t b k f l h =
    let q : 0 + k ≡ k = omega arith in
    let e : drop (token_size * k) b ≡ [] = drop_of_length-le b {i = token_size * k} (omega arith) in
    record {
      is = rw (q, e, append-nil (token_bytes (tokens_from b k 0))) at (tokens_part b k 0 f (omega (arith, l)));
      kinds = each_kind t b k 0 (rw q h);
      tags = each_tag b k 0 f;
    }

-- and where a bad record comes behind them, it is the first
pub bad_token : (t : ℕ) (b : List ℕ) (k : ℕ) → Bytes b → token_size * k < length b → Kinds t b k → (length b < token_size * k + token_size) ⊎ (TerminalOf t (byte_at b (token_size * k)) → ⊥)
    → BadToken t b k
bad_token t b k f l h x =
    let q : 0 + k ≡ k = omega arith in
    let n = length-drop (token_size * k) b in
    record {
      good = tokens_from b k 0;
      rest = drop (token_size * k) b;
      sentence = record { is = refl; kinds = each_kind t b k 0 (rw q h); tags = each_tag b k 0 f };
      count = length_tokens b k 0;
      is = rw q at (tokens_part b k 0 f (omega arith));
      some = omega (arith, n);
      bad = stops x;
    }
  where
    stops : (length b < token_size * k + token_size) ⊎ (TerminalOf t (byte_at b (token_size * k)) → ⊥) → Stops t (drop (token_size * k) b)
    stops (inl m) = inl (omega (arith, length-drop (token_size * k) b))
    stops (inr m) = inr (λ w. m (let z : token_size * k + 0 ≡ token_size * k = omega arith in rw (get_or-drop (token_size * k) b 0 0, z) at w))

-- ---- bytes are one sentence at most, and have one first bad record at most

same_number : (a b : ℕ) → a % 256 ≡ b % 256 → a / 256 ≡ b / 256 → a ≡ b
same_number a b e f = omega arith

same_byte : (a b : ℕ) → a < 256 → b < 256 → a % 256 ≡ b % 256 → a ≡ b
same_byte a b l m e = omega arith

shrink : (a k : ℕ) → a < 256 * k → a / 256 < k
shrink a k l = omega arith

same_tag : (g g' : ℕ) (r r' : List ℕ) → g < tag_space → g' < tag_space → le_bytes 4 g ++ r ≡ le_bytes 4 g' ++ r' → (g ≡ g') × (r ≡ r')
unfolding le_bytes
same_tag g g' r r' l l' e =
    let x₁ : g % 256 ≡ g' % 256 = cc in
    let x₂ : g / 256 % 256 ≡ g' / 256 % 256 = cc in
    let x₃ : g / 256 / 256 % 256 ≡ g' / 256 / 256 % 256 = cc in
    let x₄ : g / 256 / 256 / 256 % 256 ≡ g' / 256 / 256 / 256 % 256 = cc in
    let small : (v : ℕ) → v < tag_space → v / 256 / 256 / 256 < 256 = λ v m. shrink (v / 256 / 256) 256 (shrink (v / 256) 65536 (shrink v 16777216 m)) in
    let w₃ : g / 256 / 256 / 256 ≡ g' / 256 / 256 / 256 = same_byte (g / 256 / 256 / 256) (g' / 256 / 256 / 256) (small g l) (small g' l') x₄ in
    (same_number g g' x₁ (same_number (g / 256) (g' / 256) x₂ (same_number (g / 256 / 256) (g' / 256 / 256) x₃ w₃)), cc)

begins : (t : ℕ) (k : Token) (u : List Token) (r s : List ℕ) → TerminalOf t k.kind → r ≡ (k.kind ∷ (le_bytes 4 k.tag ++ token_bytes u)) ++ s → Stops t r → ⊥
unfolding le_bytes
begins t k u r s w e (inl l) = omega (arith, ap length e)
begins t k u r s w e (inr n) = n (rw e w)

pub parts_one : (t : ℕ) (u u' : List Token) (r r' : List ℕ) → Each (TerminalOf t) (kinds u) → Each (TerminalOf t) (kinds u') → Each Tagged u → Each Tagged u'
    → Stops t r → Stops t r' → token_bytes u ++ r ≡ token_bytes u' ++ r' → (u ≡ u') × (r ≡ r')
parts_one t [] [] r r' a a' b b' s s' e = (refl, e)
parts_one t [] (k ∷ u') r r' a (Each.cons w a') b b' s s' e = absurd (begins t k u' r r' w e s)
parts_one t (k ∷ u) [] r r' (Each.cons w a) a' b b' s s' e = absurd (begins t k u r' r w (sym e) s')
parts_one t (k ∷ u) (k' ∷ u') r r' (Each.cons w a) (Each.cons w' a') (Each.cons g b) (Each.cons g' b') s s' e =
    let x : k.kind ≡ k'.kind = cc in
    let y : le_bytes 4 k.tag ++ (token_bytes u ++ r) ≡ le_bytes 4 k'.tag ++ (token_bytes u' ++ r') =
    sym (append_assoc (le_bytes 4 k.tag) (token_bytes u) r) ∙ tails e ∙ append_assoc (le_bytes 4 k'.tag) (token_bytes u') r'
    in
    let z = same_tag k.tag k'.tag (token_bytes u ++ r) (token_bytes u' ++ r') g g' y in
    let h = parts_one t u u' r r' a a' b b' s s' z.1 in
    let o : k ≡ k' = same k k' x z.0 in
    (rw (o, h.0), h.1)
  where
    tails : {x x' : ℕ} {v v' : List ℕ} → x ∷ v ≡ x' ∷ v' → v ≡ v'
    tails e = cc

    same : (k k' : Token) → k.kind ≡ k'.kind → k.tag ≡ k'.tag → k ≡ k'
    same k k' e f = ap (λ (a : ℕ). record { kind = a; tag = k.tag }) e ∙ ap (λ (g : ℕ). record { kind = k'.kind; tag = g }) f

pub sentence_one : {t : ℕ} {b : List ℕ} {w w' : List Token} → Sentence t b w → Sentence t b w' → w ≡ w'
sentence_one {t} {b} {w} {w'} h k =
    let l : 0 < token_size = omega arith in
    (parts_one t w w' [] [] h.kinds k.kinds h.tags k.tags (inl l) (inl l) (rw (append-nil (token_bytes w), append-nil (token_bytes w')) (sym h.is ∙ k.is))).0

pub bad_not_sentence : {t k : ℕ} {b : List ℕ} {w : List Token} → BadToken t b k → Sentence t b w → ⊥
bad_not_sentence {t} {k} {b} {w} h s =
    let l : 0 < token_size = omega arith in
    let e : token_bytes h.good ++ h.rest ≡ token_bytes w ++ [] = rw (append-nil (token_bytes w)) (sym h.is ∙ s.is) in
    let q = (parts_one t h.good w h.rest [] h.sentence.kinds s.kinds h.sentence.tags s.tags h.bad (inl l) e).1 in
    omega (arith, h.some, ap length q)

pub bad_token_one : {t k k' : ℕ} {b : List ℕ} → BadToken t b k → BadToken t b k' → k ≡ k'
bad_token_one {t} h j =
    let q = (parts_one t h.good j.good h.rest j.rest h.sentence.kinds j.sentence.kinds h.sentence.tags j.sentence.tags h.bad j.bad (sym h.is ∙ j.is)).0 in
    sym h.count ∙ ap length q ∙ j.count
