-- The lists that an edit keeps in the work area: both trees' nodes, the notes and the marks.
use Prim.Native.Nat.{ℕ, zero, suc, ◌+◌, ◌-◌, ◌*◌, ◌≤◌, ◌<◌}
use Rattle.std.specs.Prelude.{◌≡◌, refl, ◌⊎◌, get_or, take, drop, Option, None, Some, eqb}
use Rattle.std.proofs.lemmas.Bool.{eqb-true, eqb-false}
use Rattle.base.specs.Tells.{Tells}
use Rattle.std.proofs.Math.Path.{sym, ap}
use Rattle.std.proofs.Common.{◌∙◌, inl, inr, length-set, length-append, get_or-drop, get_or-append-add, get_or-set_same}
use Rattle.std.proofs.Math.Logic.{by_cases}
use mathlib.Core.List.{List, [], ◌∷◌, ◌++◌}
use Rattle.std.proofs.Math.ListN.{length, set, length-take, length-drop, get_or-append}
use Rattle.std.proofs.Math.Seq.{get_or-take, get_or-set_other, ext_get_or, length-take-le}
use Rattle.std.proofs.Math.Decide.{ℕ_discrete, dec_lt}
use native.Mathlib.Omega.{arith}
use Rattle.base.specs.Bytes.{byte_at, get16, put16, byte_out, length_put16, get_put16}
use Rattle.base.specs.Written.{Only, only_word, only_byte, word_kept}
use Rattle.base.specs.Blocks.{zeros, length_zeros, byte_zeros}
use Rattle.trees.specs.Nodes.{Node}
use Rattle.trees.specs.Coded.{node_size, node_at, nodes_from}
use Rattle.trees.specs.Listing.{node_kept, in_slot, Put}

abbrev pub note_size : ℕ
note_size = 8

-- a note is four two-byte numbers: end, width, start and match
abbrev pub width_place : ℕ
width_place = 2

abbrev pub start_place : ℕ
start_place = 4

abbrev pub match_place : ℕ
match_place = 6

-- note x stands behind the nodes of both trees, and the marks stand behind the last note
abbrev pub note_at : ℕ → ℕ → ℕ
note_at S x = node_size * (S + S) + note_size * x

abbrev pub marks_at : ℕ → ℕ
marks_at S = note_at S (S + S + 1)

abbrev pub notes_size : ℕ → ℕ
notes_size S = marks_at S + (S + 1)

-- how the notes have an old node: 1 + its index, or 0
abbrev pub entry_of : Option ℕ → ℕ
entry_of None = 0
entry_of (Some j) = j + 1

-- f i, f (i + 1), .., n of them
abbrev pub list_from : (ℕ → ℕ) → ℕ → ℕ → List ℕ
list_from f zero i = []
list_from f (suc n) i = f i ∷ list_from f n (i + 1)

-- ---- the lists; what they are made of is shut, so that only its laws are used

unfoldable pub nodes_in : ℕ → List ℕ → List ℕ
nodes_in S w = take (node_size * (S + S)) w

-- n numbers, each at the same place of its note
unfoldable pub field_in : ℕ → ℕ → ℕ → List ℕ → List ℕ
field_in S at n w = list_from (λ x. get16 w (note_at S x + at)) n 0

abbrev pub ends_in : ℕ → List ℕ → List ℕ
ends_in S w = field_in S 0 (S + S) w

abbrev pub widths_in : ℕ → List ℕ → List ℕ
widths_in S w = field_in S width_place (S + S) w

abbrev pub starts_in : ℕ → List ℕ → List ℕ
starts_in S w = field_in S start_place (S + 1) w

abbrev pub matches_in : ℕ → List ℕ → List ℕ
matches_in S w = field_in S match_place S w

unfoldable pub marks_in : ℕ → List ℕ → List ℕ
marks_in S w = list_from (λ x. byte_at w (marks_at S + x)) (S + 1) 0

-- these are the nodes and the notes in w
pub record Viewed (S : ℕ) (w ns es ws ss ms : List ℕ) : Type 0 where
  pub nodes : nodes_in S w ≡ ns
  pub ends : ends_in S w ≡ es
  pub widths : widths_in S w ≡ ws
  pub starts : starts_in S w ≡ ss
  pub matches : matches_in S w ≡ ms

-- these are the nodes, the matches and the marks in w
pub record Seen (S : ℕ) (w ns ms ks : List ℕ) : Type 0 where
  pub nodes : nodes_in S w ≡ ns
  pub matches : matches_in S w ≡ ms
  pub marks : marks_in S w ≡ ks

-- ---- lists by index

pub length_list : (f : ℕ → ℕ) (n i : ℕ) → length (list_from f n i) ≡ n
length_list f zero i = refl
length_list f (suc n) i = ap suc (length_list f n (i + 1))

get_from : (f : ℕ → ℕ) (n i j : ℕ) → j < n → get_or (list_from f n i) j 0 ≡ f (i + j)
get_from f zero i j l = absurd (omega arith)
get_from f (suc n) i zero l = ap f (omega arith)
get_from f (suc n) i (suc j) l = get_from f n (i + 1) j (omega arith) ∙ ap f (omega arith)

pub get_list : (f : ℕ → ℕ) (n j : ℕ) → j < n → get_or (list_from f n 0) j 0 ≡ f j
get_list f n j l = get_from f n 0 j l ∙ ap f (omega arith)

-- the list with these numbers
list_is : (f : ℕ → ℕ) (n : ℕ) (xs : List ℕ) → length xs ≡ n → ((j : ℕ) → j < n → f j ≡ get_or xs j 0) → list_from f n 0 ≡ xs
list_is f n xs e h =
    ext_get_or 0 (list_from f n 0) xs (length_list f n 0 ∙ sym e)
    (λ j l. let k : j < n = omega (arith, length_list f n 0) in get_list f n j k ∙ h j k)

list_same : (f g : ℕ → ℕ) (n : ℕ) → ((j : ℕ) → j < n → g j ≡ f j) → list_from g n 0 ≡ list_from f n 0
list_same f g n h = list_is g n (list_from f n 0) (length_list f n 0) (λ j l. h j l ∙ sym (get_list f n j l))

list_set : (f g : ℕ → ℕ) (n x v : ℕ) → x < n → g x ≡ v → ((j : ℕ) → j < n → (j ≡ x → ⊥) → g j ≡ f j) → list_from g n 0 ≡ set (list_from f n 0) x v
list_set f g n x v l e h =
    list_is g n (set (list_from f n 0) x v) (length-set (list_from f n 0) x v ∙ length_list f n 0)
    (λ j k. by_cases (ℕ_discrete j x)
    (λ d. rw d (e ∙ sym (get_or-set_same (list_from f n 0) x v 0 (omega (arith, length_list f n 0)))))
    (λ d. h j k d ∙ sym (get_or-set_other (list_from f n 0) x j v 0 d ∙ get_list f n j k)))

list_zeros : (f : ℕ → ℕ) (n : ℕ) → ((j : ℕ) → j < n → f j ≡ 0) → list_from f n 0 ≡ zeros n
list_zeros f n h = list_is f n (zeros n) (length_zeros n) (λ j l. h j l ∙ sym (byte_zeros n j))

-- ---- a write of some bytes

-- a part in place of what stood there
abbrev pub with_part : List ℕ → ℕ → ℕ → List ℕ → List ℕ
with_part w a b p = take a w ++ (p ++ drop (b - a) (drop a w))

module _ (w : List ℕ) (a b : ℕ) (p : List ℕ) (l : a ≤ b) (m : b ≤ length w) (e : length p ≡ b - a) where
  front : length (take a w) ≡ a
  front = length-take-le a w (omega arith)

  inside : (j : ℕ) → a ≤ j → j < b → byte_at (with_part w a b p) j ≡ byte_at p (j - a)
  inside j x y =
      let q : length (take a w) + (j - a) ≡ j = omega (arith, front) in
      ap (byte_at (with_part w a b p)) (sym q) ∙ get_or-append-add (take a w) (p ++ drop (b - a) (drop a w)) (j - a) 0 ∙ get_or-append p (drop (b - a) (drop a w)) 0 (j - a) (omega arith)

  only_part : Only a b w (with_part w a b p)
  only_part =
      record {
        long = omega (arith, length-append (take a w) (p ++ drop (b - a) (drop a w)), length-append p (drop (b - a) (drop a w)), length-drop (b - a) (drop a w), length-drop a w, front);
        others = λ j o. go j o;
      }
    where
      go : (j : ℕ) → (j < a) ⊎ (b ≤ j) → byte_at (with_part w a b p) j ≡ byte_at w j
      go j (inl x) = get_or-append (take a w) (p ++ drop (b - a) (drop a w)) 0 j (omega (arith, front)) ∙ get_or-take a w j 0 x
      go j (inr x) =
          let q : length (take a w) + (j - a) ≡ j = omega (arith, front) in
          let r : length p + (j - b) ≡ j - a = omega arith in
          let s : a + (b - a + (j - b)) ≡ j = omega arith in
          ap (byte_at (with_part w a b p)) (sym q) ∙ get_or-append-add (take a w) (p ++ drop (b - a) (drop a w)) (j - a) 0
          ∙ ap (byte_at (p ++ drop (b - a) (drop a w))) (sym r) ∙ get_or-append-add p (drop (b - a) (drop a w)) (j - b) 0
          ∙ get_or-drop (b - a) (drop a w) (j - b) 0 ∙ get_or-drop a w (b - a + (j - b)) 0 ∙ ap (byte_at w) s

module _ {a b : ℕ} {w w' : List ℕ} (h : Only a b w w') where
  nodes_kept : (S : ℕ) → node_size * (S + S) ≤ a → nodes_in S w' ≡ nodes_in S w
  unfolding nodes_in
  nodes_kept S l =
      let L : ℕ = node_size * (S + S) in
      ext_get_or 0 (take L w') (take L w) (omega (arith, length-take L w', length-take L w, h.long))
      (λ j k. let x : j < L = omega (arith, length-take L w') in get_or-take L w' j 0 x ∙ h.others j (inl (omega arith)) ∙ sym (get_or-take L w j 0 x))

  field_kept : (S at n : ℕ) → b ≤ node_size * (S + S) → field_in S at n w' ≡ field_in S at n w
  unfolding field_in
  field_kept S at n l = list_same _ _ n (λ j m. word_kept h (note_at S j + at) (inr (omega arith)))

  field_before : (S at n : ℕ) → at ≤ match_place → n ≤ S + S + 1 → marks_at S ≤ a → field_in S at n w' ≡ field_in S at n w
  unfolding field_in
  field_before S at n l k m = list_same _ _ n (λ j o. word_kept h (note_at S j + at) (inl (omega arith)))

  marks_kept : (S : ℕ) → b ≤ marks_at S → marks_in S w' ≡ marks_in S w
  unfolding marks_in
  marks_kept S l = list_same _ _ (S + 1) (λ j m. h.others (marks_at S + j) (inr (omega arith)))

-- a number of a note is written
module _ (w : List ℕ) (S x at v : ℕ) (l : at ≤ match_place) where
  field_put : (n : ℕ) → x < n → note_at S x + note_size ≤ length w → field_in S at n (put16 w (note_at S x + at) v) ≡ set (field_in S at n w) x v
  unfolding field_in
  field_put n k m =
      list_set _ _ n x v k (get_put16 w (note_at S x + at) v (omega arith))
      (λ j o d. word_kept (only_word w (note_at S x + at) v) (note_at S j + at) (apart j d))
    where
      apart : (j : ℕ) → (j ≡ x → ⊥) → (note_at S j + at + 2 ≤ note_at S x + at) ⊎ (note_at S x + at + 2 ≤ note_at S j + at)
      apart j d = by_cases (dec_lt j x) (λ o. inl (omega arith)) (λ o. inr (by_cases (ℕ_discrete j x) (λ e. absurd (d e)) (λ e. omega arith)))

  field_other : (n other : ℕ) → other ≤ match_place → (at + 2 ≤ other) ⊎ (other + 2 ≤ at) → field_in S other n (put16 w (note_at S x + at) v) ≡ field_in S other n w
  unfolding field_in
  field_other n other k d = list_same _ _ n (λ j o. word_kept (only_word w (note_at S x + at) v) (note_at S j + other) (apart d j))
    where
      apart : (at + 2 ≤ other) ⊎ (other + 2 ≤ at) → (j : ℕ) → (note_at S j + other + 2 ≤ note_at S x + at) ⊎ (note_at S x + at + 2 ≤ note_at S j + other)
      apart (inl y) j = by_cases (dec_lt j x) (λ o. inl (omega arith)) (λ o. inr (omega arith))
      apart (inr y) j = by_cases (dec_lt x j) (λ o. inr (omega arith)) (λ o. inl (omega arith))

  field_nodes : nodes_in S (put16 w (note_at S x + at) v) ≡ nodes_in S w
  field_nodes = nodes_kept (only_word w (note_at S x + at) v) S (omega arith)

-- ---- reading

module _ (w : List ℕ) (S : ℕ) where
  pub length_field : (at n : ℕ) → length (field_in S at n w) ≡ n
  unfolding field_in
  length_field at n = length_list _ n 0

  pub length_marks : length (marks_in S w) ≡ S + 1
  unfolding marks_in
  length_marks = length_list _ (S + 1) 0

  pub number_is : (at n x r : ℕ) → x < n → r ≡ get16 w (note_at S x + at) → r ≡ get_or (field_in S at n w) x 0
  unfolding field_in
  number_is at n x r l q = q ∙ sym (get_list _ n x l)

  pub mark_is : (s at r : ℕ) → at ≡ marks_at S → s ≤ S → r ≡ byte_at w (at + s) → r ≡ get_or (marks_in S w) s 0
  unfolding marks_in
  mark_is s at r e l q = let z : at + s ≡ marks_at S + s = omega arith in q ∙ ap (byte_at w) z ∙ sym (get_list _ (S + 1) s (omega arith))

  -- node x is that of w
  pub node_in : (x : ℕ) → x < S + S → node_at (nodes_in S w) x ≡ node_at w x
  unfolding nodes_in
  node_in x l = node_kept w (take (node_size * (S + S)) w) x (λ j a b. get_or-take (node_size * (S + S)) w j 0 (omega arith))

  -- and so are they all
  pub nodes_in_lem : (k i : ℕ) → i + k ≤ S + S → nodes_from (nodes_in S w) k i ≡ nodes_from w k i
  nodes_in_lem zero i l = refl
  nodes_in_lem (suc k) i l = rw (node_in i (omega arith), nodes_in_lem k (i + 1) (omega arith))

  -- so what is read of node x is of that node
  pub field_is : (x r : ℕ) (f : Node → ℕ) → x < S + S → r ≡ f (node_at w x) → r ≡ f (node_at (nodes_in S w) x)
  field_is x r f l e = e ∙ ap f (sym (node_in x l))

-- ---- writing

module _ (w : List ℕ) (S : ℕ) (room : notes_size S ≤ length w) where
  module _ (x at v : ℕ) (e : at ≡ note_at S x) where
    pub start_set : (w' : List ℕ) → x ≤ S → w' ≡ put16 w (at + start_place) v → Viewed S w' (nodes_in S w) (ends_in S w) (widths_in S w) (set (starts_in S w) x v) (matches_in S w)
    start_set w' l q =
        rw (q, e) (record {
          nodes = field_nodes w S x start_place v (omega arith);
          ends = field_other w S x start_place v (omega arith) (S + S) 0 (omega arith) (inr (omega arith));
          widths = field_other w S x start_place v (omega arith) (S + S) width_place (omega arith) (inr (omega arith));
          starts = field_put w S x start_place v (omega arith) (S + 1) (omega arith) (omega arith);
          matches = field_other w S x start_place v (omega arith) S match_place (omega arith) (inl (omega arith));
        })

    pub match_set : (w' : List ℕ) → x < S → w' ≡ put16 w (at + match_place) v → Viewed S w' (nodes_in S w) (ends_in S w) (widths_in S w) (starts_in S w) (set (matches_in S w) x v)
    match_set w' l q =
        rw (q, e) (record {
          nodes = field_nodes w S x match_place v (omega arith);
          ends = field_other w S x match_place v (omega arith) (S + S) 0 (omega arith) (inr (omega arith));
          widths = field_other w S x match_place v (omega arith) (S + S) width_place (omega arith) (inr (omega arith));
          starts = field_other w S x match_place v (omega arith) (S + 1) start_place (omega arith) (inr (omega arith));
          matches = field_put w S x match_place v (omega arith) S l (omega arith);
        })

    pub span_set : (w₁ w₂ : List ℕ) (width : ℕ) → x < S + S → w₁ ≡ put16 w at v → w₂ ≡ put16 w₁ (at + width_place) width
        → Viewed S w₂ (nodes_in S w) (set (ends_in S w) x v) (set (widths_in S w) x width) (starts_in S w) (matches_in S w)
    span_set w₁ w₂ width l q r =
        let z : at ≡ note_at S x + 0 = omega arith in
        let y : note_at S x + 0 + width_place ≡ note_at S x + width_place = omega arith in
        let u : List ℕ = put16 w (note_at S x + 0) v in
        let long : note_at S x + note_size ≤ length u = omega (arith, length_put16 w (note_at S x + 0) v) in
        rw (r, q, z, y) (record {
          nodes = field_nodes u S x width_place width (omega arith) ∙ field_nodes w S x 0 v (omega arith);
          ends = field_other u S x width_place width (omega arith) (S + S) 0 (omega arith) (inr (omega arith)) ∙ field_put w S x 0 v (omega arith) (S + S) l (omega arith);
          widths = field_put u S x width_place width (omega arith) (S + S) l long ∙ ap (λ (k : List ℕ). set k x width) (field_other w S x 0 v (omega arith) (S + S) width_place (omega arith) (inl (omega arith)));
          starts = field_other u S x width_place width (omega arith) (S + 1) start_place (omega arith) (inl (omega arith)) ∙ field_other w S x 0 v (omega arith) (S + 1) start_place (omega arith) (inl (omega arith));
          matches = field_other u S x width_place width (omega arith) S match_place (omega arith) (inl (omega arith)) ∙ field_other w S x 0 v (omega arith) S match_place (omega arith) (inl (omega arith));
        })

  pub mark_set : (s at : ℕ) → at ≡ marks_at S → s ≤ S → Seen S (set w (at + s) 1) (nodes_in S w) (matches_in S w) (set (marks_in S w) s 1)
  unfolding marks_in
  mark_set s at e l =
      let o = only_byte w (marks_at S + s) 1 in
      rw e (record {
        nodes = nodes_kept o S (omega arith);
        matches = field_before o S match_place S (omega arith) (omega arith) (omega arith);
        marks = list_set _ _ (S + 1) s 1 (omega arith) (get_or-set_same w (marks_at S + s) 1 0 (omega arith)) (λ j k d. get_or-set_other w (marks_at S + s) (marks_at S + j) 1 0 (λ z. d (omega arith)));
      })

  pub slot_set : (w' : List ℕ) (x s : ℕ) → x < S + S → Put w x (in_slot s (node_at w x)) w'
      → Put (nodes_in S w) x (in_slot s (node_at (nodes_in S w) x)) (nodes_in S w') × Seen S w' (nodes_in S w') (matches_in S w) (marks_in S w)
  unfolding nodes_in
  slot_set w' x s l h =
      let L : ℕ = node_size * (S + S) in
      let lw : length (take L w) ≡ L = length-take-le L w (omega arith) in
      let lw' : length (take L w') ≡ L = length-take-le L w' (omega (arith, h.long)) in
      let o : Only (node_size * x) (node_size * x + node_size) w w' = record { long = h.long; others = λ j d. away j d } in (
        record {
          long = omega (arith, lw, lw');
          node = node_in w' S x l ∙ h.node ∙ ap (in_slot s) (sym (node_in w S x l));
          before = λ j k. get_or-take L w' j 0 (omega arith) ∙ h.before j k ∙ sym (get_or-take L w j 0 (omega arith));
          behind = λ j k. by_cases (dec_lt j L)
              (λ d. get_or-take L w' j 0 d ∙ h.behind j k ∙ sym (get_or-take L w j 0 d))
              (λ d. sym (byte_out (take L w') j (omega arith)) ∙ byte_out (take L w) j (omega arith));
        },
        record {
          nodes = refl;
          matches = field_kept o S match_place S (omega arith);
          marks = marks_kept o S (omega arith);
        },
      )
    where
      away : (j : ℕ) → (j < node_size * x) ⊎ (node_size * x + node_size ≤ j) → byte_at w' j ≡ byte_at w j
      away j (inl k) = h.before j k
      away j (inr k) = h.behind j k

  -- ---- nothing is noted

  cleared : (a b : ℕ) → a ≤ b → b ≤ length w → (j : ℕ) → a ≤ j → j < b → byte_at (with_part w a b (zeros (b - a))) j ≡ 0
  cleared a b l m j x y = inside w a b (zeros (b - a)) l m (length_zeros (b - a)) j x y ∙ byte_zeros (b - a) (j - a)

  pub notes_cleared : (a b : ℕ) (p : List ℕ) → a ≡ note_at S 0 → b ≡ marks_at S → p ≡ zeros (length (take (b - a) (drop a w)))
      → Viewed S (with_part w a b p) (nodes_in S w) (zeros (S + S)) (zeros (S + S)) (zeros (S + 1)) (zeros S)
  unfolding field_in
  notes_cleared a b p e f q =
      let n : length (take (b - a) (drop a w)) ≡ b - a = length-take-le (b - a) (drop a w) (omega (arith, length-drop a w)) in
      let z : p ≡ zeros (b - a) = q ∙ ap zeros n in
      let o = only_part w a b (zeros (b - a)) (omega arith) (omega arith) (length_zeros (b - a)) in
      let v : List ℕ = with_part w a b (zeros (b - a)) in
      let null : (j at : ℕ) → j < S + S + 1 → at ≤ match_place → get16 v (note_at S j + at) ≡ 0 = λ j at k m.
      let x = cleared a b (omega arith) (omega arith) (note_at S j + at) (omega arith) (omega arith) in
      let y = cleared a b (omega arith) (omega arith) (note_at S j + at + 1) (omega arith) (omega arith) in
      omega (arith, x, y) in
      rw z (record {
        nodes = nodes_kept o S (omega arith);
        ends = list_zeros _ (S + S) (λ j k. null j 0 (omega arith) (omega arith));
        widths = list_zeros _ (S + S) (λ j k. null j width_place (omega arith) (omega arith));
        starts = list_zeros _ (S + 1) (λ j k. null j start_place (omega arith) (omega arith));
        matches = list_zeros _ S (λ j k. null j match_place (omega arith) (omega arith));
      })

  pub marks_cleared : (a b : ℕ) (p : List ℕ) → a ≡ marks_at S → b ≡ a + S + 1 → p ≡ zeros (length (take (b - a) (drop a w)))
      → Seen S (with_part w a b p) (nodes_in S w) (matches_in S w) (zeros (S + 1))
  unfolding marks_in
  marks_cleared a b p e f q =
      let n : length (take (b - a) (drop a w)) ≡ b - a = length-take-le (b - a) (drop a w) (omega (arith, length-drop a w)) in
      let z : p ≡ zeros (b - a) = q ∙ ap zeros n in
      let o = only_part w a b (zeros (b - a)) (omega arith) (omega arith) (length_zeros (b - a)) in
      rw z (record {
        nodes = nodes_kept o S (omega arith);
        matches = field_before o S match_place S (omega arith) (omega arith) (omega arith);
        marks = list_zeros _ (S + 1) (λ j k. cleared a b (omega arith) (omega arith) (marks_at S + j) (omega arith) (omega arith));
      })
