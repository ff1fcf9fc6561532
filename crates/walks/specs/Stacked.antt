-- The work area of a walk. Behind the room for the nodes stand the frames, twelve bytes for each: the first sibling's slot and the parent's (2 each) and the siblings' symbols as one
-- number (8). Behind room for a frame more than there are slots stand the marks, a byte for each slot, slot 0 too.
use Rattle.std.specs.Prelude.{ℕ, suc, ◌+◌, ◌-◌, ◌*◌, ◌≤◌, ◌<◌, ◌≡◌, List, [], ◌∷◌, ◌++◌, length, set, take, drop}
use Rattle.std.proofs.Math.Path.{sym, ap}
use Rattle.std.proofs.Common.{◌∙◌, length-take, take_at, drop_at, ext_get_or}
use Rattle.std.proofs.Math.ListN.{length-drop}
use Rattle.std.proofs.Math.Seq.{get_or-take, get_or-drop, take-set-lt, length-take-le}
use Rattle.std.proofs.lemmas.List.{drop-set-add}
use native.Mathlib.Omega.{arith}
use Rattle.base.specs.Bytes.{byte_at, get16}
use Rattle.base.specs.Written.{Only, get64, get64_same}
use Rattle.base.specs.Blocks.{zeros, length_zeros}
use Rattle.trees.specs.Coded.{node_size}
use Rattle.walks.specs.Digits.{Digits}
use Rattle.walks.specs.Frames.{Frame, frame}

abbrev pub frame_size : ℕ
frame_size = 12

-- where a frame has the parent's slot, and the symbols
abbrev pub frame_parent : ℕ
frame_parent = 2

abbrev pub frame_rest : ℕ
frame_rest = 4

-- where frame k stands
abbrev pub place_of : ℕ → ℕ → ℕ
place_of S k = node_size * S + frame_size * k

-- where the marks begin
abbrev pub marks_at : ℕ → ℕ
marks_at S = place_of S (S + 1)

abbrev pub walk_size : ℕ → ℕ
walk_size S = marks_at S + (S + 1)

-- ---- the frames

-- the symbols in the frame at a place
abbrev pub rest_at : List ℕ → ℕ → ℕ
rest_at w at = get64 w (at + frame_rest)

-- the last k frames, the last first
pub data Held (w : List ℕ) (S : ℕ) : ℕ → List Frame → Type 0 where
  nil : Held w S 0 []
  cons : {k s par : ℕ} {ys : List ℕ} {fs : List Frame} → s ≡ get16 w (place_of S k) → par ≡ get16 w (place_of S k + frame_parent) → Digits ys (rest_at w (place_of S k)) → Held w S k fs
      → Held w S (suc k) (frame s par ys ∷ fs)

-- frames of the same bytes
pub held_same : {w : List ℕ} {S k : ℕ} {fs : List Frame} (w' : List ℕ) → ((i : ℕ) → node_size * S ≤ i → i < place_of S k → byte_at w' i ≡ byte_at w i) → Held w S k fs → Held w' S k fs
held_same w' h Held.nil = Held.nil
held_same {w} {S} w' h (Held.cons {k = k} {s = s} {par = par} {ys = ys} {fs = fs} e e' d r) =
    let at : ℕ = place_of S k in
    let a0 = h at (omega arith) (omega arith) in
    let a1 = h (at + 1) (omega arith) (omega arith) in
    let a2 = h (at + 2) (omega arith) (omega arith) in
    let a3 = h (at + 2 + 1) (omega arith) (omega arith) in
    let i : s ≡ get16 w' at = omega (arith, e, a0, a1) in
    let j : par ≡ get16 w' (at + frame_parent) = omega (arith, e', a2, a3) in
    let q : rest_at w' at ≡ rest_at w at = get64_same w w' (at + frame_rest) (λ i l m. h i (omega arith) (omega arith)) in
    let d' : Digits ys (rest_at w' at) = rw q d in
    Held.cons {k = k} i j d' (held_same w' (λ i l m. h i l (omega arith)) r)

-- w' is w with a frame at a place
pub record Framed (w : List ℕ) (at s par rest : ℕ) (w' : List ℕ) : Type 0 where
  pub only : Only at (at + frame_size) w w'
  pub slot : s ≡ get16 w' at
  pub parent : par ≡ get16 w' (at + frame_parent)
  pub symbols : rest_at w' at ≡ rest

-- ---- the marks

-- the marks of the slots 0 .. S; shut, so that only its laws are used
unfoldable pub marks_in : ℕ → List ℕ → List ℕ
marks_in S w = take (S + 1) (drop (marks_at S) w)

module _ (S : ℕ) (w : List ℕ) where
  pub length_marks : walk_size S ≤ length w → length (marks_in S w) ≡ S + 1
  unfolding marks_in
  length_marks l = length-take-le (S + 1) (drop (marks_at S) w) (simp length-drop (omega arith))

  pub mark_at : (s : ℕ) → s ≤ S → byte_at (marks_in S w) s ≡ byte_at w (marks_at S + s)
  unfolding marks_in
  mark_at s l = get_or-take (S + 1) (drop (marks_at S) w) s 0 (omega arith) ∙ get_or-drop (marks_at S) w s 0

  pub marks_set : (s v : ℕ) → s ≤ S → marks_in S (set w (marks_at S + s) v) ≡ set (marks_in S w) s v
  unfolding marks_in
  marks_set s v l = ap (take (S + 1)) (drop-set-add (marks_at S) w s v) ∙ take-set-lt (S + 1) (drop (marks_at S) w) s v (omega arith)

  -- marks of the same bytes
  pub marks_same : (w' : List ℕ) → length w' ≡ length w → ((i : ℕ) → marks_at S ≤ i → byte_at w' i ≡ byte_at w i) → marks_in S w' ≡ marks_in S w
  unfolding marks_in
  marks_same w' e h =
      ap (take (S + 1)) (ext_get_or 0 (drop (marks_at S) w') (drop (marks_at S) w) (omega (arith, length-drop (marks_at S) w', length-drop (marks_at S) w, e))
      (λ i l. get_or-drop (marks_at S) w' i 0 ∙ h (marks_at S + i) (omega arith) ∙ sym (get_or-drop (marks_at S) w i 0)))

  -- the part of the work area that is lent for them
  pub marks_part : (at : ℕ) → at ≡ marks_at S → take (at + S + 1 - at) (drop at w) ≡ marks_in S w
  unfolding marks_in
  marks_part at e = let q : at + S + 1 - at ≡ S + 1 = omega arith in rw (q, e)

-- zeros but for slot 0
pub marks_fresh : (S : ℕ) (w : List ℕ) (at : ℕ) (b w1 w2 : List ℕ) → at ≡ marks_at S → walk_size S ≤ length w → b ≡ zeros (length (take (at + S + 1 - at) (drop at w)))
    → w1 ≡ take at w ++ (b ++ drop (at + S + 1 - at) (drop at w)) → w2 ≡ set w1 at 1 → marks_in S w2 ≡ set (zeros (S + 1)) 0 1
unfolding marks_in
marks_fresh S w at b w1 w2 e l eb e1 e2 =
    let n : length (take (at + S + 1 - at) (drop at w)) ≡ S + 1 = simp (length-take, length-drop) (omega arith) in
    let z : b ≡ zeros (S + 1) = eb ∙ ap zeros n in
    let m : length b ≡ S + 1 = ap length z ∙ length_zeros (S + 1) in
    let o : length (take at w) ≡ marks_at S = length-take-le at w (omega arith) ∙ e in
    let q : take (S + 1) (drop (marks_at S) w1) ≡ zeros (S + 1) =
    rw (e1, drop_at (take at w) (b ++ drop (at + S + 1 - at) (drop at w)) (marks_at S) o, take_at b (drop (at + S + 1 - at) (drop at w)) (S + 1) m) z
    in
    let i : at ≡ marks_at S + 0 = omega arith in
    rw (e2, i) (marks_set S w1 0 1 (omega arith) ∙ ap (λ (u : List ℕ). set u 0 1) q)
