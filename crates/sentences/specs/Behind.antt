-- Tokens written behind the nodes, in the same bytes: the nodes are what they were.
use Prim.Native.Nat.{ℕ, ◌+◌, ◌-◌, ◌*◌, ◌/◌, ◌≤◌, ◌<◌, min}
use Rattle.std.specs.Prelude.{◌≡◌, refl}
use Rattle.std.proofs.Math.Path.{ap}
use Rattle.std.proofs.Common.{◌∙◌, take-add, take_at}
use mathlib.Core.List.{List, ◌++◌, append_assoc}
use Rattle.std.proofs.Math.ListN.{length, take, drop, length-append, length-drop, get_or-append}
use Rattle.std.proofs.Math.Seq.{length-take-le, drop_at, drop-drop, get_or-take, length-paste}
use native.Mathlib.Omega.{arith}
use Rattle.base.specs.Bytes.{byte_at}
use Rattle.base.specs.Blocks.{copied}
use Rattle.grammar.specs.Forest.{Token}
use Rattle.trees.specs.Nodes.{leaves_of}
use Rattle.trees.specs.Coded.{node_size, node_at, nodes_from}
use Rattle.trees.specs.Listing.{node_kept, nodes_kept}
use Rattle.plain.specs.Tokens.{token_size, token_bytes, length_token_bytes}
use Rattle.sentences.specs.Adding.{Added}
use Rattle.sentences.specs.Leaves.{leaves_from, Gave}
use Rattle.sentences.specs.Forming.{NewSentence}

-- the bytes below a are what they were, and there are as many
pub record Fronted (a : ℕ) (w w' : List ℕ) : Type 0 where
  pub long : length w' ≡ length w
  pub each : (j : ℕ) → j < a → byte_at w' j ≡ byte_at w j

pub fronted_none : (a : ℕ) (w : List ℕ) → Fronted a w w
fronted_none a w = record { long = refl; each = λ j l. refl }

pub fronted_then : {a : ℕ} {w w' w'' : List ℕ} → Fronted a w w' → Fronted a w' w'' → Fronted a w w''
fronted_then h k = record { long = k.long ∙ h.long; each = λ j l. k.each j l ∙ h.each j l }

-- the nodes are what they were
module _ {a : ℕ} {w w' : List ℕ} (h : Fronted a w w') (n : ℕ) (l : node_size * n ≤ a) where
  pub node_same : (i : ℕ) → i < n → node_at w' i ≡ node_at w i
  node_same i m = node_kept w w' i (λ j x y. h.each j (omega arith))

  pub leaves_same : (i : ℕ) → leaves_from w' n i ≡ leaves_from w n i
  unfolding leaves_from
  leaves_same i = ap leaves_of (nodes_kept w w' (n - i) i (λ j x y. h.each j (omega arith)))

-- a copy behind them
module _ (w : List ℕ) (text k : ℕ) (src : List ℕ) (l : text + k ≤ length w) where
  pub fronted_copied : Fronted text w (copied w (text + k) src)
  unfolding copied
  fronted_copied =
      let m : ℕ = min (length src) (length w - (text + k)) in
      let front : List ℕ = take (text + k) w in
      let behind : List ℕ = drop (text + k + m) w in
      record {
        long = length-paste w (text + k) src m (omega arith) (omega arith);
        each = λ j x.
            let d : j < length front = omega (arith, length-take-le (text + k) w l) in
            let e : j < length (front ++ take m src) = omega (arith, length-append front (take m src)) in
            get_or-append (front ++ take m src) behind 0 j e ∙ get_or-append front (take m src) 0 j d
            ∙ get_or-take (text + k) w j 0 (omega arith);
      }

  pub drop_copied : drop text (copied w (text + k) src) ≡ copied (drop text w) k src
  unfolding copied
  drop_copied =
      let m : ℕ = min (length src) (length w - (text + k)) in
      let part : List ℕ = take m src in
      let behind : List ℕ = drop (text + k + m) w in
      let q : min (length src) (length (drop text w) - k) ≡ m = omega (arith, length-drop text w) in
      let z : text + (k + m) ≡ text + k + m = omega arith in
      let d : drop (k + m) (drop text w) ≡ behind = drop-drop (k + m) text w ∙ ap (λ (x : ℕ). drop x w) z in
      let t : take (text + k) w ++ part ++ behind ≡ take text w ++ (take k (drop text w) ++ part ++ behind) =
      rw (
        take-add text k w,
        append_assoc (take text w) (take k (drop text w)) part,
        append_assoc (take text w) (take k (drop text w) ++ part) behind,
      )
      in
      ap (drop text) t ∙ drop_at (take text w) (take k (drop text w) ++ part ++ behind) text (length-take-le text w (omega arith))
      ∙ rw (q, d)

-- the nodes in front, and behind them the tokens as they are left
module _ (w : List ℕ) {front : List ℕ} (text : ℕ) (behind : List ℕ) (e : front ≡ take text w) (l : text ≤ length w) where
  front_long : length front ≡ text
  front_long = ap length e ∙ length-take-le text w l

  front_each : (j : ℕ) → j < text → byte_at front j ≡ byte_at w j
  front_each j m = ap (λ (u : List ℕ). byte_at u j) e ∙ get_or-take text w j 0 m

  pub fronted_left : length behind ≡ length (drop text w) → Fronted text w (front ++ behind)
  fronted_left n =
      record {
        long = omega (arith, length-append front behind, front_long, length-drop text w);
        each = λ j m. get_or-append front behind 0 j (omega (arith, front_long)) ∙ front_each j m;
      }

  pub drop_left : drop text (front ++ behind) ≡ behind
  drop_left = drop_at front behind text front_long

  -- what is read behind the nodes
  pub part_left : {i k : ℕ} → i ≡ k → take i (drop text (front ++ behind)) ≡ take k behind
  part_left q = ap (take _) drop_left ∙ ap (λ (n : ℕ). take n behind) q

  -- n nodes of those in front
  module _ {nodes : List ℕ} (n : ℕ) (fits : node_size * n ≤ text) (is : nodes ≡ take (node_size * n) front) where
    count : length nodes / node_size ≡ n
    count = let q = ap length is ∙ length-take-le (node_size * n) front (omega (arith, front_long)) in omega arith

    nodes_each : (j : ℕ) → j < node_size * n → byte_at nodes j ≡ byte_at w j
    nodes_each j m = ap (λ (u : List ℕ). byte_at u j) is ∙ get_or-take (node_size * n) front j 0 m ∙ front_each j (omega arith)

    leaves_front : (i : ℕ) → leaves_from nodes (length nodes / node_size) i ≡ leaves_from w n i
    unfolding leaves_from
    leaves_front i = rw count (ap leaves_of (nodes_kept w nodes (n - i) i (λ j x y. nodes_each j (omega arith))))

    -- the new sentence
    pub formed_left : {place removed m limit r : ℕ} {b out : List ℕ} → out ≡ drop text w → NewSentence nodes (length nodes / node_size) place removed b m limit out behind r
        → NewSentence w n place removed b m limit (drop text w) (drop text (front ++ behind)) r
    formed_left o h =
        let q : nodes_from nodes n 0 ≡ nodes_from w n 0 = nodes_kept w nodes n 0 (λ j x y. nodes_each j (omega arith)) in
        rw drop_left (record { added = rw (count, q, o) at h.added })

    -- the leaves' tokens, copied to the beginning of other bytes
    pub gave_left : {from out part : List ℕ} {end i j k : ℕ} → Gave nodes (length nodes / node_size) 0 from 0 end i j behind → k ≡ token_size * j → k ≤ length behind → part ≡ take k behind
        → Gave w n 0 out 0 end i j (part ++ drop k out)
    gave_left {from} {out} {part} {end} {i} {j} {k} g q room c =
        let v : List Token = take (end - 0) (leaves_from nodes (length nodes / node_size) 0) in
        let u : behind ≡ token_bytes v ++ drop (token_size * j) from = g.added.is in
        let s : part ≡ token_bytes v = c ∙ rw (q, u) (take_at (token_bytes v) (drop (token_size * j) from) (token_size * j) (omega (arith, length_token_bytes v, g.added.count))) in
        let a : Added v out (part ++ drop k out) 0 j = record { is = rw (s, q); count = g.added.count } in
        record { added = rw (leaves_front 0) at a; rest = rw (leaves_front i, leaves_front 0) at g.rest }
