-- What the walk of an area is to find: an area is a valid tree exactly if its walk from the root ends, the slots visited are different, the header counts the nodes
-- and the leaves, and the other slots are zero. It is the tree of those nodes, and an area has one tree only.
use Rattle.std.specs.Prelude.{ℕ, zero, suc, ◌+◌, ◌*◌, ◌≤◌, ◌<◌, ◌≡◌, refl, length}
use Rattle.std.proofs.Common.{sym, ap, ◌∙◌, length-append, arith}
use mathlib.Core.List.{List, [], ◌∷◌, ◌++◌, append-nil, Memᴰ}
use Rattle.base.specs.Bytes.{byte_at, get16, le_bytes}
use Rattle.base.specs.Blocks.{zeros}
use Rattle.grammar.specs.Each.{Each}
use Rattle.grammar.specs.Grammar.{Grammar}
use Rattle.grammar.specs.Forest.{Forest, size, yield, Derives}
use Rattle.trees.specs.Area.{root_place, used_place, tokens_place, slot_size, max_slots, area_size, header_bytes, slot_at, top, slots, Distinct, Linked, Area, Valid}
use Rattle.trees.specs.Members.{pigeon}
use Rattle.trees.specs.Nodes.{Node, preorder, leaf_of, no_leaf, size_preorder}
use Rattle.trees.specs.Spread.{slots_of, slots_append, length_slots}
use Rattle.trees.specs.Slots.{slot_byte}
use Rattle.walks.specs.Frames.{Frame, frame, Within, Walks, Grown, walks_grown, linked_walks, linked_one, rule_positive, top_small}

-- how many leaves there are
abbrev pub leaf_count : List Node → ℕ
leaf_count [] = 0
leaf_count (e ∷ es) = leaf_of e.production + leaf_count es

pub leaves_append : (es fs : List Node) → leaf_count (es ++ fs) ≡ leaf_count es + leaf_count fs
leaves_append [] fs = omega arith
leaves_append (e ∷ es) fs = omega (arith, leaves_append es fs)

-- ---- the nodes of a forest: in which slots, and how many leaves

slots_preorder : (F : Forest) → slots_of (preorder F) ≡ slots F
slots_preorder Forest.nil = refl
slots_preorder (Forest.leaf s a g r) = ap (λ (l : List ℕ). s ∷ l) (slots_preorder r)
slots_preorder (Forest.node s M p k r) = rw (slots_append (preorder k) (preorder r), slots_preorder k, slots_preorder r)

leaves_preorder : {G : Grammar} {xs : List ℕ} {F : Forest} → Derives G xs F → leaf_count (preorder F) ≡ length (yield F)
leaves_preorder Derives.nil = refl
leaves_preorder (Derives.leaf t d) = omega (arith, leaves_preorder d)
leaves_preorder (Derives.node {p = p} {k = k} {r = r} t dk d) =
    omega (arith, no_leaf p (rule_positive t), leaves_append (preorder k) (preorder r), length-append (yield k) (yield r), leaves_preorder dk, leaves_preorder d)

pub leaves_few : (es : List Node) → leaf_count es ≤ length es
leaves_few [] = omega arith
leaves_few (e ∷ es) = omega (arith, few e.production, leaves_few es)
  where
    few : (p : ℕ) → leaf_of p ≤ 1
    few zero = omega arith
    few (suc p) = omega arith

-- ---- the header

-- the header says this root, so many nodes and so many tokens
pub record Header (b : List ℕ) (r n k : ℕ) : Type 0 where
  pub root : get16 b root_place ≡ r
  pub used : get16 b used_place ≡ n
  pub tokens : get16 b tokens_place ≡ k

pub header_says : (b : List ℕ) {root used tokens : ℕ} → root < 65536 → used < 65536 → tokens < 65536 → slot_at b 0 ≡ header_bytes root used tokens → Header b root used tokens
unfolding header_bytes le_bytes
header_says b {root} {used} {tokens} r u t h =
    let y : (i : ℕ) → i < slot_size → byte_at b (slot_size * 0 + i) ≡ byte_at (header_bytes root used tokens) i = λ i l. sym (slot_byte b 0 i l) ∙ ap (λ (w : List ℕ). byte_at w i) h in
    record {
      root = omega (arith, r, y 2 (omega arith), y 3 (omega arith));
      used = omega (arith, u, y 4 (omega arith), y 5 (omega arith));
      tokens = omega (arith, t, y 6 (omega arith), y 7 (omega arith));
    }

-- ---- the walk from the root

abbrev pub root_frame : Grammar → List ℕ → Frame
root_frame G b = frame (get16 b root_place) 0 (G.start ∷ [])

-- the slots that were not visited are zero
pub record Free (S : ℕ) (b : List ℕ) (es : List Node) : Type 0 where
  pub zero : (s : ℕ) → 1 ≤ s → s ≤ S → (Memᴰ s (slots_of es) → ⊥) → slot_at b s ≡ zeros slot_size

-- the walk ends with these nodes, and the rest of the area is as it should be
pub record Found (G : Grammar) (S : ℕ) (b : List ℕ) (es : List Node) : Type 0 where
  pub walks : Walks G S b (root_frame G b ∷ []) es
  pub once : Distinct (slots_of es)
  pub header : slot_at b 0 ≡ header_bytes (get16 b root_place) (length es) (leaf_count es)
  pub free : Free S b es

-- a valid tree with these nodes
pub record TreeOf (G : Grammar) (S : ℕ) (b : List ℕ) (es : List Node) : Type 0 where
  pub valid : Valid G S b
  pub nodes : preorder valid.tree ≡ es

module _ {G : Grammar} {S : ℕ} {b : List ℕ} where
  pub found_valid : {es : List Node} → 1 ≤ S → S ≤ max_slots → length b ≡ area_size S → Found G S b es → TreeOf G S b es
  found_valid {es} o m l h = go (walks_grown h.walks)
    where
      area : (F : Forest) → Linked b 0 F → Derives G (G.start ∷ []) F → top F ≡ get16 b root_place → Each (Within S) (slots F) → es ≡ preorder F → Area S F b
      area F k d t w e =
          let q : slots_of es ≡ slots F = ap slots_of e ∙ slots_preorder F in
          let n : length es ≡ size F = ap length e ∙ size_preorder F in
          let y : leaf_count es ≡ length (yield F) = ap leaf_count e ∙ leaves_preorder d in
          record {
            long = l;
            header = rw (t, ← n, ← y) h.header;
            within = w;
            once = rw q at h.once;
            linked = k;
            free = λ s a c f. h.free.zero s a c (rw q f);
          }

      go : Grown G S b (root_frame G b ∷ []) es → TreeOf G S b es
      go (Grown.cons F k d t w e Grown.nil) =
          let q : es ≡ preorder F = e ∙ append-nil (preorder F) in
          record { valid = record { some = o; few = m; tree = F; derives = d; area = area F k d t w q }; nodes = sym q }

  pub valid_few : (v : Valid G S b) → length (preorder v.tree) ≤ S
  valid_few v = let q = slots_preorder v.tree in omega (arith, pigeon S (slots v.tree) v.area.within v.area.once, length_slots v.tree, size_preorder v.tree)

  pub valid_header : (v : Valid G S b) → Header b (top v.tree) (size v.tree) (length (yield v.tree))
  valid_header v =
      header_says b (top_small v.tree v.few v.area.within)
      (omega (arith, v.few, valid_few v, size_preorder v.tree))
      (omega (arith, v.few, valid_few v, leaves_preorder v.derives, leaves_few (preorder v.tree)))
      v.area.header

  pub valid_found : (v : Valid G S b) → Found G S b (preorder v.tree)
  valid_found v =
      let F = v.tree in
      let q = slots_preorder F in
      let t : top F ≡ get16 b root_place = sym (valid_header v).root in
      record {
        walks = rw (append-nil (preorder F), t) at (linked_walks v.few v.area.linked v.derives v.area.within Walks.nil);
        once = rw q v.area.once;
        header = rw (← t, size_preorder F, leaves_preorder v.derives) v.area.header;
        free = record { zero = λ s a c f. v.area.free s a c (rw q at f) };
      }

  -- "one derivation tree": the area's bytes settle it
  pub valid_one : (u v : Valid G S b) → u.tree ≡ v.tree
  valid_one u v =
      linked_one u.few u.derives v.derives u.area.linked v.area.linked u.area.within v.area.within
      (sym (valid_header u).root ∙ (valid_header v).root)
