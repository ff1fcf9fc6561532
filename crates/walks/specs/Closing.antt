-- After the walk: whether the header says what was found, whether the other slots are zero, and what the reader then answers.
use Rattle.std.specs.Prelude.{ℕ, ◌+◌, ◌-◌, ◌*◌, ◌≤◌, ◌<◌, Bool, true, false, ◌≡◌, refl, List, take, drop, replicate, Option, Some, None, MatchOption}
use Rattle.std.proofs.Common.{sym, ap, ◌∙◌, get_or-take, get_or-drop, take-add, drop_at, length-take-le, ⊎_elim, arith, ext_get_or}
use Rattle.std.proofs.Math.ListN.{length, length-take, length-drop}
use Rattle.std.specs.Bool.{then_some}
use Rattle.std.proofs.lemmas.List.{get_or-replicate, length-replicate}
use Rattle.base.specs.Choose.{never}
use Rattle.base.specs.Tells.{Tells, tells_no}
use Rattle.base.specs.Bytes.{byte_at, get16, le_bytes}
use Rattle.base.specs.Blocks.{zeros, length_zeros, byte_zeros}
use Rattle.grammar.specs.declared.Head.{Head}
use Rattle.grammar.specs.Grammar.{Grammar}
use Rattle.grammar.specs.Forest.{size}
use Rattle.grammar.specs.Rows.{grammar_in}
use Rattle.trees.specs.Area.{root_place, used_place, tokens_place, slot_size, max_slots, area_size, header_bytes, slot_at, Valid}
use Rattle.trees.specs.Nodes.{preorder, size_preorder}
use Rattle.trees.specs.Coded.{nodes_from, length_nodes}
use Rattle.trees.specs.Slots.{slot_byte, slot_is}
use Rattle.walks.specs.declared.Walk.{Walk}
use Rattle.walks.specs.Slots.{Known, sixteen}
use Rattle.walks.specs.Judging.{below}
use Rattle.walks.specs.Going.{going_end, going_one}
use Rattle.walks.specs.Reading.{leaf_count, leaves_few, Free, found_valid, valid_few, valid_found}
use Rattle.walks.specs.Stacked.{marks_in}
use Rattle.walks.specs.Walking.{Ended, Wandered}

-- ---- the header

-- the header has its mark and zeros, and says so many nodes and tokens
pub record Heads (b : List ℕ) (used tokens : ℕ) : Type 0 where
  pub is : slot_at b 0 ≡ header_bytes (get16 b root_place) used tokens

module _ (b : List ℕ) (used tokens : ℕ) where
  heads_byte : Heads b used tokens → (i : ℕ) → i < slot_size → byte_at b (slot_size * 0 + i) ≡ byte_at (header_bytes (get16 b root_place) used tokens) i
  heads_byte h i l = sym (slot_byte b 0 i l) ∙ ap (λ (w : List ℕ). byte_at w i) h.is

  pub heads_mark : (byte_at b 0 ≡ 0x54 → ⊥) → Tells (Heads b used tokens) false
  unfolding header_bytes
  heads_mark n = tells_no (λ h. n (heads_byte h 0 (omega arith)))

  pub heads_mark' : (byte_at b 1 ≡ 0x52 → ⊥) → Tells (Heads b used tokens) false
  unfolding header_bytes
  heads_mark' n = tells_no (λ h. n (heads_byte h 1 (omega arith)))

  pub heads_used : (v : ℕ) → v ≡ get16 b used_place → used < 65536 → (v ≡ used → ⊥) → Tells (Heads b used tokens) false
  unfolding header_bytes le_bytes
  heads_used v e l n = tells_no (λ h. n (omega (arith, e, l, heads_byte h 4 (omega arith), heads_byte h 5 (omega arith))))

  pub heads_tokens : (v : ℕ) → v ≡ get16 b tokens_place → tokens < 65536 → (v ≡ tokens → ⊥) → Tells (Heads b used tokens) false
  unfolding header_bytes le_bytes
  heads_tokens v e l n = tells_no (λ h. n (omega (arith, e, l, heads_byte h 6 (omega arith), heads_byte h 7 (omega arith))))

  -- the last eight bytes decide
  pub heads_told : (u v : ℕ) (r : Bool) → Known b → slot_size ≤ length b → byte_at b 0 ≡ 0x54 → byte_at b 1 ≡ 0x52 → u ≡ get16 b used_place → u ≡ used → v ≡ get16 b tokens_place → v ≡ tokens
      → Tells (take 8 (drop 8 b) ≡ zeros (length (take 8 (drop 8 b)))) r → Tells (Heads b used tokens) r
  unfolding header_bytes le_bytes zeros
  heads_told u v r k l a a' e e' o o' h = record { yes = λ t. good (h.yes t); no = λ f y. h.no f (bad y) }
    where
      eight : length (take 8 (drop 8 b)) ≡ 8
      eight = length-take 8 (drop 8 b) ∙ omega (arith, length-drop 8 b)

      part : (i : ℕ) → i < 8 → byte_at (take 8 (drop 8 b)) i ≡ byte_at b (8 + i)
      part i w = get_or-take 8 (drop 8 b) i 0 (omega arith) ∙ get_or-drop 8 b i 0

      good : take 8 (drop 8 b) ≡ zeros (length (take 8 (drop 8 b))) → Heads b used tokens
      good z =
          let y : (i : ℕ) → i < 8 → byte_at b (8 + i) ≡ 0 = λ i w. sym (part i w) ∙ ap (λ (x : List ℕ). byte_at x i) z ∙ byte_zeros (length (take 8 (drop 8 b))) i in
          let c : List ℕ = header_bytes (get16 b root_place) used tokens in
          let g : used ≡ get16 b used_place = sym e' ∙ e in
          let g' : tokens ≡ get16 b tokens_place = sym o' ∙ o in
          record {
            is = slot_is b c 0 l refl (sixteen (λ i. byte_at b (slot_size * 0 + i) ≡ byte_at c i) a a'
                (omega (arith, k.small 2)) (omega (arith, k.small 2, k.small 3)) (omega (arith, g, k.small 4)) (omega (arith, g, k.small 4, k.small 5))
                (omega (arith, g', k.small 6)) (omega (arith, g', k.small 6, k.small 7))
                (y 0 (omega arith)) (y 1 (omega arith)) (y 2 (omega arith)) (y 3 (omega arith)) (y 4 (omega arith)) (y 5 (omega arith)) (y 6 (omega arith)) (y 7 (omega arith)));
          }

      bad : Heads b used tokens → take 8 (drop 8 b) ≡ zeros (length (take 8 (drop 8 b)))
      bad y =
          let w : take 8 (drop 8 b) ≡ drop 8 (take 16 b) = sym (ap (drop 8) (take-add 8 8 b) ∙ drop_at (take 8 b) (take 8 (drop 8 b)) 8 (length-take-le 8 b (omega arith))) in
          let x : take 8 (drop 8 b) ≡ zeros 8 = (w ∙ ap (drop 8) y.is) in
          x ∙ ap zeros (sym eight)

-- ---- the slots that were not visited

-- slot s was visited, or it is zero
pub record Clear (b m : List ℕ) (s : ℕ) : Type 0 where
  pub zero : byte_at m s ≡ 0 → slot_at b s ≡ zeros slot_size

-- so are the slots below s
pub record ClearTo (b m : List ℕ) (s : ℕ) : Type 0 where
  pub each : (x : ℕ) → 1 ≤ x → x < s → Clear b m x

-- so many slots are looked at at once
abbrev pub visited_run : ℕ
visited_run = 64

-- the n slots from s on were visited
pub record VisitedFrom (m : List ℕ) (s n : ℕ) : Type 0 where
  pub each : (d : ℕ) → d < n → byte_at m (s + d) ≡ 1

-- as the code compares a run of marks with ones
pub visited_told : (m : List ℕ) (s n : ℕ) (r : Bool) → s + n ≤ length m → Tells (take (s + n - s) (drop s m) ≡ replicate n 1) r → Tells (VisitedFrom m s n) r
visited_told m s n r l h = record { yes = λ t. record { each = λ d o. sym (part d o) ∙ ap (λ (u : List ℕ). byte_at u d) (h.yes t) ∙ get_or-replicate n d 1 0 o }; no = λ f v. h.no f (same v) }
  where
    q : s + n - s ≡ n
    q = omega arith

    part : (d : ℕ) → d < n → byte_at (take (s + n - s) (drop s m)) d ≡ byte_at m (s + d)
    part d o = get_or-take (s + n - s) (drop s m) d 0 (omega arith) ∙ get_or-drop s m d 0

    same : VisitedFrom m s n → take (s + n - s) (drop s m) ≡ replicate n 1
    same v =
        let e : length (take (s + n - s) (drop s m)) ≡ length (replicate {A = ℕ} n 1) = length-take (s + n - s) (drop s m) ∙ omega (arith, length-drop s m, length-replicate {A = ℕ} n 1) in
        ext_get_or 0 (take (s + n - s) (drop s m)) (replicate n 1) e (λ d o. let w : d < n = omega (arith, o, length-take (s + n - s) (drop s m)) in part d w ∙ v.each d w ∙ sym (get_or-replicate n d 1 0 w))

-- the r slots from s on are slots of the area, and clear
pub record Run (b m : List ℕ) (s S r : ℕ) : Type 0 where
  pub few : s + r ≤ S + 1
  pub clear : (d : ℕ) → d < r → Clear b m (s + d)

module _ (b m : List ℕ) where
  -- slot s alone
  pub run_one : (s S : ℕ) (u : Bool) → s ≤ S → Tells (Clear b m s) u → MatchOption (then_some u 1) (Clear b m s → ⊥) (λ r. (0 < r) × Run b m s S r)
  run_one s S true l h = (omega arith, record { few = omega arith; clear = λ d o. let e : s + d ≡ s = omega arith in rw e (h.yes refl) })
  run_one s S false l h = h.no refl

  -- sixteen slots at once
  pub run_zero : (s S : ℕ) → s + 16 ≤ S + 1 → take (slot_size * s + 256 - slot_size * s) (drop (slot_size * s) b) ≡ zeros (length (take (slot_size * s + 256 - slot_size * s) (drop (slot_size * s) b)))
      → slot_size * s + 256 ≤ length b → Run b m s S 16
  run_zero s S l z n = record { few = omega arith; clear = λ d o. record { zero = λ _. at d o } }
    where
      part : List ℕ
      part = take (slot_size * s + 256 - slot_size * s) (drop (slot_size * s) b)

      byte : (i : ℕ) → i < 256 → byte_at b (slot_size * s + i) ≡ 0
      byte i o =
          let q : byte_at part i ≡ byte_at b (slot_size * s + i) = get_or-take (slot_size * s + 256 - slot_size * s) (drop (slot_size * s) b) i 0 (omega arith) ∙ get_or-drop (slot_size * s) b i 0 in
          sym q ∙ ap (λ (u : List ℕ). byte_at u i) z ∙ byte_zeros (length part) i

      at : (d : ℕ) → d < 16 → slot_at b (s + d) ≡ zeros slot_size
      at d o =
          slot_is b (zeros slot_size) (s + d) (omega arith) (length_zeros slot_size)
          (λ i y. let q : slot_size * (s + d) + i ≡ slot_size * s + (slot_size * d + i) = omega arith in ap (byte_at b) q ∙ byte (slot_size * d + i) (omega arith) ∙ sym (byte_zeros slot_size i))

pub clear_run : {m : List ℕ} {s S r : ℕ} (b : List ℕ) → Run b m s S r → ClearTo b m s → ClearTo b m (s + r)
clear_run {m} {s} b h k =
    record {
      each = λ x a c. ⊎_elim (λ l. k.each x a l)
          (λ l. let e : s + (x - s) ≡ x = omega arith in rw e at (h.clear (x - s) (omega arith)))
          (below x s);
    }

-- ---- the answer

-- the tree of the first nodes of w, or no valid tree
pub data Reads (G : Grammar) (S : ℕ) (b w : List ℕ) : Option ℕ → Type 0 where
  tree : {n : ℕ} (v : Valid G S b) → preorder v.tree ≡ nodes_from w n 0 → n ≡ size v.tree → Reads G S b w (Some n)
  none : (Valid G S b → ⊥) → Reads G S b w None

module _ {rows : List ℕ} {head : Head} {S : ℕ} {b w : List ℕ} where
  -- the walk went astray
  pub reads_astray : {r : Option Walk} → Wandered rows head S b w r → r ≡ None → Reads (grammar_in rows head) S b w None
  reads_astray (Wandered.through l h) e = never (cc)
  reads_astray (Wandered.astray h) e = Reads.none (λ v. h.no (preorder v.tree) (valid_found v).walks (valid_found v).once (valid_few v))

  module _ {r : Option Walk} {k : Walk} (h : Wandered rows head S b w r) (e : r ≡ Some k) where
    ended : Ended rows head S b w k.nodes k.leaves
    ended = go h e
      where
        go : {r : Option Walk} → Wandered rows head S b w r → r ≡ Some k → Ended rows head S b w k.nodes k.leaves
        go (Wandered.through {k = j} l h) e = let q : j ≡ k = cc in rw q at h
        go (Wandered.astray h) e = never (cc)

    pub wandered_few : (k.nodes ≤ S) × (k.leaves ≤ k.nodes)
    wandered_few = (go h e, omega (arith, ended.counted, leaves_few (nodes_from w k.nodes 0), length_nodes w k.nodes 0))
      where
        go : {r : Option Walk} → Wandered rows head S b w r → r ≡ Some k → k.nodes ≤ S
        go (Wandered.through {k = j} l h) e = let q : j ≡ k = cc in rw q at l
        go (Wandered.astray h) e = never (cc)

    -- the nodes of a valid tree are those that were written
    same : (v : Valid (grammar_in rows head) S b) → preorder v.tree ≡ nodes_from w k.nodes 0
    same v = going_one (nodes_from w k.nodes 0) (preorder v.tree) ended.going (valid_found v).walks

    pub reads_header : (Heads b k.nodes k.leaves → ⊥) → Reads (grammar_in rows head) S b w None
    reads_header n =
        Reads.none (λ v. let q = same v in
        let o : slot_at b 0 ≡ header_bytes (get16 b root_place) (length (nodes_from w k.nodes 0)) (leaf_count (nodes_from w k.nodes 0)) = rw q at (valid_found v).header in
        n (record { is = rw (← length_nodes w k.nodes 0, ended.counted) o }))

    reads_spoilt : (m : List ℕ) → m ≡ marks_in S w → (ClearTo b m (S + 1) → ⊥) → Reads (grammar_in rows head) S b w None
    reads_spoilt m q n =
        let k' : ClearTo b (marks_in S w) (S + 1) → ⊥ = rw q at n in
        Reads.none (λ v. let f : Free S b (nodes_from w k.nodes 0) = rw (same v) at (valid_found v).free in
        k' (record { each = λ x a c. record { zero = λ z. f.zero x a (omega arith) (λ y. omega (arith, z, ended.marked.marked x y)) } }))

    reads_tree : 1 ≤ S → S ≤ max_slots → length b ≡ area_size S → Heads b k.nodes k.leaves → (m : List ℕ) → m ≡ marks_in S w → ClearTo b m (S + 1) → Reads (grammar_in rows head) S b w (Some k.nodes)
    reads_tree o few long hd m e h =
        let cl : ClearTo b (marks_in S w) (S + 1) = rw e at h in
        let es = nodes_from w k.nodes 0 in
        let q : slot_at b 0 ≡ header_bytes (get16 b root_place) (length (nodes_from w k.nodes 0)) (leaf_count (nodes_from w k.nodes 0)) = rw (length_nodes w k.nodes 0, ← ended.counted) hd.is in
        let f : Free S b (nodes_from w k.nodes 0) = record { zero = λ x a c y. (cl.each x a (omega arith)).zero (ended.marked.free x a y) } in
        let v = found_valid o few long (record { walks = going_end es ended.going; once = ended.marked.once; header = q; free = f }) in
        Reads.tree v.valid v.nodes (sym (length_nodes w k.nodes 0) ∙ ap length (sym v.nodes) ∙ size_preorder v.valid.tree)

    -- the slots that were not visited decide
    pub reads_told : 1 ≤ S → S ≤ max_slots → length b ≡ area_size S → Heads b k.nodes k.leaves → (m : List ℕ) → m ≡ marks_in S w → (u : Bool) → Tells (ClearTo b m (S + 1)) u → Reads (grammar_in rows head) S b w (then_some u k.nodes)
    reads_told o few long hd m e true c = reads_tree o few long hd m e (c.yes refl)
    reads_told o few long hd m e false c = reads_spoilt m e (c.no refl)
