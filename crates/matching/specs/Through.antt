-- Going through the new nodes: the root first, then each node in its turn.
use Rattle.std.specs.Prelude.{ℕ, zero, suc, ◌+◌, ◌-◌, ◌≤◌, ◌<◌, ◌≡◌, refl, ◌⊎◌, List, length, get_or, set}
use Rattle.std.proofs.Common.{sym, ap, ◌∙◌, inl, inr, get_or-set_same, get_or-set_other, arith}
use Rattle.std.proofs.Math.Logic.{by_cases}
use Rattle.std.proofs.Math.Decide.{ℕ_discrete}
use Rattle.base.specs.Blocks.{zeros, byte_zeros}
use Rattle.grammar.specs.Forest.{Forest, size}
use Rattle.trees.specs.Nodes.{trees, back, leaf_of}
use Rattle.trees.specs.Coded.{node_at}
use Rattle.edits.specs.Keeping.{Edit, own, At, Node, Keeps}
use Rattle.edits.specs.Places.{at_number, at_some, at_below_parent, at_one, at_child, Side, Parent, at_up, Numbered, at_node}
use Rattle.edits.specs.One.{void_below}
use Rattle.matching.specs.Measure.{tree_in, Built, built_size, Measured, measured_end, Gauged, measured_kept}
use Rattle.matching.specs.Finding.{leaves_to, leaves_next, Leaved, Started, Numbers}
use Rattle.matching.specs.Handing.{Rising, Few, Handed}
use Rattle.matching.specs.Kids.{back_some}
use Rattle.matching.specs.Matching.{Matched, Status, Stepped, Turned, Ready, Counted, KeepsOne, Fronts, Carries, status_turn}

-- every entry is 0
pub record Blank (ms : List ℕ) : Type 0 where
  pub each : (z : ℕ) → get_or ms z 0 ≡ 0

pub blank_zeros : (ms : List ℕ) (n : ℕ) → ms ≡ zeros n → Blank ms
blank_zeros ms n e = record { each = λ z. ap (λ (u : List ℕ). get_or u z 0) e ∙ byte_zeros n z }

pub first_zero : (ms : List ℕ) (n : ℕ) → ms ≡ zeros n → get_or ms 0 0 ≡ 0
first_zero ms n e = (blank_zeros ms n e).each 0

pub blank_few : {n : ℕ} {ms : List ℕ} → Blank ms → Few n ms
blank_few h = record { each = λ z. omega (arith, h.each z) }

-- the only node of a tree that stands below none is its root
root_only : {F : Forest} {a m t : ℕ} {f : Forest} → trees F ≡ 1 → Node F a 0 m t f → (a ≡ 1) × (m ≡ 0)
root_only {F} {a} {m} {t} {f} e h = go (at_up h)
  where
    go : {u : ℕ} → Side 0 0 F 0 m f ⊎ Parent 1 0 0 0 F 0 m u f → (a ≡ 1) × (m ≡ 0)
    go (inl s) =
        let l : 1 ≤ size (back s.by F) = rw s.is at (at_some h) in
        let z : m ≡ 0 = omega (arith, s.child, back_some s.by F l, e) in
        let o : 1 ≤ size F = omega (arith, at_number h) in
        let h' : Node F a 0 0 t f = rw z at h in
        let d : Node F 1 0 0 0 F = At.here refl refl refl refl o in
        (at_child (omega arith) h' d, z)
    go (inr s) = absurd (omega (arith, (at_number s.node).0))

above_only : {e : Edit} {old new : Forest} {p : ℕ} → Keeps e old new 0 p → p ≡ 0
above_only (Keeps.above x y) = y
above_only (Keeps.full hn ho k s ln lo) = absurd (omega (arith, (at_number hn).0))
above_only (Keeps.void hn ho k zn zo) = absurd (omega (arith, (at_number hn).0))

module _ {rows w : List ℕ} {n base k : ℕ} {ends widths : List ℕ} {T : ℕ} {starts : List ℕ} (r : Ready rows w n base k ends widths T starts) (e : Edit) {ms₀ : List ℕ} (blank : Blank ms₀) (long : 1 ≤ length ms₀)
    (some : 1 ≤ n) where
  abbrev old : Forest
  old = tree_in rows w n 0

  abbrev new : Forest
  new = tree_in rows w k base

  old_root : Node old 1 0 0 0 old
  old_root = let l : 1 ≤ size old = omega (arith, built_size rows w n 0) in At.here refl refl refl refl l

  same_root : {b t : ℕ} {g : Forest} → Node old b 0 0 t g → own g ≡ own old
  same_root {b} {t} {g} d =
      let v : b ≡ 1 = at_child (omega arith) d old_root in
      let d' : Node old 1 0 0 t g = rw v at d in
      ap own (at_one d' old_root).forest

  old_width : get_or widths 0 0 ≡ own old
  old_width = r.old_measured.width 0 old_root (omega arith) (omega arith)

  root_width : {a m t : ℕ} {f : Forest} → Node new a 0 m t f → get_or widths base 0 ≡ own f
  root_width h = let z = root_only r.one_tree h in r.new_measured.width base h (omega (arith, z.0)) (omega (arith, z.0))

  -- the root is handed the old root's slot
  pub status_start : {ms : List ℕ} → Handed widths base 0 base ms₀ ms → Status e old new 0 ms
  status_start (Handed.given x y) =
      let same : get_or (set ms₀ (base - base) (0 + 1)) 0 0 ≡ 1 = let z : base - base ≡ 0 = omega arith in rw z (get_or-set_same ms₀ 0 1 0 long) in
      let other : (v : ℕ) → (v ≡ 0 → ⊥) → get_or (set ms₀ (base - base) (0 + 1)) v 0 ≡ 0 = λ v d. get_or-set_other ms₀ (base - base) v (0 + 1) 0 (λ u. d (omega arith)) ∙ blank.each v in
      record {
        done = λ a q m t v f h o l. absurd (omega (arith, (at_number h).0));
        void = λ a q m t v f h o l b.
            let d : q ≡ 0 = omega arith in
            let h' : Node new a 0 m t f = rw d at h in
            let z = root_only r.one_tree h' in
            let u : v ≡ 0 = omega arith in
            let h'' : Node new a 0 0 t f = rw z.1 at h' in
            let one : 1 ≤ 1 = omega arith in
            rw (u, same) (Matched.keeps one (Keeps.void h'' old_root (Keeps.above refl refl) b (sym old_width ∙ y)));
        full_left = λ a q m t v f h o l b. by_cases (ℕ_discrete v 0) (λ u. absurd (at_root a q m t v f h o u b x)) (λ u. other v u);
        void_left = λ a q m t v f h o l b. other v (λ u. omega (arith, at_below_parent (omega arith) h));
      }
    where
      at_root : (a q m t v : ℕ) (f : Forest) → Node new a q m t f → suc v ≡ a → v ≡ 0 → 1 ≤ own f → get_or widths base 0 ≡ 0 → ⊥
      at_root a q m t v f h o u b x = omega (arith, b, x, r.new_measured.width base h (omega (arith, o)) (omega (arith, o, u)))
  status_start (Handed.left nay) =
      record {
        done = λ a q m t v f h o l. absurd (omega (arith, (at_number h).0));
        void = λ a q m t v f h o l b.
            let d : q ≡ 0 = omega arith in
            let h' : Node new a 0 m t f = rw d at h in
            let z = root_only r.one_tree h' in
            let h'' : Node new a 0 0 t f = rw z.1 at h' in
            rw (blank.each v) (Matched.none (λ a' x. alone a t f h'' b a' x));
        full_left = λ a q m t v f h o l b. blank.each v;
        void_left = λ a q m t v f h o l b. blank.each v;
      }
    where
      alone : (a t : ℕ) (f : Forest) → Node new a 0 0 t f → own f ≡ 0 → (a' : ℕ) → Keeps e old new a a' → ⊥
      alone a t f h b a' x =
          let u = void_below h b x in
          let p : u.parent ≡ 0 = above_only u.keeps in
          let d : Node old a' 0 0 u.token u.forest = rw p at u.node in
          nay (root_width h ∙ b) (old_width ∙ sym (same_root d) ∙ u.none)

-- ---- the loop

-- the numbers of the first i new nodes were counted and matched, whatever the grammar and the edit are
pub record Through (w : List ℕ) (n base k : ℕ) (ends widths : List ℕ) (T : ℕ) (starts : List ℕ) (place removed inserted i t : ℕ) (ms : List ℕ) : Type 0 where
  pub counted : Counted w base i t
  pub status : (rows : List ℕ) (e : Edit) → Ready rows w n base k ends widths T starts → Numbers e place removed inserted → KeepsOne e (tree_in rows w n 0) (tree_in rows w k base)
      → Fronts e (tree_in rows w n 0) (tree_in rows w k base) → Carries e (tree_in rows w n 0) (tree_in rows w k base) → Status e (tree_in rows w n 0) (tree_in rows w k base) i ms

-- all were
pub record Matches (w : List ℕ) (n base k : ℕ) (ends widths : List ℕ) (T : ℕ) (starts : List ℕ) (place removed inserted : ℕ) (ms : List ℕ) : Type 0 where
  pub matched : (rows : List ℕ) (e : Edit) → Ready rows w n base k ends widths T starts → Numbers e place removed inserted → KeepsOne e (tree_in rows w n 0) (tree_in rows w k base)
      → Fronts e (tree_in rows w n 0) (tree_in rows w k base) → Carries e (tree_in rows w n 0) (tree_in rows w k base) → (i : ℕ) → i < k → Matched e (tree_in rows w n 0) (tree_in rows w k base) (suc i) (get_or ms i 0)

pub through_start : (w : List ℕ) (n base k : ℕ) (ends widths : List ℕ) (T : ℕ) (starts : List ℕ) (place removed inserted : ℕ) {ms₀ ms : List ℕ} → 1 ≤ n → 1 ≤ length ms₀ → Blank ms₀ → Handed widths base 0 base ms₀ ms
    → Through w n base k ends widths T starts place removed inserted 0 0 ms
through_start w n base k ends widths T starts place removed inserted l o b h =
    let z : base + 0 ≡ base = omega arith in
    record { counted = record { is = rw z (omega arith) }; status = λ rows e r s one fronts all. status_start r e b o l h }

-- of the first i nodes no more than i are leaves
leaves_few : (w : List ℕ) (base i : ℕ) → leaves_to w (base + i) ≤ leaves_to w base + i
leaves_few w base zero = let z : base + 0 ≡ base = omega arith in rw z (omega arith)
leaves_few w base (suc i) =
    let z : base + suc i ≡ base + i + 1 = omega arith in
    rw z (omega (arith, leaves_next w (base + i), leaves_few w base i, leaf_few (node_at w (base + i)).production))
  where
    leaf_few : (p : ℕ) → leaf_of p ≤ 1
    leaf_few zero = omega arith
    leaf_few (suc p) = omega arith

pub through_few : {w : List ℕ} {n base k : ℕ} {ends widths : List ℕ} {T : ℕ} {starts : List ℕ} {place removed inserted i t : ℕ} {ms : List ℕ} → Through w n base k ends widths T starts place removed inserted i t ms → t ≤ i
through_few {w} {base = base} {i = i} h = omega (arith, h.counted.is, leaves_few w base i)

-- a turn
pub through_turn : {w : List ℕ} {n base k : ℕ} {ends widths : List ℕ} {T : ℕ} {starts : List ℕ} {place removed inserted i t i' t' : ℕ} {ms ms' : List ℕ} → Through w n base k ends widths T starts place removed inserted i t ms
    → i < k → k ≤ length ms → Leaved w ends widths base (base + k) → Turned w ends widths n T base place removed inserted i t ms i' t' ms' → Through w n base k ends widths T starts place removed inserted i' t' ms'
through_turn {w} {base = base} {ends = ends} {widths = widths} {i = i} {t = t} h l long v x =
    record { counted = counted x; status = λ rows e r s one fronts all. status_turn r s one fronts all l long h.counted (h.status rows e r s one fronts all) x }
  where
    stepped : {i' t' : ℕ} → Stepped w base i t i' t' → Counted w base i' t'
    stepped g =
        let z : base + (i + 1) ≡ base + i + 1 = omega arith in
        record { is = rw (g.node, g.token, z) (omega (arith, h.counted.is, leaves_next w (base + i))) }

    counted : {n T place removed inserted i' t' : ℕ} {ms ms' : List ℕ} → Turned w ends widths n T base place removed inserted i t ms i' t' ms' → Counted w base i' t'
    counted (Turned.alone a b g) = stepped g
    counted (Turned.handed j a b c g) = stepped g
    counted (Turned.carried j a b g c d) = record { is = rw (d, g.end_is) (omega (arith, h.counted.is, v.each (base + i) (omega arith) (omega arith))) }

pub through_end : {w : List ℕ} {n base k : ℕ} {ends widths : List ℕ} {T : ℕ} {starts : List ℕ} {place removed inserted i t : ℕ} {ms : List ℕ} → Through w n base k ends widths T starts place removed inserted i t ms → k ≤ i
    → Matches w n base k ends widths T starts place removed inserted ms
through_end {w} {n} {base} {k} h l =
    record {
      matched = λ rows e r s one fronts all y o.
          let d : Numbered 1 0 0 0 (tree_in rows w k base) (suc y) = at_node (tree_in rows w k base) (suc y) (omega arith) (omega (arith, built_size rows w k base)) in
          (h.status rows e r s one fronts all).done (suc y) d.parent d.child d.token y d.forest d.node refl (omega arith);
    }

-- ---- from the beginning

-- for each new node the old one whose slot it keeps
pub record Matching (rows w : List ℕ) (n base k place removed inserted : ℕ) (ms : List ℕ) : Type 0 where
  pub matched : (e : Edit) → Numbers e place removed inserted → KeepsOne e (tree_in rows w n 0) (tree_in rows w k base) → Fronts e (tree_in rows w n 0) (tree_in rows w k base) → Carries e (tree_in rows w n 0) (tree_in rows w k base) → (i : ℕ) → i < k
      → Matched e (tree_in rows w n 0) (tree_in rows w k base) (suc i) (get_or ms i 0)

pub rising_new : (rows w : List ℕ) (n base : ℕ) {ends₀ widths₀ ends widths : List ℕ} → Gauged (tree_in rows w n base) base 0 ends₀ widths₀ ends widths → Rising ends base (base + n)
rising_new rows w n base g =
    record { low = λ y l k. (measured_end rows w n base g.measured y l k).0; high = λ y l k. (measured_end rows w n base g.measured y l k).1 }

-- the old tree's list begins at 0 and ends before the new one's
module _ (rows w : List ℕ) (n base k : ℕ) {ends₀ widths₀ ends₁ widths₁ ends widths : List ℕ} (g : Gauged (tree_in rows w n 0) 0 0 ends₀ widths₀ ends₁ widths₁)
    (h : Gauged (tree_in rows w k base) base 0 ends₁ widths₁ ends widths) (l : n ≤ base) where
  old_measured : Measured (tree_in rows w n 0) 0 0 ends widths
  old_measured = measured_kept g.measured h (omega (arith, built_size rows w n 0))

  pub rising_old : Rising ends 0 n
  rising_old =
      record {
        low = λ y a b. (measured_end rows w n 0 old_measured y a (omega arith)).0;
        high = λ y a b. let x = (measured_end rows w n 0 old_measured y a (omega arith)).1 in omega arith;
      }

  pub matched_all : {T : ℕ} {starts ms : List ℕ} {place removed inserted : ℕ} → Built rows w n 0 → Built rows w k base → trees (tree_in rows w k base) ≡ 1 → Started w n T starts
      → Matches w n base k ends widths T starts place removed inserted ms → Matching rows w n base k place removed inserted ms
  matched_all {T} {starts} b c d s m =
      let r : Ready rows w n base k ends widths T starts =
      record { old_built = b; new_built = c; old_measured = old_measured; new_measured = h.measured; started = s; one_tree = d } in
      record { matched = λ e u one fronts all. m.matched rows e r u one fronts all }
