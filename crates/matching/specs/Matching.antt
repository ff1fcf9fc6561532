-- Which old node's slot each new node keeps, found node by node in preorder.
use Rattle.std.specs.Prelude.{Option, None, Some, ℕ, zero, suc, ◌+◌, ◌-◌, ◌≤◌, ◌<◌, ◌≡◌, refl, ◌⊎◌, List, length, get_or, set}
use Rattle.std.proofs.Common.{sym, ap, ◌∙◌, inl, inr, get_or-set_same, get_or-set_other, arith}
use Rattle.std.proofs.Math.Logic.{by_cases}
use Rattle.std.proofs.Math.Decide.{ℕ_discrete, dec_lt}
use Rattle.grammar.specs.Forest.{Forest}
use Rattle.trees.specs.Nodes.{trees, back, leaf_of}
use Rattle.trees.specs.Coded.{node_at}
use Rattle.edits.specs.Keeping.{Edit, symbol, own, below, Node, Keeps}
use Rattle.edits.specs.Places.{tree_size, at_number, at_token, at_below_parent, at_one, Numbered, at_node}
use Rattle.edits.specs.One.{keeps_node, void_below}
use Rattle.notes.specs.Views.{entry_of}
use Rattle.matching.specs.Measure.{tree_in, Built, built_size, Measured, stands}
use Rattle.matching.specs.Finding.{leaves_to, first_token, all_tokens, Started, Numbers, kept_was, was_kept, Sourced}
use Rattle.matching.specs.Handing.{kid, HandedAll}
use Rattle.matching.specs.Carrying.{in_subtree, InRow}
use Rattle.matching.specs.Kids.{kid_node, kid_width, kid_reach, kid_is, kid_parent, kid_at, kid_few, child_few}

-- the number of the old node whose slot node a' keeps, or 0
pub data Matched (e : Edit) (old new : Forest) (a' : ℕ) : ℕ → Type 0 where
  keeps : {a : ℕ} → 1 ≤ a → Keeps e old new a' a → Matched e old new a' a
  none : ((a : ℕ) → Keeps e old new a' a → ⊥) → Matched e old new a' 0

-- the new nodes up to number i were gone through: those are matched, and so are their children without tokens; of the others the entries are 0
pub record Status (e : Edit) (old new : Forest) (i : ℕ) (ms : List ℕ) : Type 0 where
  pub done : (a q m t y : ℕ) (f : Forest) → Node new a q m t f → suc y ≡ a → a ≤ i → Matched e old new a (get_or ms y 0)
  pub void : (a q m t y : ℕ) (f : Forest) → Node new a q m t f → suc y ≡ a → q ≤ i → own f ≡ 0 → Matched e old new a (get_or ms y 0)
  pub full_left : (a q m t y : ℕ) (f : Forest) → Node new a q m t f → suc y ≡ a → i < a → 1 ≤ own f → get_or ms y 0 ≡ 0
  pub void_left : (a q m t y : ℕ) (f : Forest) → Node new a q m t f → suc y ≡ a → i < q → own f ≡ 0 → get_or ms y 0 ≡ 0

-- ---- what the edit doesn't touch

-- a node that starts with token t of the new sentence and has u tokens: it has none, or starts behind the inserted ones, or the token behind it is before the place, too
pub data Apart (place inserted t u : ℕ) : Type 0 where
  void : u ≡ 0 → Apart place inserted t u
  after : place + inserted ≤ t → Apart place inserted t u
  before : t + u < place → Apart place inserted t u

-- ---- what a node with tokens looks for

-- entry i after the search of the new node at index base + i, which starts with token t
pub data Seeks (w widths : List ℕ) (n T base place removed inserted i t : ℕ) (ms : List ℕ) : List ℕ → Type 0 where
  void : get_or widths (base + i) 0 ≡ 0 → Seeks w widths n T base place removed inserted i t ms ms
  full : {v : Option ℕ} → (get_or widths (base + i) 0 ≡ 0 → ⊥) → Sourced w widths n T place removed inserted t (node_at w (base + i)).symbol v
      → Seeks w widths n T base place removed inserted i t ms (set ms i (entry_of v))
  front : t < place → Seeks w widths n T base place removed inserted i t ms (set ms i (i + 1))

-- ---- its turn

-- the loop goes on behind node i alone, at node i' with token t'
pub record Stepped (w : List ℕ) (base i t i' t' : ℕ) : Type 0 where
  pub node : i' ≡ i + 1
  pub token : t' ≡ t + leaf_of (node_at w (base + i)).production

-- the subtree of node i, which starts with token t, ends before node `stop`, and the edit doesn't touch it
pub record Reach (ends widths : List ℕ) (base place inserted i t stop : ℕ) : Type 0 where
  pub end_is : base + stop ≡ get_or ends (base + i) 0
  pub low : i < stop
  pub apart : Apart place inserted t (get_or widths (base + i) 0)

-- that node, if one is told
abbrev pub Reached : (ends widths : List ℕ) (base place inserted i t : ℕ) → Option ℕ → Type 0
Reached ends widths base place inserted i t (Some stop) = Reach ends widths base place inserted i t stop
Reached ends widths base place inserted i t None = Unit {0}

-- after the turn the loop goes on at node i' with token t'
pub data Turned (w ends widths : List ℕ) (n T base place removed inserted i t : ℕ) (ms : List ℕ) : ℕ → ℕ → List ℕ → Type 0 where
  alone : {i' t' : ℕ} {mid : List ℕ} → Seeks w widths n T base place removed inserted i t ms mid → get_or mid i 0 ≡ 0 → Stepped w base i t i' t'
      → Turned w ends widths n T base place removed inserted i t ms i' t' mid
  handed : {i' t' : ℕ} {mid ms' : List ℕ} (j : ℕ) → Seeks w widths n T base place removed inserted i t ms mid → get_or mid i 0 ≡ suc j → HandedAll ends widths base (base + i) j mid ms' → Stepped w base i t i' t'
      → Turned w ends widths n T base place removed inserted i t ms i' t' ms'
  carried : {i' t' : ℕ} {mid ms' : List ℕ} (j : ℕ) → Seeks w widths n T base place removed inserted i t ms mid → get_or mid i 0 ≡ suc j → Reach ends widths base place inserted i t i' → InRow mid i i' (suc j) ms'
      → t' ≡ t + get_or widths (base + i) 0 → Turned w ends widths n T base place removed inserted i t ms i' t' ms'

-- it goes forward
pub turned_low : {w ends widths : List ℕ} {n T base place removed inserted i t i' t' : ℕ} {ms ms' : List ℕ} → Turned w ends widths n T base place removed inserted i t ms i' t' ms' → i < i'
turned_low (Turned.alone x z g) = omega (arith, g.node)
turned_low (Turned.handed j x z y g) = omega (arith, g.node)
turned_low (Turned.carried j x z g y v) = g.low

module _ {w widths : List ℕ} {n T base place removed inserted i t : ℕ} {ms : List ℕ} where
  pub seeks_void : (v : ℕ) → v ≡ get_or widths (base + i) 0 → v ≡ 0 → Seeks w widths n T base place removed inserted i t ms ms
  seeks_void v e z = Seeks.void (sym e ∙ z)

  pub seeks_full : {ms' : List ℕ} (u x : ℕ) (v : Option ℕ) → u ≡ get_or widths (base + i) 0 → (u ≡ 0 → ⊥) → x ≡ (node_at w (base + i)).symbol → Sourced w widths n T place removed inserted t x v → ms' ≡ set ms i (entry_of v)
      → Seeks w widths n T base place removed inserted i t ms ms'
  seeks_full u x v e z f h k = rw k (Seeks.full (λ o. z (e ∙ o)) (rw f at h))

  pub seeks_front : {ms' : List ℕ} → t < place → ms' ≡ set ms i (i + 1) → Seeks w widths n T base place removed inserted i t ms ms'
  seeks_front l k = rw k (Seeks.front l)

  pub turned_zero : {ends mid : List ℕ} {i' t' : ℕ} → Seeks w widths n T base place removed inserted i t ms mid → entry_of None ≡ get_or mid i 0 → Stepped w base i t i' t'
      → Turned w ends widths n T base place removed inserted i t ms i' t' mid
  turned_zero h e g = Turned.alone h (sym e) g

  pub turned_some : {ends mid ms' : List ℕ} {i' t' : ℕ} (j : ℕ) → Seeks w widths n T base place removed inserted i t ms mid → entry_of (Some j) ≡ get_or mid i 0 → HandedAll ends widths base (base + i) j mid ms' → Stepped w base i t i' t'
      → Turned w ends widths n T base place removed inserted i t ms i' t' ms'
  turned_some j h e x g = let o : j + 1 ≡ suc j = omega arith in Turned.handed j h (sym e ∙ o) x g

  pub turned_row : {ends mid ms' : List ℕ} {i' : ℕ} (j u : ℕ) → Seeks w widths n T base place removed inserted i t ms mid → entry_of (Some j) ≡ get_or mid i 0 → Reach ends widths base place inserted i t i'
      → InRow mid i i' (j + 1) ms' → u ≡ get_or widths (base + i) 0 → Turned w ends widths n T base place removed inserted i t ms i' (t + u) ms'
  turned_row j u h e g x f =
      let o : j + 1 ≡ suc j = omega arith in
      Turned.carried j h (sym e ∙ o) g (rw o at x) (ap (λ (y : ℕ). t + y) f)

-- what the turns stand on: both lists are trees, both were measured, and the old tree's tokens were marked
pub record Ready (rows w : List ℕ) (n base k : ℕ) (ends widths : List ℕ) (T : ℕ) (starts : List ℕ) : Type 0 where
  pub old_built : Built rows w n 0
  pub new_built : Built rows w k base
  pub old_measured : Measured (tree_in rows w n 0) 0 0 ends widths
  pub new_measured : Measured (tree_in rows w k base) base 0 ends widths
  pub started : Started w n T starts
  pub one_tree : trees (tree_in rows w k base) ≡ 1

-- of the nodes from `base` on, t of the first i are leaves
pub record Counted (w : List ℕ) (base i t : ℕ) : Type 0 where
  pub is : leaves_to w base + t ≡ leaves_to w (base + i)

-- no new node keeps two slots
abbrev pub KeepsOne : Edit → Forest → Forest → Type 0
KeepsOne e old new = (a' a b : ℕ) → Keeps e old new a' a → Keeps e old new a' b → a ≡ b

-- a new node that starts before the place keeps the slot of the old one of its number
abbrev pub Fronts : Edit → Forest → Forest → Type 0
Fronts e old new = (a q m t : ℕ) (f : Forest) → Node new a q m t f → t < e.place → Keeps e old new a a

-- a kept node that the edit doesn't touch carries its subtree along
abbrev pub Carries : Edit → Forest → Forest → Type 0
Carries e old new =
    (a' a q m t : ℕ) (f : Forest) → Keeps e old new a' a → Node new a' q m t f → Apart e.place (length e.inserted) t (own f) → (c : ℕ) → c < tree_size f → Keeps e old new (a' + c) (a + c)

matched_none : {e : Edit} {old new : Forest} {a' v : ℕ} → Matched e old new a' v → v ≡ 0 → (a : ℕ) → Keeps e old new a' a → ⊥
matched_none (Matched.keeps l k) z a x = omega arith
matched_none (Matched.none n) z a x = n a x

matched_some : {e : Edit} {old new : Forest} {a' v j : ℕ} → Matched e old new a' v → v ≡ suc j → Keeps e old new a' (suc j)
matched_some (Matched.keeps l k) z = rw z at k
matched_some (Matched.none n) z = absurd (omega arith)

some_of : (k : ℕ) → (k ≡ 0 → ⊥) → 1 ≤ k
some_of zero n = absurd (n refl)
some_of (suc k) n = omega arith

module _ {rows w : List ℕ} {n base k : ℕ} {ends widths : List ℕ} {T : ℕ} {starts : List ℕ} (r : Ready rows w n base k ends widths T starts) {place removed inserted : ℕ} {e : Edit}
    (numbers : Numbers e place removed inserted) where
  abbrev old : Forest
  old = tree_in rows w n 0

  abbrev new : Forest
  new = tree_in rows w k base

  -- the search finds the node of whose slot the rule speaks
  module _ {i t : ℕ} {q m u : ℕ} {f : Forest} (h : Node new (suc i) q m u f) (tk : Counted w base i t) where
    token_is : u ≡ t
    token_is = let z = first_token rows w k base r.new_built (base + i) h (omega arith) in omega (arith, tk.is)

    width_is : get_or widths (base + i) 0 ≡ own f
    width_is = r.new_measured.width (base + i) h (omega arith) (omega arith)

    symbol_is : (node_at w (base + i)).symbol ≡ symbol f
    symbol_is = (stands rows w k base r.new_built (base + i) h (omega arith)).symbol_is

    sourced : {v : Option ℕ} → 1 ≤ own f → Sourced w widths n T place removed inserted t (node_at w (base + i)).symbol v → Matched e old new (suc i) (entry_of v)
    sourced l (Sourced.some {y = y} {t = s} b was lv sy wd) =
        let o : Numbered 1 0 0 0 old (suc y) = at_node old (suc y) (omega arith) (omega (arith, built_size rows w n 0)) in
        let tk' : o.token ≡ s = let z = first_token rows w n 0 r.old_built y o.node (omega arith) in omega (arith, lv, z) in
        let sy' = (stands rows w n 0 r.old_built y o.node (omega arith)).symbol_is in
        let wd' : 1 ≤ own o.forest = some_of (own o.forest) (λ z. wd (r.old_measured.width y o.node (omega arith) (omega arith) ∙ z)) in
        let kp : Keeps e old new (suc i) (suc y) =
        Keeps.full h o.node (rw (token_is, tk') (was_kept numbers was)) (sym symbol_is ∙ sym sy ∙ sy') l wd' in
        let z : y + 1 ≡ suc y = omega arith in
        let one : 1 ≤ suc y = omega arith in
        rw z (Matched.keeps one kp)
    sourced l (Sourced.none absent) = Matched.none go
      where
        go : (a : ℕ) → Keeps e old new (suc i) a → ⊥
        go a (Keeps.above x y) = omega arith
        go a (Keeps.full {t' = t'} {q = p} {m = c} {t = s} {f' = f'} {f = fo} hn ho kt sy ln lo) =
            let z = at_one hn h in
            let y0 : suc (a - 1) ≡ 0 + a = omega (arith, (at_number ho).0) in
            let lv : leaves_to w (a - 1) ≡ s = let v = first_token rows w n 0 r.old_built (a - 1) ho y0 in omega arith in
            let few : s < T = omega (arith, (at_token ho).1, all_tokens rows w n r.old_built, r.started.count) in
            let tn : t' ≡ t = z.token ∙ token_is in
            absent (a - 1) s few (rw tn at (kept_was numbers kt)) lv
            ((stands rows w n 0 r.old_built (a - 1) ho y0).symbol_is ∙ sym sy ∙ ap symbol z.forest ∙ sym symbol_is)
            (λ v. omega (arith, lo, r.old_measured.width (a - 1) ho (omega (arith, (at_number ho).0)) y0, v))
        go a (Keeps.void {f' = f'} hn ho kp zn zo) = omega (arith, zn, ap own (at_one hn h).forest, l)

    -- entry i after the search
    module _ (fronts : Fronts e old new) {ms : List ℕ} (s : Status e old new i ms) (long : i < length ms) where
      pub sought_here : {mid : List ℕ} → Seeks w widths n T base place removed inserted i t ms mid → Matched e old new (suc i) (get_or mid i 0)
      sought_here (Seeks.void z) = s.void (suc i) q m u i f h refl (omega (arith, at_below_parent (omega arith) h)) (sym width_is ∙ z)
      sought_here (Seeks.full {v = v} z x) = rw (get_or-set_same ms i (entry_of v) 0 long) (sourced (some_of (own f) (λ o. z (width_is ∙ o))) x)
      sought_here (Seeks.front l) =
          let o : i + 1 ≡ suc i = omega arith in
          let one : 1 ≤ suc i = omega arith in
          rw (get_or-set_same ms i (i + 1) 0 long, o) (Matched.keeps one (fronts (suc i) q m u f h (omega (arith, token_is, numbers.place_is))))

      pub sought_there : {mid : List ℕ} → Seeks w widths n T base place removed inserted i t ms mid → (y : ℕ) → (y ≡ i → ⊥) → get_or mid y 0 ≡ get_or ms y 0
      sought_there (Seeks.void z) y d = refl
      sought_there (Seeks.full {v = v} z x) y d = get_or-set_other ms i y (entry_of v) 0 d
      sought_there (Seeks.front l) y d = get_or-set_other ms i y (i + 1) 0 d

      -- it keeps nothing, and hands nothing on
      turned_alone : {mid : List ℕ} → Seeks w widths n T base place removed inserted i t ms mid → get_or mid i 0 ≡ 0 → Status e old new (i + 1) mid
      turned_alone {mid} x z =
          record {
            done = λ a p c v y g d o l. by_cases (ℕ_discrete y i) (λ q. here a y q o) (λ q. rw (sought_there x y q) (s.done a p c v y g d o (omega arith)));
            void = λ a p c v y g d o l b.
                by_cases (ℕ_discrete y i) (λ q. here a y q o) (λ q. by_cases (ℕ_discrete p (suc i))
                (λ r. rw (sought_there x y q, s.void_left a p c v y g d o (omega arith) b) (Matched.none (orphan a p c v g d b r)))
                (λ r. rw (sought_there x y q) (s.void a p c v y g d o (omega arith) b)));
            full_left = λ a p c v y g d o l b. sought_there x y (λ q. omega arith) ∙ s.full_left a p c v y g d o (omega arith) b;
            void_left = λ a p c v y g d o l b. sought_there x y (λ q. omega (arith, at_below_parent (omega arith) d)) ∙ s.void_left a p c v y g d o (omega arith) b;
          }
        where
          nobody : (a : ℕ) → Keeps e old new (suc i) a → ⊥
          nobody = matched_none (sought_here x) z

          here : (a y : ℕ) → y ≡ i → suc y ≡ a → Matched e old new a (get_or mid y 0)
          here a y q o = let v : a ≡ suc i = omega arith in rw (v, q) (sought_here x)

          orphan : (a p c v : ℕ) (g : Forest) → Node new a p c v g → own g ≡ 0 → p ≡ suc i → (a' : ℕ) → Keeps e old new a a' → ⊥
          orphan a p c v g d b r a' k =
              let d' : Node new a (suc i) c v g = rw r at d in
              let u = void_below d' b k in
              nobody u.parent u.keeps

      -- it keeps the slot of old node j + 1, and hands on to its children
      module _ (one : KeepsOne e old new) {mid ms' : List ℕ} (j : ℕ) (x : Seeks w widths n T base place removed inserted i t ms mid) (z : get_or mid i 0 ≡ suc j)
          (H : HandedAll ends widths base (base + i) j mid ms') where
        kept : Keeps e old new (suc i) (suc j)
        kept = matched_some (sought_here x) z

        source : Numbered 1 0 0 0 old (suc j)
        source = keeps_node kept (omega arith)

        abbrev C : Forest
        C = below f

        abbrev D : Forest
        D = below source.forest

        zero_left : j ≡ 0 + j
        zero_left = omega arith

        -- the children that were gone through
        new_few : (v : ℕ) → v < H.count → v < trees C
        new_few v l = kid_few h r.new_measured (base + i) refl v (λ y o. (H.handing.reach y (omega arith)).0)

        old_few : (v : ℕ) → v < H.count → v < trees D
        old_few v l = kid_few source.node r.old_measured j zero_left v (λ y o. (H.handing.reach y (omega arith)).1)

        -- all that both have
        all_few : (v : ℕ) → v < trees C → v < trees D → v < H.count
        all_few v l o = by_cases (dec_lt v H.count) (λ q. q) (λ q. absurd (go (omega arith) H.ended))
          where
            go : H.count ≤ v → (get_or ends (base + i) 0 ≤ kid ends (base + i) H.count) ⊎ (get_or ends j 0 ≤ kid ends j H.count) → ⊥
            go q (inl y) = omega (arith, y, kid_reach h r.new_measured (base + i) refl H.count (omega arith))
            go q (inr y) = omega (arith, y, kid_reach source.node r.old_measured j zero_left H.count (omega arith))

        -- a node that is no child without tokens is left as it was
        untouched : (a p c v y : ℕ) (g : Forest) → Node new a p c v g → suc y ≡ a → (p ≡ suc i → own g ≡ 0 → ⊥) → get_or ms' y 0 ≡ get_or mid y 0
        untouched a p c v y g d o nay =
            H.handing.others y (λ b l zw zo q.
            let few = new_few b l in
            let at : suc (base + y) ≡ base + a = omega arith in
            let pr = kid_parent h r.new_measured (base + i) refl b few d at q in
            let d' : Node new a (suc i) c v g = rw pr at d in
            nay pr ((kid_is h r.new_measured (base + i) refl b few d' at q).1 ∙ sym (kid_width h r.new_measured (base + i) refl b few) ∙ zw))

        -- a child without tokens
        child : (a c v y : ℕ) (g : Forest) → Node new a (suc i) c v g → suc y ≡ a → own g ≡ 0 → Matched e old new a (get_or ms' y 0)
        child a c v y g d o b = by_cases (dec_lt c (trees D)) both alone
          where
            at : suc (base + y) ≡ base + a
            at = omega arith

            few : c < trees C
            few = child_few h r.new_measured (base + i) refl d

            place_is : kid ends (base + i) c ≡ base + y
            place_is = kid_at h r.new_measured (base + i) refl c few d at

            was_zero : get_or mid y 0 ≡ 0
            was_zero = sought_there x y (λ q. omega (arith, at_below_parent (omega arith) d)) ∙ s.void_left a (suc i) c v y g d o (omega arith) b

            -- only child c is at that index
            only : (m : ℕ) → m < H.count → kid ends (base + i) m ≡ base + y → c ≡ m
            only m l q = (kid_is h r.new_measured (base + i) refl m (new_few m l) d at q).0

            alone : (c < trees D → ⊥) → Matched e old new a (get_or ms' y 0)
            alone nay =
                let q : get_or ms' y 0 ≡ get_or mid y 0 = H.handing.others y (λ m l zw zo ke. let u = only m l ke in nay (rw u (old_few m l))) in
                rw (q, was_zero) (Matched.none (λ a' k. let u = void_below d b k in
                let p : u.parent ≡ suc j = one (suc i) u.parent (suc j) u.keeps kept in
                nay (child_few source.node r.old_measured j zero_left (rw p at u.node))))

            both : c < trees D → Matched e old new a (get_or ms' y 0)
            both l = by_cases (ℕ_discrete (own (back c D)) 0) void full
              where
                old_width : get_or widths (kid ends j c) 0 ≡ own (back c D)
                old_width = kid_width source.node r.old_measured j zero_left c l

                new_width : get_or widths (kid ends (base + i) c) 0 ≡ 0
                new_width = kid_width h r.new_measured (base + i) refl c few ∙ sym (kid_is h r.new_measured (base + i) refl c few d at place_is).1 ∙ b

                void : own (back c D) ≡ 0 → Matched e old new a (get_or ms' y 0)
                void w =
                    let q = H.handing.given c (all_few c few l) new_width (old_width ∙ w) in
                    let u : kid ends (base + i) c - base ≡ y = omega (arith, place_is) in
                    let p : kid ends j c + 1 ≡ suc (kid ends j c) - 0 = omega arith in
                    let k : Keeps e old new a (suc (kid ends j c) - 0) = Keeps.void d (kid_node source.node r.old_measured j zero_left c l) kept b w in
                    let o : 1 ≤ suc (kid ends j c) - 0 = omega arith in
                    rw (← u, q, p) (Matched.keeps o k)

                full : (own (back c D) ≡ 0 → ⊥) → Matched e old new a (get_or ms' y 0)
                full nay =
                    let q : get_or ms' y 0 ≡ get_or mid y 0 =
                    H.handing.others y (λ m k zw zo ke. let u = only m k ke in nay (sym old_width ∙ rw u zo)) in
                    rw (q, was_zero) (Matched.none (λ a' k. let u = void_below d b k in
                    let p : u.parent ≡ suc j = one (suc i) u.parent (suc j) u.keeps kept in
                    let nd : Node old a' (suc j) c u.token u.forest = rw p at u.node in
                    let w = kid_at source.node r.old_measured j zero_left c l nd in
                    nay (sym (kid_is source.node r.old_measured j zero_left c l nd (old_place a' nd) (w (old_place a' nd))).1 ∙ u.none)))
                  where
                    old_place : (a' : ℕ) {t : ℕ} {fo : Forest} → Node old a' (suc j) c t fo → suc (a' - 1) ≡ 0 + a'
                    old_place a' nd = omega (arith, (at_number nd).0)

        turned_handed : Status e old new (i + 1) ms'
        turned_handed =
            record {
              done = λ a p c v y g d o l. let q = untouched a p c v y g d o (λ u _. omega (arith, at_below_parent (omega arith) d, u)) in
                  by_cases (ℕ_discrete y i) (λ u. rw q (here a y u o)) (λ u. rw (q, sought_there x y u) (s.done a p c v y g d o (omega arith)));
              void = λ a p c v y g d o l b. by_cases (ℕ_discrete p (suc i)) (λ u. child a c v y g (rw u at d) o b)
                  (λ u. let q = untouched a p c v y g d o (λ k _. u k) in
                  by_cases (ℕ_discrete y i) (λ k. rw q (here a y k o)) (λ k. rw (q, sought_there x y k) (s.void a p c v y g d o (omega arith) b)));
              full_left = λ a p c v y g d o l b. untouched a p c v y g d o (λ _ k. omega arith) ∙ sought_there x y (λ q. omega arith) ∙ s.full_left a p c v y g d o (omega arith) b;
              void_left = λ a p c v y g d o l b.
                  untouched a p c v y g d o (λ k _. omega arith) ∙ sought_there x y (λ q. omega (arith, at_below_parent (omega arith) d)) ∙ s.void_left a p c v y g d o (omega arith) b;
            }
          where
            here : (a y : ℕ) → y ≡ i → suc y ≡ a → Matched e old new a (get_or mid y 0)
            here a y q o = let v : a ≡ suc i = omega arith in rw (v, q) (sought_here x)

      -- it keeps the slot of old node j + 1, and carries its subtree along
      module _ (carries : Carries e old new) {mid ms' : List ℕ} {stop : ℕ} (j : ℕ) (x : Seeks w widths n T base place removed inserted i t ms mid) (z : get_or mid i 0 ≡ suc j)
          (g : Reach ends widths base place inserted i t stop) (R : InRow mid i stop (suc j) ms') where
        stop_is : stop ≡ i + tree_size f
        stop_is = omega (arith, g.end_is, r.new_measured.end (base + i) h (omega arith) (omega arith))

        apart : Apart e.place (length e.inserted) u (own f)
        apart = rw (numbers.place_is, numbers.inserted_is, token_is, ← width_is) g.apart

        within : (a y : ℕ) → suc y ≡ a → i ≤ y → y < stop → Matched e old new a (get_or ms' y 0)
        within a y o l k =
            let d : Keeps e old new (suc i + (y - i)) (suc j + (y - i)) =
            carries (suc i) (suc j) q m u f (matched_some (sought_here x) z) h apart (y - i) (omega (arith, stop_is)) in
            let v : suc i + (y - i) ≡ a = omega arith in
            let one : 1 ≤ suc j + (y - i) = omega arith in
            rw (R.inner y l k, ← v) (Matched.keeps one d)

        in_front : (y : ℕ) → y < i → get_or ms' y 0 ≡ get_or ms y 0
        in_front y l = R.low y l ∙ sought_there x y (λ d. omega arith)

        behind : (y : ℕ) → stop ≤ y → get_or ms' y 0 ≡ get_or ms y 0
        behind y l = R.high y l ∙ sought_there x y (λ d. omega (arith, g.low))

        turned_carried : Status e old new stop ms'
        turned_carried =
            record {
              done = λ a p c v y b d o l. by_cases (dec_lt y i) (λ k. rw (in_front y k) (s.done a p c v y b d o (omega arith))) (λ k. within a y o (omega arith) (omega arith));
              void = λ a p c v y b d o l n. by_cases (dec_lt y i) (λ k. rw (in_front y k) (s.void a p c v y b d o (omega (arith, at_below_parent (omega arith) d)) n))
                  (λ k. by_cases (dec_lt y stop) (within a y o (omega arith))
                  (λ w. rw (behind y (omega arith)) (s.void a p c v y b d o (outside d l (omega arith)) n)));
              full_left = λ a p c v y b d o l n. behind y (omega arith) ∙ s.full_left a p c v y b d o (omega (arith, g.low)) n;
              void_left = λ a p c v y b d o l n. behind y (omega (arith, at_below_parent (omega arith) d)) ∙ s.void_left a p c v y b d o (omega (arith, g.low)) n;
            }
          where
            outside : {a p c v : ℕ} {b : Forest} → Node new a p c v b → p ≤ stop → stop < a → p ≤ i
            outside {a} {p} d l k =
                by_cases (dec_lt i p) (λ o. absurd (omega (arith, in_subtree (omega arith) h d (omega arith) (omega (arith, stop_is)), stop_is))) (λ o. omega arith)

-- a turn
pub status_turn : {rows w : List ℕ} {n base k : ℕ} {ends widths : List ℕ} {T : ℕ} {starts : List ℕ} {place removed inserted : ℕ} {e : Edit} {i t i' t' : ℕ} {ms ms' : List ℕ} → Ready rows w n base k ends widths T starts
    → Numbers e place removed inserted → KeepsOne e (tree_in rows w n 0) (tree_in rows w k base) → Fronts e (tree_in rows w n 0) (tree_in rows w k base) → Carries e (tree_in rows w n 0) (tree_in rows w k base) → i < k → k ≤ length ms → Counted w base i t
    → Status e (tree_in rows w n 0) (tree_in rows w k base) i ms → Turned w ends widths n T base place removed inserted i t ms i' t' ms' → Status e (tree_in rows w n 0) (tree_in rows w k base) i' ms'
status_turn {rows} {w} {base = base} {k = k} {i = i} r s one fronts all l long c h (Turned.alone x z g) =
    let o : Numbered 1 0 0 0 (tree_in rows w k base) (suc i) = at_node (tree_in rows w k base) (suc i) (omega arith) (omega (arith, built_size rows w k base)) in
    rw g.node (turned_alone r s o.node c fronts h (omega arith) x z)
status_turn {rows} {w} {base = base} {k = k} {i = i} r s one fronts all l long c h (Turned.handed j x z y g) =
    let o : Numbered 1 0 0 0 (tree_in rows w k base) (suc i) = at_node (tree_in rows w k base) (suc i) (omega arith) (omega (arith, built_size rows w k base)) in
    rw g.node (turned_handed r s o.node c fronts h (omega arith) one j x z y)
status_turn {rows} {w} {base = base} {k = k} {i = i} r s one fronts all l long c h (Turned.carried j x z g y v) =
    let o : Numbered 1 0 0 0 (tree_in rows w k base) (suc i) = at_node (tree_in rows w k base) (suc i) (omega arith) (omega (arith, built_size rows w k base)) in
    turned_carried r s o.node c fronts h (omega arith) all j x z g y
