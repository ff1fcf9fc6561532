-- Of each node of a list: the index behind its subtree, and how many tokens it has.
use Rattle.std.specs.Prelude.{ℕ, zero, suc, ◌+◌, ◌-◌, ◌≤◌, ◌<◌, ◌≡◌, refl, List, [], ◌∷◌, ◌++◌, length, get_or, set}
use Rattle.std.proofs.Math.Path.{sym, ap}
use Rattle.std.proofs.Common.{◌∙◌, length-append, length-set, get_or-set_same, get_or-set_other, arith}
use Rattle.std.proofs.Math.Logic.{by_cases}
use Rattle.std.proofs.Math.Decide.{ℕ_discrete}
use Rattle.base.specs.Choose.{never}
use Rattle.grammar.specs.Rows.{length_at}
use Rattle.grammar.specs.Forest.{Forest, size, yield}
use Rattle.trees.specs.Nodes.{Node as Entry, preorder, trees, build, Formed}
use Rattle.trees.specs.Coded.{node_at, nodes_from, length_nodes, arity_in}
use Rattle.trees.specs.Spread.{size_build}
use Rattle.trees.specs.Area.{top}
use Rattle.edits.specs.Keeping.{symbol, own, production, below, beside, At, Node}
use Rattle.edits.specs.Places.{tree_size, at_number, at_some, at_one, Numbered, at_node, at_first, at_next, Listed, at_listed}

-- the tree whose n nodes are listed from `base` on
unfoldable pub tree_in : List ℕ → List ℕ → ℕ → ℕ → Forest
tree_in rows w n base = build (arity_in rows) (nodes_from w n base)

-- the nodes that are listed are those of a tree in which each has as many children as its production says
pub record Built (rows w : List ℕ) (n base : ℕ) : Type 0 where
  pub formed : Formed (arity_in rows) (tree_in rows w n base)
  pub listed : preorder (tree_in rows w n base) ≡ nodes_from w n base

pub built_size : (rows w : List ℕ) (n base : ℕ) → size (tree_in rows w n base) ≡ n
unfolding tree_in
built_size rows w n base = size_build (arity_in rows) (nodes_from w n base) ∙ length_nodes w n base

-- ---- a node of the tree and its entry in the list

entry_at : (w : List ℕ) (n base : ℕ) (us : List Entry) (e : Entry) (vs : List Entry) → nodes_from w n base ≡ us ++ (e ∷ vs) → node_at w (base + length us) ≡ e
entry_at w zero base [] e vs h = never (cc)
entry_at w zero base (u ∷ us) e vs h = never (cc)
entry_at w (suc n) base [] e vs h = let z : base + 0 ≡ base = omega arith in rw z (cc)
entry_at w (suc n) base (u ∷ us) e vs h =
    let z : base + 1 + length us ≡ base + suc (length us) = omega arith in
    let y : nodes_from w n (base + 1) ≡ us ++ (e ∷ vs) = cc in
    rw z at (entry_at w n (base + 1) us e vs y)

-- every node has its children
pub at_formed : {ar : ℕ → ℕ} {i par n j a q m t : ℕ} {F f : Forest} → Formed ar F → At i par n j F a q m t f → Formed ar f
at_formed d (At.here x y z w l) = d
at_formed (Formed.node e c d) (At.inside h) = at_formed c h
at_formed (Formed.leaf d) (At.past_leaf h) = at_formed d h
at_formed (Formed.node e c d) (At.past_node h) = at_formed d h

module _ (rows w : List ℕ) (n base : ℕ) (b : Built rows w n base) where
  abbrev F : Forest
  F = tree_in rows w n base

  -- node number a stands at index y
  pub record Stands (a y : ℕ) (f : Forest) : Type 0 where
    pub slot_is : (node_at w y).slot ≡ top f
    pub symbol_is : (node_at w y).symbol ≡ symbol f
    pub production_is : (node_at w y).production ≡ production f
    pub leaf : production f ≡ 0 → (tree_size f ≡ 1) × (own f ≡ 1)
    pub inner : (production f ≡ 0 → ⊥) → (trees (below f) ≡ arity_in rows (production f)) × (tree_size f ≡ suc (size (below f))) × (own f ≡ length (yield (below f)))

  pub stands : {a q m t : ℕ} {f : Forest} (y : ℕ) → Node F a q m t f → suc y ≡ base + a → Stands a y f
  stands {a} {q} {m} {t} {f} y h e = go f (at_formed b.formed h) (at_some h) (at_listed b.formed h)
    where
      go : (f : Forest) → Formed (arity_in rows) f → 1 ≤ size f → Listed 1 0 F a t f → Stands a y f
      go Forest.nil c l o = absurd (omega arith)
      go (Forest.leaf s x g r) (Formed.leaf c) l o =
          let z : node_at w (base + length o.before) ≡ record { slot = s; symbol = x; production = 0; tag = g } =
          entry_at w n base o.before (record { slot = s; symbol = x; production = 0; tag = g }) (preorder r ++ o.behind) (sym b.listed ∙ o.is) in
          let k : y ≡ base + length o.before = omega (arith, o.number, e) in
          record {
            slot_is = ap (λ (u : ℕ). (node_at w u).slot) k ∙ ap (λ (u : Entry). u.slot) z;
            symbol_is = ap (λ (u : ℕ). (node_at w u).symbol) k ∙ ap (λ (u : Entry). u.symbol) z;
            production_is = ap (λ (u : ℕ). (node_at w u).production) k ∙ ap (λ (u : Entry). u.production) z;
            leaf = λ _. (refl, refl);
            inner = λ v. absurd (v refl);
          }
      go (Forest.node s M zero c r) i l o = elim i [ ]
      go (Forest.node s M (suc p) c r) (Formed.node v cs rs) l o =
          let u : Entry = record { slot = s; symbol = M; production = suc p; tag = 0 } in
          let vs : List Entry = preorder c ++ preorder r in
          let z : node_at w (base + length o.before) ≡ u = entry_at w n base o.before u (vs ++ o.behind) (sym b.listed ∙ o.is) in
          let k : y ≡ base + length o.before = omega (arith, o.number, e) in
          record {
            slot_is = ap (λ (x : ℕ). (node_at w x).slot) k ∙ ap (λ (x : Entry). x.slot) z;
            symbol_is = ap (λ (x : ℕ). (node_at w x).symbol) k ∙ ap (λ (x : Entry). x.symbol) z;
            production_is = ap (λ (x : ℕ). (node_at w x).production) k ∙ ap (λ (x : Entry). x.production) z;
            leaf = λ x. absurd (omega arith);
            inner = λ _. (v, refl, refl);
          }

-- ---- what was measured

-- of the nodes of F with a number above i: at index y stands the index behind the subtree, and the number of its tokens
pub record Measured (F : Forest) (base i : ℕ) (ends widths : List ℕ) : Type 0 where
  pub end : {a q m t : ℕ} {f : Forest} (y : ℕ) → Node F a q m t f → i < a → suc y ≡ base + a → get_or ends y 0 ≡ y + tree_size f
  pub width : {a q m t : ℕ} {f : Forest} (y : ℕ) → Node F a q m t f → i < a → suc y ≡ base + a → get_or widths y 0 ≡ own f

pub measured_none : (F : Forest) (base i : ℕ) (ends widths : List ℕ) → size F ≤ i → Measured F base i ends widths
measured_none F base i ends widths l =
    record { end = λ y h k e. absurd (omega (arith, (at_number h).1)); width = λ y h k e. absurd (omega (arith, (at_number h).1)) }

-- what the node with number i + 1 comes to
pub record Spanned (F : Forest) (base i end width : ℕ) : Type 0 where
  pub end_is : {q m t : ℕ} {f : Forest} → Node F (suc i) q m t f → end ≡ base + i + tree_size f
  pub width_is : {q m t : ℕ} {f : Forest} → Node F (suc i) q m t f → width ≡ own f

pub measured_more : (F : Forest) (base i : ℕ) (ends widths : List ℕ) (end width : ℕ) → base + i < length ends → base + i < length widths → Spanned F base i end width → Measured F base (i + 1) ends widths
    → Measured F base i (set ends (base + i) end) (set widths (base + i) width)
measured_more F base i ends widths end width l k s h =
    record {
      end = λ {a} {q} {m} {t} {f} y x o e.
          by_cases (ℕ_discrete a (suc i))
          (λ v. let z : y ≡ base + i = omega arith in
          let u : Node F (suc i) q m t f = rw v at x in
          rw z (get_or-set_same ends (base + i) end 0 l ∙ s.end_is u))
          (λ v. get_or-set_other ends (base + i) y end 0 (λ z. v (omega arith)) ∙ h.end y x (other v o) e);
      width = λ {a} {q} {m} {t} {f} y x o e.
          by_cases (ℕ_discrete a (suc i))
          (λ v. let z : y ≡ base + i = omega arith in
          let u : Node F (suc i) q m t f = rw v at x in
          rw z (get_or-set_same widths (base + i) width 0 k ∙ s.width_is u))
          (λ v. get_or-set_other widths (base + i) y width 0 (λ z. v (omega arith)) ∙ h.width y x (other v o) e);
    }
  where
    other : {a : ℕ} → (a ≡ suc i → ⊥) → i < a → i + 1 < a
    other {a} v o = by_cases (ℕ_discrete a (suc i)) (λ e. absurd (v e)) (λ e. omega arith)

-- ---- going from child to child

-- a node's siblings stand within the forest, and a forest has no more tokens than nodes
pub at_within : {i par n j a q m t : ℕ} {F f : Forest} → At i par n j F a q m t f → a + size f ≤ i + size F
at_within (At.here x y z w l) = omega arith
at_within (At.inside h) = omega (arith, at_within h)
at_within (At.past_leaf h) = omega (arith, at_within h)
at_within (At.past_node h) = omega (arith, at_within h)

pub few_tokens : (f : Forest) → length (yield f) ≤ size f
few_tokens Forest.nil = omega arith
few_tokens (Forest.leaf s x g r) = omega (arith, few_tokens r)
few_tokens (Forest.node s M p k r) = omega (arith, few_tokens k, few_tokens r, length-append (yield k) (yield r))

pub tree_few : (f : Forest) → (tree_size f ≤ size f) × (own f ≤ tree_size f)
tree_few Forest.nil = (omega arith, omega arith)
tree_few (Forest.leaf s x g r) = (omega arith, omega arith)
tree_few (Forest.node s M p k r) = (omega arith, omega (arith, few_tokens k))

-- a forest is its first tree and the others
record Parted (f : Forest) : Type 0 where
  sizes : size f ≡ tree_size f + size (beside f)
  widths : length (yield f) ≡ own f + length (yield (beside f))
  count : trees f ≡ suc (trees (beside f))
  some : 1 ≤ tree_size f

parted : (f : Forest) → 1 ≤ trees f → Parted f
parted Forest.nil l = absurd (omega arith)
parted (Forest.leaf s x g r) l = record { sizes = omega arith; widths = omega arith; count = refl; some = omega arith }
parted (Forest.node s M p k r) l = record { sizes = omega arith; widths = length-append (yield k) (yield r); count = refl; some = omega arith }

pub some_trees : (f : Forest) → 1 ≤ trees f → 1 ≤ size f
some_trees Forest.nil l = absurd (omega arith)
some_trees (Forest.leaf s x g r) l = omega arith
some_trees (Forest.node s M p k r) l = omega arith

pub no_trees : (f : Forest) → trees f ≡ 0 → (size f ≡ 0) × (length (yield f) ≡ 0)
no_trees Forest.nil e = (refl, refl)
no_trees (Forest.leaf s x g r) e = absurd (omega arith)
no_trees (Forest.node s M p k r) e = absurd (omega arith)

-- of the node with number i + 1, the first of `whole`, m children lie behind; the others, `rest`, stand from index c on
pub record Passing (F : Forest) (base i : ℕ) (whole : Forest) (m c : ℕ) (rest : Forest) : Type 0 where
  pub count : m + trees rest ≡ trees (below whole)
  pub ending : c + size rest ≡ base + i + tree_size whole
  pub low : base + i < c
  pub next : ℕ
  pub stands : (b : ℕ) → 1 ≤ size rest → suc c ≡ base + b → Node F b (suc i) m next rest

pub pass_start : {F : Forest} {base i q n t : ℕ} {f : Forest} → Node F (suc i) q n t f → Passing F base i f 0 (base + i + 1) (below f)
pass_start {base = base} {i = i} {t = t} {f = f} h =
    let e = whole_size f (at_some h) in
    record {
      count = omega arith;
      ending = omega (arith, e);
      low = omega arith;
      next = t;
      stands = λ c x q. let d : suc (suc i) ≡ c = omega arith in rw d at (at_first h x);
    }
  where
    whole_size : (f : Forest) → 1 ≤ size f → tree_size f ≡ suc (size (below f))
    whole_size Forest.nil l = absurd (omega arith)
    whole_size (Forest.leaf s x g r) l = refl
    whole_size (Forest.node s M p k r) l = refl

module _ {F : Forest} {base i : ℕ} {whole : Forest} {m c : ℕ} {rest : Forest} (h : Passing F base i whole m c rest) (o : 1 ≤ trees rest) where
  -- the next child, at c
  pub pass_here : Node F (suc c - base) (suc i) m h.next rest
  pass_here = h.stands (suc c - base) (some_trees rest o) (omega (arith, h.low))

  module _ {ends widths : List ℕ} (g : Measured F base (i + 1) ends widths) where
    pub pass_end : get_or ends c 0 ≡ c + tree_size rest
    pass_end = g.end c pass_here (omega (arith, h.low)) (omega (arith, h.low))

    pub pass_width : get_or widths c 0 ≡ own rest
    pass_width = g.width c pass_here (omega (arith, h.low)) (omega (arith, h.low))

    pub pass_next : Passing F base i whole (m + 1) (get_or ends c 0) (beside rest)
    pass_next =
        let d = parted rest o in
        record {
          count = omega (arith, h.count, d.count);
          ending = omega (arith, h.ending, d.sizes, pass_end);
          low = omega (arith, h.low, pass_end);
          next = h.next + own rest;
          stands = λ b y z. let q : suc c - base + tree_size rest ≡ b = omega (arith, z, pass_end, h.low) in
              let r : suc m ≡ m + 1 = omega arith in
              rw (q, r) at (at_next pass_here y);
        }

-- the index behind a node is behind it, and within the list
pub measured_end : (rows w : List ℕ) (n base : ℕ) {ends widths : List ℕ} → Measured (tree_in rows w n base) base 0 ends widths → (y : ℕ) → base ≤ y → y < base + n → (y < get_or ends y 0) × (get_or ends y 0 ≤ base + n)
measured_end rows w n base h y l k =
    let o : Numbered 1 0 0 0 (tree_in rows w n base) (suc y - base) = at_node (tree_in rows w n base) (suc y - base) (omega arith) (omega (arith, built_size rows w n base)) in
    let e = h.end y o.node (omega arith) (omega arith) in
    let x = at_within o.node in
    let z = tree_few o.forest in
    let s = some_tree o.forest (at_some o.node) in
    (omega arith, omega (arith, built_size rows w n base))
  where
    some_tree : (f : Forest) → 1 ≤ size f → 1 ≤ tree_size f
    some_tree Forest.nil l = l
    some_tree (Forest.leaf s x g r) l = omega arith
    some_tree (Forest.node s M p k r) l = omega arith

-- the same where there are k children, and `width` tokens were met
pub record Hopping (F : Forest) (base i k m c width : ℕ) : Type 0 where
  pub parent : ℕ
  pub child : ℕ
  pub token : ℕ
  pub whole : Forest
  pub node : Node F (suc i) parent child token whole
  pub rest : Forest
  pub passing : Passing F base i whole m c rest
  pub left : m + trees rest ≡ k
  pub wide : width + length (yield rest) ≡ own whole

-- the same, with what bounds the numbers
pub record Hop (rows w : List ℕ) (n base i k m c width : ℕ) : Type 0 where
  pub hopping : Hopping (tree_in rows w n base) base i k m c width
  pub few : m ≤ k
  pub short : c ≤ base + n
  pub narrow : width ≤ n
  pub on : m < k → c < base + n

module _ (rows w : List ℕ) (n base : ℕ) (b : Built rows w n base) (i : ℕ) (l : i < n) where
  abbrev T : Forest
  T = tree_in rows w n base

  numbered : Numbered 1 0 0 0 T (suc i)
  numbered = at_node T (suc i) (omega arith) (omega (arith, built_size rows w n base))

  pub span_leaf : (node_at w (base + i)).production ≡ 0 → Spanned T base i (base + i + 1) 1
  span_leaf e =
      record {
        end_is = λ h. let s = stands rows w n base b (base + i) h (omega arith) in omega (arith, (s.leaf (sym s.production_is ∙ e)).0);
        width_is = λ h. let s = stands rows w n base b (base + i) h (omega arith) in sym (s.leaf (sym s.production_is ∙ e)).1;
      }

  begun : (p k : ℕ) → p ≡ (node_at w (base + i)).production → (p ≡ 0 → ⊥) → k ≡ length_at rows (p - 1) → Hopping T base i k 0 (base + i + 1) 0
  unfolding arity_in
  begun p k e z a =
      let o = numbered in
      let s = stands rows w n base b (base + i) o.node (omega arith) in
      let y : production o.forest ≡ p = sym s.production_is ∙ sym e in
      let v = s.inner (λ x. z (sym y ∙ x)) in
      record {
        parent = o.parent;
        child = o.child;
        token = o.token;
        whole = o.forest;
        node = o.node;
        rest = below o.forest;
        passing = pass_start o.node;
        left = omega (arith, v.0, a, ap (arity_in rows) y);
        wide = omega (arith, v.2);
      }

  bounded : {k m c width : ℕ} → Hopping T base i k m c width → Hop rows w n base i k m c width
  bounded h =
      let x = at_within h.node in
      let y = tree_few h.whole in
      let z = built_size rows w n base in
      record {
        hopping = h;
        few = omega (arith, h.left);
        short = omega (arith, h.passing.ending);
        narrow = omega (arith, h.wide);
        on = λ o. let s = some_trees h.rest (omega (arith, h.left)) in omega (arith, h.passing.ending);
      }

  pub hop_start : (p k : ℕ) → p ≡ (node_at w (base + i)).production → (p ≡ 0 → ⊥) → k ≡ length_at rows (p - 1) → Hop rows w n base i k 0 (base + i + 1) 0
  hop_start p k e z a = bounded (begun p k e z a)

  moved : {k m c width : ℕ} (ends widths : List ℕ) → Hopping T base i k m c width → m < k → Measured T base (i + 1) ends widths
      → Hopping T base i k (m + 1) (get_or ends c 0) (width + get_or widths c 0)
  moved {k} {m} {c} {width} ends widths h o g =
      let s : 1 ≤ trees h.rest = omega (arith, h.left) in
      let d = parted h.rest s in
      let u = pass_width h.passing s g in
      record {
        parent = h.parent;
        child = h.child;
        token = h.token;
        whole = h.whole;
        node = h.node;
        rest = beside h.rest;
        passing = pass_next h.passing s g;
        left = omega (arith, h.left, d.count);
        wide = omega (arith, h.wide, d.widths, u);
      }

  pub hop_next : {k m c width : ℕ} (ends widths : List ℕ) (c' d : ℕ) → m < k → Hop rows w n base i k m c width → d ≡ get_or widths c 0 → c' ≡ get_or ends c 0 → Measured T base (i + 1) ends widths
      → Hop rows w n base i k (m + 1) c' (width + d)
  hop_next ends widths c' d o h x y g = rw (x, y) (bounded (moved ends widths h.hopping o g))

  pub hop_end : {k m c width : ℕ} → Hop rows w n base i k m c width → k ≤ m → Spanned T base i c width
  hop_end u o =
      let h = u.hopping in
      let z = no_trees h.rest (omega (arith, h.left)) in
      record {
        end_is = λ x. let q = ap tree_size (at_one x h.node).forest in omega (arith, h.passing.ending, z.0, q);
        width_is = λ x. let q = ap own (at_one x h.node).forest in omega (arith, h.wide, z.1, q);
      }

-- ---- all nodes

-- the nodes with a number above i were measured, and what stands before `base` is as it was
pub record Gauged (F : Forest) (base i : ℕ) (ends₀ widths₀ ends widths : List ℕ) : Type 0 where
  pub measured : Measured F base i ends widths
  pub long_ends : length ends ≡ length ends₀
  pub long_widths : length widths ≡ length widths₀
  pub kept_ends : (x : ℕ) → x < base → get_or ends x 0 ≡ get_or ends₀ x 0
  pub kept_widths : (x : ℕ) → x < base → get_or widths x 0 ≡ get_or widths₀ x 0

pub gauge_start : (rows w : List ℕ) (n base : ℕ) (ends widths : List ℕ) → Gauged (tree_in rows w n base) base n ends widths ends widths
gauge_start rows w n base ends widths =
    record {
      measured = measured_none (tree_in rows w n base) base n ends widths (omega (arith, built_size rows w n base));
      long_ends = refl;
      long_widths = refl;
      kept_ends = λ x l. refl;
      kept_widths = λ x l. refl;
    }

-- before node j - 1 is measured, and after it
pub gauge_next : {F : Forest} {base j : ℕ} {ends₀ widths₀ ends widths : List ℕ} → Gauged F base j ends₀ widths₀ ends widths → 0 < j → Measured F base (j - 1 + 1) ends widths
gauge_next {j = j} h l = let e : j ≡ j - 1 + 1 = omega arith in rw (← e) h.measured

pub gauge_more : {F : Forest} {base j : ℕ} {ends₀ widths₀ ends widths ends' widths' : List ℕ} (end width : ℕ) → Gauged F base j ends₀ widths₀ ends widths → 0 < j → base + (j - 1) < length ends
    → base + (j - 1) < length widths → Spanned F base (j - 1) end width → ends' ≡ set ends (base + (j - 1)) end → widths' ≡ set widths (base + (j - 1)) width → Gauged F base (j - 1) ends₀ widths₀ ends' widths'
gauge_more {F} {base} {j} {ends₀} {widths₀} {ends} {widths} end width h o l k s f g =
    rw (f, g) (record {
      measured = measured_more F base (j - 1) ends widths end width l k s (gauge_next h o);
      long_ends = length-set ends (base + (j - 1)) end ∙ h.long_ends;
      long_widths = length-set widths (base + (j - 1)) width ∙ h.long_widths;
      kept_ends = λ x v. get_or-set_other ends (base + (j - 1)) x end 0 (λ e. omega arith) ∙ h.kept_ends x v;
      kept_widths = λ x v. get_or-set_other widths (base + (j - 1)) x width 0 (λ e. omega arith) ∙ h.kept_widths x v;
    })

-- what was measured before `base` still is
pub measured_kept : {F G : Forest} {base base' : ℕ} {ends₀ widths₀ ends widths : List ℕ} → Measured F base 0 ends₀ widths₀ → Gauged G base' 0 ends₀ widths₀ ends widths → base + size F ≤ base' → Measured F base 0 ends widths
measured_kept h g l =
    record {
      end = λ y x o e. g.kept_ends y (omega (arith, (at_number x).1)) ∙ h.end y x o e;
      width = λ y x o e. g.kept_widths y (omega (arith, (at_number x).1)) ∙ h.width y x o e;
    }
