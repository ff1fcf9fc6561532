-- The new tree's nodes get their slots: what the old list and the new one are, which slots are held, and what is laid out.
use Rattle.std.specs.Prelude.{ℕ, zero, suc, ◌+◌, ◌-◌, ◌≤◌, ◌<◌, ◌≡◌, refl, ◌⊎◌, length, take, drop}
use Rattle.std.proofs.Common.{sym, ap, ◌∙◌, subst, inl, inr, length-append, arith}
use mathlib.Core.List.{List, [], ◌∷◌, ◌++◌, Memᴰ}
use Rattle.grammar.specs.declared.Head.{Head}
use Rattle.grammar.specs.Grammar.{Grammar}
use Rattle.grammar.specs.Prediction.{Prepared}
use Rattle.grammar.specs.Forest.{Token, Forest, size, yield, Derives}
use Rattle.grammar.specs.Rows.{grammar_in}
use Rattle.trees.specs.Area.{top, slots, Area}
use Rattle.trees.specs.Nodes.{Node as Entry, leaf_node, inner_node, leaves_of, leaves_yield, trees, Lists, lists_forest, forest_lists, build, Formed, build_preorder, derives_formed, Fed, fed_preorder}
use Rattle.trees.specs.Coded.{node_at, nodes_from, arity_in}
use Rattle.trees.specs.Listing.{in_slot}
use Rattle.trees.specs.Members.{member}
use Rattle.trees.specs.Spread.{slots_of, slots_build, Spread}
use Rattle.plain.specs.Traced.{derives_size, Same}
use Rattle.plain.specs.Alike.{same_back}
use Rattle.walks.specs.Reading.{valid_one}
use Rattle.edits.specs.Keeping.{Edit, edited, Holds, Holding, GivenUp, Altered}
use Rattle.edits.specs.One.{keeps_node, keeps_one}
use Rattle.edits.specs.Edited.{Trees}
use Rattle.edits.specs.Along.{keeps_front, void_along, after_along, before_along}
use Rattle.edits.specs.Giving.{holding_held, kept_made}
use Rattle.edits.specs.Counts.{kept_given_up}
use Rattle.edits.specs.Uniqueness.{keeps_same}
use Rattle.matching.specs.Measure.{tree_in, Built, built_size, stands, few_tokens}
use Rattle.matching.specs.Finding.{Numbers}
use Rattle.matching.specs.Handing.{Few}
use Rattle.matching.specs.Matching.{Matched, Apart, KeepsOne, Fronts, Carries}
use Rattle.matching.specs.Through.{Matching}
use Rattle.keeping.specs.Matched.{slot_by, held_from, Old, Fit, length_from, held_get, slot_none, slot_some}
use Rattle.keeping.specs.Marking.{Keeps as Counts}
use Rattle.keeping.specs.Filling.{Gives}
use Rattle.keeping.specs.Result.{gives_spread, gives_same}
use Rattle.altering.specs.Treed.{arity_rows, Treed, treed_fits}
use Rattle.altering.specs.Outcome.{renewed, Alters, AltersTree}

-- ---- a list of nodes that is a derivation

-- the tree that is built from it
record Derived (rows : List ℕ) (G : Grammar) (w : List ℕ) (k base : ℕ) (xs : List ℕ) : Type 0 where
  built : Built rows w k base
  derives : Derives G xs (tree_in rows w k base)
  fed : Fed (arity_in rows) (nodes_from w k base)

derived : (rows : List ℕ) (head : Head) (w : List ℕ) (k base : ℕ) {xs : List ℕ} → Lists (grammar_in rows head) xs (nodes_from w k base)
    → Derived rows (grammar_in rows head) w k base xs
unfolding tree_in
derived rows head w k base h =
    let q = lists_forest h in
    let f : Formed (arity_in rows) q.0 = derives_formed (arity_in rows) (arity_rows rows head) q.1 in
    let e : build (arity_in rows) (nodes_from w k base) ≡ q.0 = rw q.2 at (build_preorder f) in
    record { built = record { formed = rw e f; listed = rw e q.2 }; derives = rw e q.1; fed = rw q.2 at (fed_preorder f) }

-- a tree is one
one_tree : {G : Grammar} {X : ℕ} {f : Forest} → Derives G (X ∷ []) f → trees f ≡ 1
one_tree (Derives.leaf t Derives.nil) = refl
one_tree (Derives.node r k Derives.nil) = refl

-- the same nodes but for slots
data Slotted : List Entry → List Entry → Type 0 where
  nil : Slotted [] []
  cons : {e e' : Entry} {es es' : List Entry} → e' ≡ in_slot e'.slot e → Slotted es es' → Slotted (e ∷ es) (e' ∷ es')

slotted_from : (w w' : List ℕ) (k i : ℕ) → ((x : ℕ) → x < k → node_at w' (i + x) ≡ in_slot (node_at w' (i + x)).slot (node_at w (i + x))) → Slotted (nodes_from w k i) (nodes_from w' k i)
slotted_from w w' zero i f = Slotted.nil
slotted_from w w' (suc k) i f =
    let q : i + 0 ≡ i = omega arith in
    let e : node_at w' i ≡ in_slot (node_at w' i).slot (node_at w i) = rw q at (f 0 (omega arith)) in
    Slotted.cons e (slotted_from w w' k (i + 1) (λ x l. let p : i + suc x ≡ i + 1 + x = omega arith in rw p at (f (suc x) (omega arith))))

lists_slotted : {G : Grammar} {xs : List ℕ} {es es' : List Entry} → Slotted es es' → Lists G xs es → Lists G xs es'
lists_slotted Slotted.nil Lists.nil = Lists.nil
lists_slotted (Slotted.cons {e' = e'} q h) (Lists.leaf {s = s} {a = a} {g = g} t l) = let z : e' ≡ leaf_node e'.slot a g = q in rw z (Lists.leaf t (lists_slotted h l))
lists_slotted (Slotted.cons {e' = e'} q h) (Lists.node {s = s} {M = M} {p = p} r l) = let z : e' ≡ inner_node e'.slot M p = q in rw z (Lists.node r (lists_slotted h l))

leaves_slotted : {es es' : List Entry} → Slotted es es' → leaves_of es ≡ leaves_of es'
leaves_slotted Slotted.nil = refl
leaves_slotted (Slotted.cons {e = e} {e' = e'} {es = es} {es' = es'} q h) = rw q (go e.production refl (leaves_slotted h))
  where
    go : (p : ℕ) → e.production ≡ p → leaves_of es ≡ leaves_of es' → leaves_of (e ∷ es) ≡ leaves_of (in_slot e'.slot e ∷ es')
    go zero z x = rw z (ap (λ (u : List Token). record { kind = e.symbol; tag = e.tag } ∷ u) x)
    go (suc p) z x = rw z x

-- how many slots are given up
given_up_some : (hs ss : List ℕ) → (u : ℕ) × GivenUp hs ss u
given_up_some hs [] = (0, GivenUp.nil)
given_up_some hs (s ∷ ss) = go (member s hs) (given_up_some hs ss)
  where
    go : Memᴰ s hs ⊎ (Memᴰ s hs → ⊥) → (u : ℕ) × GivenUp hs ss u → (u : ℕ) × GivenUp hs (s ∷ ss) u
    go (inl m) x = (x.0, GivenUp.kept m x.1)
    go (inr m) x = (suc x.0, GivenUp.free m x.1)

-- ---- both trees

-- the old tree as it was walked, and behind its slots' nodes the new sentence's as they were parsed
pub record Both (G : Grammar) (S : ℕ) (e : Edit) (tree w : List ℕ) (o k : ℕ) : Type 0 where
  pub prepared : Prepared G
  pub old : Treed G S tree w o
  pub lists : Lists G (G.start ∷ []) (nodes_from w k S)
  pub leaves : leaves_of (nodes_from w k S) ≡ edited e (yield old.valid.tree)
  pub fits : k ≤ S
  pub room : e.place + e.removed ≤ length (yield old.valid.tree)

module _ (rows : List ℕ) (head : Head) {S : ℕ} {e : Edit} {tree w : List ℕ} {o k : ℕ} (h : Both (grammar_in rows head) S e tree w o k) where
  abbrev G : Grammar
  G = grammar_in rows head

  abbrev old : Forest
  old = h.old.valid.tree

  abbrev new : Forest
  new = tree_in rows w k S

  old_derived : Derived rows G w o 0 (G.start ∷ [])
  old_derived = derived rows head w o 0 (rw h.old.nodes at (forest_lists h.old.valid.derives))

  new_derived : Derived rows G w k S (G.start ∷ [])
  new_derived = derived rows head w k S h.lists

  -- the list gives the old tree back
  old_is : tree_in rows w o 0 ≡ old
  unfolding tree_in
  old_is = rw h.old.nodes at (build_preorder (derives_formed (arity_in rows) (arity_rows rows head) h.old.valid.derives))

  -- what matching asks
  pub both_old : Built rows w o 0
  both_old = old_derived.built

  pub both_new : Built rows w k S
  both_new = new_derived.built

  pub both_one : trees (tree_in rows w k S) ≡ 1
  both_one = one_tree new_derived.derives

  pub both_some : 1 ≤ o
  both_some = omega (arith, derives_size old_derived.derives, built_size rows w o 0)

  -- its tokens are the edited sentence
  yields_new : yield new ≡ edited e (yield old)
  yields_new = sym (leaves_yield new_derived.built.formed) ∙ ap leaves_of new_derived.built.listed ∙ h.leaves

  pub both_numbers : (e.place ≤ S) × (e.removed ≤ S) × (length e.inserted ≤ S)
  both_numbers =
      let y = ap (λ (u : List Token). length u) yields_new in
      let a = length-append (take e.place (yield old)) (e.inserted ++ drop (e.place + e.removed) (yield old)) in
      let b = length-append e.inserted (drop (e.place + e.removed) (yield old)) in
      let z = few_tokens old in
      let v = treed_fits rows head S tree w o h.old in
      let u = h.old.count in
      (omega (arith, h.room), omega (arith, h.room), omega (arith, few_tokens new, built_size rows w k S, h.fits))

  -- no new node keeps two slots
  pub both_keeps : KeepsOne e (tree_in rows w o 0) (tree_in rows w k S)
  both_keeps a' a b x y = keeps_one h.prepared old_derived.derives x y

  both_trees : Trees G e (tree_in rows w o 0) new
  both_trees =
      let u : Trees G e old new =
      record {
        prepared = h.prepared;
        first = h.old.valid.derives;
        second = new_derived.derives;
        room = h.room;
        yields = yields_new;
      } in
      rw old_is u

  pub both_carries : Carries e (tree_in rows w o 0) (tree_in rows w k S)
  both_carries a' a q m t f x d (Apart.void l) c o = void_along both_trees x d c o l
  both_carries a' a q m t f x d (Apart.after l) c o = after_along both_trees x d c o l
  both_carries a' a q m t f x d (Apart.before l) c o = before_along both_trees x d c o l

  pub both_fronts : Fronts e (tree_in rows w o 0) (tree_in rows w k S)
  both_fronts a q m t f d l = keeps_front both_trees d l

  -- ---- the slots that are held

  module _ {place removed inserted : ℕ} (s : Numbers e place removed inserted) {ms : List ℕ} (m : Matching rows w o S k place removed inserted ms) (few : Few o ms) where
    abbrev hs : List ℕ
    hs = held_from w ms k 0

    holds : {i v : ℕ} → Matched e (tree_in rows w o 0) new (suc i) v → Holds e (tree_in rows w o 0) new (suc i) (slot_by w v)
    holds (Matched.keeps {a = a} l x) =
        let q = keeps_node x l in
        let z : suc (a - 1) ≡ 0 + a = omega arith in
        let y = stands rows w o 0 both_old (a - 1) q.node z in
        let v : top q.forest ≡ slot_by w a = slot_some w a (top q.forest) (λ u. omega arith) (sym y.slot_is) in
        rw v at (Holds.keeps x q.node)
    holds {i} (Matched.none nay) = subst (λ (x : ℕ). Holds e (tree_in rows w o 0) new (suc i) x) (slot_none w 0 refl) (Holds.makes nay)

    holding : Holding e old new hs
    holding =
        let u : Holding e (tree_in rows w o 0) new hs = record {
          long = length_from w ms k 0 ∙ sym (built_size rows w k S);
          each = λ i l. let q : i < k = omega (arith, built_size rows w k S) in
              let z : 0 + i ≡ i = omega arith in
              rw (held_get w ms k 0 i q, z) (holds (m.matched e s both_keeps both_fronts both_carries i q));
        } in
        rw old_is at u

    pub both_fit : Fit S w ms k
    both_fit = record { held = holding_held h.prepared new_derived.derives h.old.valid.area holding }

    pub both_old_nodes : Old S k ms
    both_old_nodes = record { each = λ i l. omega (arith, few.each i, treed_fits rows head S tree w o h.old) }

    pub both_few : (r : ℕ) → Counts w ms k r → r ≤ o
    both_few r c =
        let u = given_up_some hs (slots old) in
        let x = kept_given_up h.old.valid.area both_fit.held holding u.1 in
        omega (arith, c.count, h.old.count)

    -- ---- the new tree in its slots

    module _ {w' : List ℕ} (g : Gives w S k hs w') where
      slotted : Slotted (nodes_from w k S) (nodes_from w' k S)
      slotted = slotted_from w w' k S g.fields

      laid : Derived rows G w' k S (G.start ∷ [])
      laid = derived rows head w' k S (lists_slotted slotted h.lists)

      abbrev settled : Forest
      settled = tree_in rows w' k S

      pub both_spread : Spread S (nodes_from w' k S)
      both_spread = gives_spread both_fit h.fits g

      pub both_fed : Fed (arity_in rows) (nodes_from w' k S)
      both_fed = laid.fed

      alike : Same new settled
      unfolding tree_in
      alike = gives_same (arity_in rows) g

      settled_slots : slots settled ≡ slots_of (nodes_from w' k S)
      unfolding tree_in
      settled_slots = slots_build (arity_in rows) (nodes_from w' k S)

      holding_settled : Holding e old settled hs
      holding_settled =
          record {
            long = holding.long ∙ built_size rows w k S ∙ sym (built_size rows w' k S);
            each = λ i l. move (holding.each i (omega (arith, built_size rows w k S, built_size rows w' k S)));
          }
        where
          move : {a x : ℕ} → Holds e old new a x → Holds e old settled a x
          move (Holds.keeps x d) = Holds.keeps (keeps_same alike x) d
          move (Holds.makes nay) = Holds.makes (λ a x. nay a (keeps_same (same_back alike) x))

      yields_settled : yield settled ≡ edited e (yield old)
      yields_settled =
          sym (leaves_yield laid.built.formed) ∙ ap leaves_of laid.built.listed ∙ sym (leaves_slotted slotted) ∙ h.leaves

      pub both_altered : (r : ℕ) → Counts w ms k r → Altered G S e old settled r (size settled - r) (size old - r)
      both_altered r c =
          let u = given_up_some hs (slots old) in
          let x = kept_given_up h.old.valid.area both_fit.held holding u.1 in
          let y = kept_made hs in
          let z : u.0 ≡ size old - r = omega (arith, c.count) in
          record {
            derives = laid.derives;
            yields = yields_settled;
            fits = omega (arith, built_size rows w' k S, h.fits);
            held = hs;
            holding = holding_settled;
            given = rw settled_slots g.given;
            kept_count = c.count;
            made_count = omega (arith, c.count, built_size rows w' k S, length_from w ms k 0);
            given_up = rw z at u.1;
          }

      -- what is laid out is the new tree's area
      pub both_alters : (r : ℕ) {tree' : List ℕ} → Counts w ms k r → Area S (build (arity_in rows) (nodes_from w' k S)) tree' → AltersTree G S e tree (renewed k r) tree'
      unfolding tree_in
      both_alters r {tree'} c a =
          record {
            all = λ v.
                let q : old ≡ v.tree = valid_one h.old.valid v in
                let z : size settled ≡ k = built_size rows w' k S in
                let x : Alters G S e tree old (renewed (size settled) r) tree' = Alters.altered settled (both_altered r c) a in
                rw (q, z) at x;
          }
