-- The walk of an area as a relation between what still waits to be visited and the nodes to come. A group of siblings that waits is a frame: the slot of the
-- first of them, their parent's slot, and the symbols that they must have. The relation holds exactly of the nodes of the forests that the area holds for the frames.
use Rattle.std.specs.Prelude.{ℕ, ◌≤◌, ◌<◌, ◌≡◌, refl, List, [], ◌∷◌, ◌++◌}
use Rattle.std.proofs.Common.{sym, ap, ◌∙◌, append_assoc, arith}
use Rattle.std.proofs.Math.Option.{some}
use Rattle.base.specs.Choose.{never}
use Rattle.grammar.specs.Each.{Each, each_join, each_parts, each_head}
use Rattle.grammar.specs.Grammar.{Grammar, Production, numbered, Rule, Terminal}
use Rattle.grammar.specs.Rules.{rule_one}
use Rattle.grammar.specs.Forest.{Forest, Derives}
use Rattle.trees.specs.Area.{max_slots, tag_space, slot_bytes, slot_at, top, slots, Linked}
use Rattle.trees.specs.Nodes.{Node, leaf_node, inner_node, preorder}
use Rattle.walks.specs.Slots.{production_in, first_in, next_in, tag_in, fields}

-- siblings that wait: the slot of the first, 0 for none, their parent's, and their symbols
pub record Frame : Type 0 where
  pub slot : ℕ
  pub parent : ℕ
  pub symbols : List ℕ

abbrev pub frame : ℕ → ℕ → List ℕ → Frame
frame s par xs = record { slot = s; parent = par; symbols = xs }

abbrev pub Within : ℕ → ℕ → Type 0
Within S s = (1 ≤ s) × (s ≤ S)

-- the first of the siblings stands in its slot as a node; below it and behind it wait two frames
pub data Stands (G : Grammar) (b : List ℕ) (f : Frame) : Node → Frame → Frame → Type 0 where
  leaf : {a next g : ℕ} {xs : List ℕ} → f.symbols ≡ a ∷ xs → Terminal G a → slot_at b f.slot ≡ slot_bytes a 0 f.parent 0 next g → next < 65536 → g < tag_space
      → Stands G b f (leaf_node f.slot a g) (frame 0 f.slot []) (frame next f.parent xs)
  node : {M p first next : ℕ} {γ xs : List ℕ} → f.symbols ≡ M ∷ xs → Rule G p M γ → slot_at b f.slot ≡ slot_bytes M p f.parent first next 0 → first < 65536 → next < 65536
      → Stands G b f (inner_node f.slot M p) (frame first f.slot γ) (frame next f.parent xs)

-- the nodes are those of the frames, a parent before its children
pub data Walks (G : Grammar) (S : ℕ) (b : List ℕ) : List Frame → List Node → Type 0 where
  nil : Walks G S b [] []
  none : {f : Frame} {fs : List Frame} {es : List Node} → f.slot ≡ 0 → f.symbols ≡ [] → Walks G S b fs es → Walks G S b (f ∷ fs) es
  visit : {f u v : Frame} {fs : List Frame} {e : Node} {es : List Node} → Within S f.slot → Stands G b f e u v → Walks G S b (u ∷ v ∷ fs) es
      → Walks G S b (f ∷ fs) (e ∷ es)

-- ---- the bytes of a slot settle its node and what waits

no_zero : (Ps : List Production) {P : Production} → numbered Ps 0 ≡ some P → ⊥
no_zero [] e = never (cc)
no_zero (P ∷ Ps) e = never (cc)

pub rule_positive : {G : Grammar} {p M : ℕ} {γ : List ℕ} → Rule G p M γ → (p ≡ 0 → ⊥)
rule_positive {G} r e = no_zero G.productions (rw e at r.found)

-- both are the same
pub record Same (e e' : Node) (u u' v v' : Frame) : Type 0 where
  pub node : e ≡ e'
  pub under : u ≡ u'
  pub behind : v ≡ v'

module _ {G : Grammar} {b : List ℕ} {f : Frame} where
  pub stands_one : {u u' v v' : Frame} {e e' : Node} → Stands G b f e u v → Stands G b f e' u' v' → Same e e' u u' v v'
  stands_one (Stands.leaf i t h n g) (Stands.leaf i' t' h' n' g') =
      let y = fields b f.slot h in
      let y' = fields b f.slot h' in
      let a = sym (y.next n) ∙ y'.next n' in
      let c = sym (y.tag g) ∙ y'.tag g' in
      let q = sym i ∙ i' in
      record { node = cc; under = cc; behind = cc }
  stands_one (Stands.leaf i t h n g) (Stands.node i' r h' m' n') =
      absurd (rule_positive r (sym (fields b f.slot h').production ∙ (fields b f.slot h).production))
  stands_one (Stands.node i r h m n) (Stands.leaf i' t h' n' g') =
      absurd (rule_positive r (sym (fields b f.slot h).production ∙ (fields b f.slot h').production))
  stands_one (Stands.node {p = p} i r h m n) (Stands.node {M = M} {p = p'} i' r' h' m' n') =
      let y = fields b f.slot h in
      let y' = fields b f.slot h' in
      let a = sym (y.next n) ∙ y'.next n' in
      let c = sym (y.first m) ∙ y'.first m' in
      let q = sym i ∙ i' in
      let o : p ≡ p' = sym y.production ∙ y'.production in
      let w = (rule_one (rw o at r) r').1 in
      record { node = cc; under = cc; behind = cc }

  pub stands_some : {u v : Frame} {e : Node} → Stands G b f e u v → f.symbols ≡ [] → ⊥
  stands_some (Stands.leaf i t h n g) z = never (cc)
  stands_some (Stands.node i r h m n) z = never (cc)

  pub stands_slot : {u v : Frame} {e : Node} → Stands G b f e u v → e.slot ≡ f.slot
  stands_slot (Stands.leaf i t h n g) = refl
  stands_slot (Stands.node i r h m n) = refl

-- ---- the nodes of frames are those of forests that the area holds

-- the forests of the frames, and their nodes
pub data Grown (G : Grammar) (S : ℕ) (b : List ℕ) : List Frame → List Node → Type 0 where
  nil : Grown G S b [] []
  cons : {f : Frame} {fs : List Frame} {es rest : List Node} (F : Forest) → Linked b f.parent F → Derives G f.symbols F → top F ≡ f.slot → Each (Within S) (slots F)
      → es ≡ preorder F ++ rest → Grown G S b fs rest → Grown G S b (f ∷ fs) es

no_trees : {G : Grammar} {F : Forest} → Derives G [] F → F ≡ Forest.nil
no_trees Derives.nil = refl

module _ {G : Grammar} {S : ℕ} {b : List ℕ} where
  -- the first of the siblings with the forests below and behind it
  grown_visit : {f u v : Frame} {fs : List Frame} {e : Node} {es : List Node} → Within S f.slot → Stands G b f e u v → Grown G S b (u ∷ v ∷ fs) es → Grown G S b (f ∷ fs) (e ∷ es)
  grown_visit {f} {es = es} w (Stands.leaf {a = a} {g = g} i t h n l) (Grown.cons K lk dk k e x (Grown.cons {rest = rest} R lr dr m e' y r)) =
      let d : Derives G f.symbols (Forest.leaf f.slot a g R) = rw i (Derives.leaf t dr) in
      let q : slot_at b f.slot ≡ slot_bytes a 0 f.parent 0 (top R) g = rw m h in
      let z = ap preorder (no_trees dk) in
      let p : leaf_node f.slot a g ∷ es ≡ leaf_node f.slot a g ∷ (preorder R ++ rest) = cc in
      Grown.cons (Forest.leaf f.slot a g R) (Linked.leaf q l lr) d refl (Each.cons w e') p r
  grown_visit {f} {es = es} w (Stands.node {M = M} {p = p} i t h m n) (Grown.cons K lk dk k e x (Grown.cons {rest = rest} R lr dr o e' y r)) =
      let d : Derives G f.symbols (Forest.node f.slot M p K R) = rw i (Derives.node t dk dr) in
      let q : slot_at b f.slot ≡ slot_bytes M p f.parent (top K) (top R) 0 = rw (k, o) h in
      let z : inner_node f.slot M p ∷ es ≡ inner_node f.slot M p ∷ ((preorder K ++ preorder R) ++ rest) = cc (append_assoc (preorder K) (preorder R) rest) in
      Grown.cons (Forest.node f.slot M p K R) (Linked.node q lk lr) d refl (Each.cons w (each_join e e')) z r

  pub walks_grown : {fs : List Frame} {es : List Node} → Walks G S b fs es → Grown G S b fs es
  walks_grown Walks.nil = Grown.nil
  walks_grown (Walks.none {f = f} z y h) =
      let d : Derives G f.symbols Forest.nil = rw y Derives.nil in
      Grown.cons Forest.nil Linked.nil d (sym z) Each.nil refl (walks_grown h)
  walks_grown (Walks.visit w s k) = grown_visit w s (walks_grown k)

-- ---- and the nodes of a forest that the area holds are those of its frame

pub top_small : {S : ℕ} (F : Forest) → S ≤ max_slots → Each (Within S) (slots F) → top F < 65536
top_small Forest.nil l e = omega arith
top_small (Forest.leaf s a g r) l e = let w = each_head e in omega arith
top_small (Forest.node s M p k r) l e = let w = each_head e in omega arith

module _ {G : Grammar} {S : ℕ} {b : List ℕ} (l : S ≤ max_slots) where
  pub linked_walks : {F : Forest} {par : ℕ} {xs : List ℕ} {fs : List Frame} {es : List Node} → Linked b par F → Derives G xs F → Each (Within S) (slots F) → Walks G S b fs es
      → Walks G S b (frame (top F) par xs ∷ fs) (preorder F ++ es)
  linked_walks Linked.nil Derives.nil e h = Walks.none refl refl h
  linked_walks (Linked.leaf {r = r} q g lr) (Derives.leaf t d) (Each.cons w e) h =
      Walks.visit w (Stands.leaf refl t q (top_small r l e) g) (Walks.none refl refl (linked_walks lr d e h))
  linked_walks {par = par} {fs = fs} {es = es} (Linked.node {s = s} {M = M} {p = p} {k = k} {r = r} q lk lr) (Derives.node {γ = γ} {xs = xs} t dk d) (Each.cons w e) h =
      let o = each_parts (slots k) e in
      let z : Walks G S b (frame (top k) s γ ∷ frame (top r) par xs ∷ fs) ((preorder k ++ preorder r) ++ es) =
      rw (append_assoc (preorder k) (preorder r) es) (linked_walks lk dk o.0 (linked_walks lr d o.1 h))
      in
      Walks.visit w (Stands.node refl t q (top_small k l o.0) (top_small r l o.1)) z

  -- an area holds one forest only of the same symbols in the same place
  pub linked_one : {F F' : Forest} {par : ℕ} {xs : List ℕ} → Derives G xs F → Derives G xs F' → Linked b par F → Linked b par F' → Each (Within S) (slots F) → Each (Within S) (slots F')
      → top F ≡ top F' → F ≡ F'
  linked_one Derives.nil Derives.nil Linked.nil Linked.nil e e' n = refl
  linked_one (Derives.leaf t d) (Derives.leaf t' d') (Linked.leaf {s = s} {a = a} {r = r} q g lr) (Linked.leaf {s = s'} {r = r'} q' g' lr') (Each.cons w e) (Each.cons w' e') n =
      let y = fields b s q in
      let y' = fields b s' q' in
      let o : top r ≡ top r' = sym (y.next (top_small r l e)) ∙ ap (next_in b) n ∙ y'.next (top_small r' l e') in
      let c = sym (y.tag g) ∙ ap (tag_in b) n ∙ y'.tag g' in
      let z = linked_one d d' lr lr' e e' o in
      cc
  linked_one (Derives.leaf t d) (Derives.node t' dk' d') (Linked.leaf {s = s} q g lr) (Linked.node {s = s'} q' lk' lr') e e' n =
      absurd (rule_positive t' (sym (fields b s' q').production ∙ ap (production_in b) (sym n) ∙ (fields b s q).production))
  linked_one (Derives.node t dk d) (Derives.leaf t' d') (Linked.node {s = s} q lk lr) (Linked.leaf {s = s'} q' g' lr') e e' n =
      absurd (rule_positive t (sym (fields b s q).production ∙ ap (production_in b) n ∙ (fields b s' q').production))
  linked_one (Derives.node {γ = γ} t dk d) (Derives.node {γ = γ'} t' dk' d') (Linked.node {s = s} {M = M} {p = p} {k = k} {r = r} q lk lr) (Linked.node {s = s'} {p = p'} {k = k'} {r = r'} q' lk' lr') (Each.cons w e) (Each.cons w' e') n =
      let y = fields b s q in
      let y' = fields b s' q' in
      let u = each_parts (slots k) e in
      let u' = each_parts (slots k') e' in
      let o : top r ≡ top r' = sym (y.next (top_small r l u.1)) ∙ ap (next_in b) n ∙ y'.next (top_small r' l u'.1) in
      let c : top k ≡ top k' = sym (y.first (top_small k l u.0)) ∙ ap (first_in b) n ∙ y'.first (top_small k' l u'.0) in
      let v : p ≡ p' = sym y.production ∙ ap (production_in b) n ∙ y'.production in
      let x : γ ≡ γ' = (rule_one (rw v at t) t').1 in
      let z = linked_one d d' lr lr' u.1 u'.1 o in
      let m : k ≡ k' = linked_one (rw x at dk) dk' (rw n at lk) lk' u.0 u'.0 c in
      cc
