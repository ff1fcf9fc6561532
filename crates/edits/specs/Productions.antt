-- A kept node has the same symbol and production in both trees, also where it has no tokens.
use Rattle.std.specs.Prelude.{ℕ, zero, suc, ◌≤◌, ◌≡◌, refl, ◌⊎◌, List, [], ◌∷◌, ◌++◌, drop}
use Rattle.std.proofs.Common.{sym, ap, ◌∙◌, subst, inl, inr, arith}
use Rattle.grammar.specs.Grammar.{Grammar, Rule}
use Rattle.grammar.specs.Rules.{rule_one}
use Rattle.grammar.specs.Forest.{Token, Forest, size, yield}
use Rattle.trees.specs.Nodes.{back}
use Rattle.plain.specs.Plain.{ahead}
use Rattle.edits.specs.Keeping.{Edit, Kept, symbol, production, below, Node, Keeps}
use Rattle.edits.specs.Places.{Side, Parent, at_number, at_some, at_one, at_up}
use Rattle.edits.specs.Guided.{Guided, guided_tree, void_same_top}
use Rattle.edits.specs.One.{keeps_nodes, keeps_old}
use Rattle.edits.specs.Stems.{heads, topped, tops, from_node}
use Rattle.edits.specs.Edited.{Trees, kept_ahead}

module _ {G : Grammar} where
  -- the trees from number c on derive the symbols from number c on
  pub guided_back : {u : List Token} {xs : List ℕ} {f : Forest} (c : ℕ) → Guided G u xs f → Guided G u (drop c xs) (back c f)
  guided_back zero d = d
  guided_back (suc c) Guided.nil = Guided.nil
  guided_back (suc c) (Guided.leaf t d) = guided_back c d
  guided_back (suc c) (Guided.node m e l r k d) = guided_back c d

-- the children of a node derive the body of its production
pub record Body (G : Grammar) (f : Forest) : Type 0 where
  pub body : List ℕ
  pub behind : List Token
  pub rule : Rule G (production f) (symbol f) body
  pub guided : Guided G behind body (below f)

-- no trees are left of none
none_back : (c : ℕ) → size (back c Forest.nil) ≡ 0
none_back zero = refl
none_back (suc c) = refl

module _ {G : Grammar} where
  -- a node with a child has a body
  pub bodies : {u : List Token} {xs : List ℕ} {f : Forest} (c : ℕ) → Guided G u xs f → 1 ≤ size (back c (below f)) → Body G f
  bodies c Guided.nil h = absurd (omega (arith, none_back c))
  bodies c (Guided.leaf t d) h = absurd (omega (arith, none_back c))
  bodies c (Guided.node {u = u} {γ = γ} {r = r} m e l o k d) h = record { body = γ; behind = yield r ++ u; rule = o; guided = k }

-- two nodes with the siblings behind them, of the same symbols
pub record Level (G : Grammar) (f' f : Forest) : Type 0 where
  pub symbols : List ℕ
  pub behind' : List Token
  pub behind : List Token
  pub guided' : Guided G behind' symbols f'
  pub guided : Guided G behind symbols f

-- the first of a list
cons_head : {x y : ℕ} {xs ys : List ℕ} → x ∷ xs ≡ y ∷ ys → x ≡ y
cons_head e = cc

module _ {G : Grammar} where
  -- their first symbol is the same
  pub level_symbol : {f' f : Forest} → Level G f' f → 1 ≤ size f' → 1 ≤ size f → symbol f' ≡ symbol f
  level_symbol l h h' = let x = heads l.guided' h in let y = heads l.guided h' in cons_head (sym x.1 ∙ y.1)

  -- the same place below nodes of the same production
  level_below : {g' g f' f : Forest} (m : ℕ) → Body G g' → Body G g → symbol g' ≡ symbol g → production g' ≡ production g → f' ≡ back m (below g') → f ≡ back m (below g) → Level G f' f
  level_below {g'} {g} {f'} {f} m b' b x y i j =
      let z : b'.body ≡ b.body = (rule_one (subst (λ (p : ℕ). Rule G p (symbol g') b'.body) y b'.rule) b.rule).1 in
      record {
        symbols = drop m b.body;
        behind' = b'.behind;
        behind = b.behind;
        guided' = subst (λ (k : Forest). Guided G b'.behind (drop m b.body) k) (sym i) (guided_back m (subst (λ (γ : List ℕ). Guided G b'.behind γ (below g')) z b'.guided));
        guided = subst (λ (k : Forest). Guided G b.behind (drop m b.body) k) (sym j) (guided_back m b.guided);
      }

module _ {G : Grammar} {e : Edit} {old new : Forest} (h : Trees G e old new) where
  -- nodes with tokens that start with a kept one have the same production, if they have the same symbol
  full_production : {a' q' m' t' a q m t : ℕ} {f' f : Forest} → Node new a' q' m' t' f' → Node old a q m t f → Kept e t' t → symbol f' ≡ symbol f → production f' ≡ production f
  full_production {f' = f'} {f = f} n o k s =
      let x = from_node h.prepared h.second n in
      let y = from_node h.prepared h.first o in
      let z : ahead (yield f' ++ x.behind) ≡ ahead (yield f ++ y.behind) = sym (ap ahead x.reads) ∙ kept_ahead h k ∙ ap ahead y.reads in
      (tops h.prepared (topped x.guided (at_some n)).1 (rw (sym s) at (topped y.guided (at_some o)).1) z).0

  -- the same place below a kept parent
  level : {q' q m t' t : ℕ} {f' f : Forest} → 1 ≤ size f' → 1 ≤ size f → Side 0 0 new q' m f' ⊎ Parent 1 0 0 0 new q' m t' f' → Side 0 0 old q m f ⊎ Parent 1 0 0 0 old q m t f → Keeps e old new q' q
      → ((x : Parent 1 0 0 0 new q' m t' f') (y : Parent 1 0 0 0 old q m t f) → (symbol x.forest ≡ symbol y.forest) × (production x.forest ≡ production y.forest)) → Level G f' f
  level {m = m} {f' = f'} {f = f} l l' (inl x) (inl y) k same =
      let i : x.by ≡ m = omega (arith, x.child) in
      let j : y.by ≡ m = omega (arith, y.child) in
      let z : f' ≡ back m new = x.is ∙ ap (λ (c : ℕ). back c new) i in
      let w : f ≡ back m old = y.is ∙ ap (λ (c : ℕ). back c old) j in
      record {
        symbols = drop m (G.start ∷ []);
        behind' = [];
        behind = [];
        guided' = subst (λ (k : Forest). Guided G [] (drop m (G.start ∷ [])) k) (sym z) (guided_back m (guided_tree h.prepared h.second));
        guided = subst (λ (k : Forest). Guided G [] (drop m (G.start ∷ [])) k) (sym w) (guided_back m (guided_tree h.prepared h.first));
      }
  level l l' (inl x) (inr y) k same = absurd (omega (arith, x.parent, keeps_nodes k (at_number y.node).0))
  level l l' (inr x) (inl y) k same = absurd (omega (arith, y.parent, keeps_old k (at_number x.node).0))
  level {m = m} l l' (inr x) (inr y) k same =
      let o = same x y in
      let b' = bodies m (from_node h.prepared h.second x.node).guided (subst (λ (k : Forest). 1 ≤ size k) x.is l) in
      let b = bodies m (from_node h.prepared h.first y.node).guided (subst (λ (k : Forest). 1 ≤ size k) y.is l') in
      level_below m b' b o.0 o.1 x.is y.is

  -- a kept node has the same symbol and production in both trees
  pub keeps_same : {a' q' m' t' a q m t : ℕ} {f' f : Forest} → Keeps e old new a' a → Node new a' q' m' t' f' → Node old a q m t f
      → (symbol f' ≡ symbol f) × (production f' ≡ production f)
  keeps_same (Keeps.above x y) n' o' = absurd (omega (arith, (at_number n').0))
  keeps_same (Keeps.full n o k s l l') n' o' =
      let x = (at_one n' n).forest in
      let y = (at_one o o').forest in
      (ap symbol x ∙ s ∙ ap symbol y, ap production x ∙ full_production n o k s ∙ ap production y)
  keeps_same (Keeps.void n o k l l') n' o' =
      let x = (at_one n' n).forest in
      let y = (at_one o o').forest in
      let v = level (at_some n) (at_some o) (at_up n) (at_up o) k (λ x y. keeps_same k x.node y.node) in
      let s = level_symbol v (at_some n) (at_some o) in
      let p = void_same_top h.prepared (topped v.guided' (at_some n)).1 (rw (sym s) at (topped v.guided (at_some o)).1) l l' in
      (ap symbol x ∙ s ∙ ap symbol y, ap production x ∙ p ∙ ap production y)
