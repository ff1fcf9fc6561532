-- An edit has one new tree, slots and all, and one set of counts.
use Rattle.std.specs.Prelude.{ℕ, suc, ◌+◌, ◌≡◌, refl, List, [], ◌∷◌, length}
use Rattle.std.proofs.Common.{sym, ap, ◌∙◌, subst, ext_get_or, arith}
use Rattle.grammar.specs.Grammar.{Grammar}
use Rattle.grammar.specs.Prediction.{Prepared}
use Rattle.grammar.specs.Forest.{Token, Forest, yield, Derives, Tree}
use Rattle.trees.specs.Area.{slots}
use Rattle.plain.specs.Traced.{Same}
use Rattle.plain.specs.Alike.{same_back, same_size, same_yield, same_slots}
use Rattle.plain.proofs.Exactly.{tree_one}
use Rattle.edits.specs.Keeping.{Edit, edited, symbol, own, At, Keeps, Holds, Holding, Given, kept_of, made_of, GivenUp, Altered}
use Rattle.edits.specs.One.{keeps_one}
use Rattle.edits.specs.Giving.{at_slot, slot_one, given_one}
use Rattle.edits.specs.Counts.{given_up_one}

-- ---- what is kept has nothing to do with the new tree's slots

-- the same node of a forest that differs in slots only
record Twin (i par n j : ℕ) (F : Forest) (a q m t : ℕ) (f : Forest) : Type 0 where
  first : Forest
  node : At i par n j F a q m t first
  same : Same f first

at_same : {i par n j a q m t : ℕ} {F F' f : Forest} → Same F F' → At i par n j F a q m t f → Twin i par n j F' a q m t f
at_same {F' = F'} h (At.here a q m t l) = record { first = F'; node = At.here {F = F'} a q m t (omega (arith, same_size h)); same = h }
at_same (Same.node h j) (At.inside u) = let z = at_same h u in record { first = z.first; node = At.inside z.node; same = z.same }
at_same (Same.leaf h) (At.past_leaf u) = let z = at_same h u in record { first = z.first; node = At.past_leaf z.node; same = z.same }
at_same {i} {j = j} (Same.node h o) (At.past_node u) =
    let z = moved (ap (λ (x : ℕ). suc i + x) (same_size h)) (ap (λ (w : List Token). j + length w) (same_yield h)) (at_same o u) in
    record { first = z.first; node = At.past_node z.node; same = z.same }
  where
    moved : {par n x x' y y' a q m t : ℕ} {F f : Forest} → x ≡ x' → y ≡ y' → Twin x par n y F a q m t f → Twin x' par n y' F a q m t f
    moved e v z = rw (e, v) at z

same_symbol : {f g : Forest} → Same f g → symbol f ≡ symbol g
same_symbol Same.nil = refl
same_symbol (Same.leaf h) = refl
same_symbol (Same.node h j) = refl

same_own : {f g : Forest} → Same f g → own f ≡ own g
same_own Same.nil = refl
same_own (Same.leaf h) = refl
same_own (Same.node h j) = ap length (same_yield h)

pub keeps_same : {e : Edit} {old new new' : Forest} {a' a : ℕ} → Same new new' → Keeps e old new a' a → Keeps e old new' a' a
keeps_same h (Keeps.above u v) = Keeps.above u v
keeps_same h (Keeps.full n' n k x l m) =
    let z = at_same h n' in
    Keeps.full z.node n k (sym (same_symbol z.same) ∙ x) (omega (arith, same_own z.same)) m
keeps_same h (Keeps.void n' n k x y) =
    let z = at_same h n' in
    Keeps.void z.node n (keeps_same h k) (sym (same_own z.same) ∙ x) y

-- ---- one new tree

module _ {G : Grammar} (g : Prepared G) {e : Edit} {old new new' : Forest} (d : Derives G (G.start ∷ []) old) (h : Same new new') where
  holds_one : {a' x y : ℕ} → Holds e old new a' x → Holds e old new' a' y → x ≡ y
  holds_one (Holds.keeps {a = a} k n) (Holds.keeps {a = b} k' n') =
      let q : b ≡ a = keeps_one g d (keeps_same (same_back h) k') k in
      slot_one (at_slot n) (rw q at (at_slot n'))
  holds_one (Holds.keeps {a = a} k n) (Holds.makes f) = absurd (f a (keeps_same h k))
  holds_one (Holds.makes f) (Holds.keeps {a = a} k n) = absurd (f a (keeps_same (same_back h) k))
  holds_one (Holds.makes f) (Holds.makes g) = refl

  holding_one : {hs hs' : List ℕ} → Holding e old new hs → Holding e old new' hs' → hs ≡ hs'
  holding_one {hs} {hs'} u v =
      ext_get_or 0 hs hs' (u.long ∙ same_size h ∙ sym v.long) (λ i l. holds_one (u.each i (omega (arith, u.long))) (v.each i (omega (arith, u.long, same_size h))))

-- "no second outcome"
pub altered_one : {G : Grammar} {S : ℕ} {e : Edit} {old new new' : Forest} {k k' m m' u u' : ℕ} → Prepared G → Derives G (G.start ∷ []) old
    → Altered G S e old new k m u → Altered G S e old new' k' m' u' → (new ≡ new') × (k ≡ k') × (m ≡ m') × (u ≡ u')
altered_one {G} {S} {e} {old} {new} {new'} {u' = u'} g d x y =
    let T : Tree G G.start (edited e (yield old)) = record { tree = new; derives = x.derives; yields = x.yields } in
    let U : Tree G G.start (edited e (yield old)) = record { tree = new'; derives = y.derives; yields = y.yields } in
    let s : Same new new' = tree_one g T U in
    let h : x.held ≡ y.held = holding_one g d s x.holding y.holding in
    let w : Given x.held 1 x.held (slots new') = subst (λ (l : List ℕ). Given l 1 l (slots new')) (sym h) y.given in
    let v : GivenUp x.held (slots old) u' = subst (λ (l : List ℕ). GivenUp l (slots old) u') (sym h) y.given_up in (
      same_slots s (given_one x.given w),
      x.kept_count ∙ ap kept_of h ∙ sym y.kept_count,
      x.made_count ∙ ap made_of h ∙ sym y.made_count,
      given_up_one x.given_up v,
    )
