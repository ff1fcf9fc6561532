-- Whether the node in a slot can stand where a symbol is expected: what its production and tag must be, and which children it then has.
use Rattle.std.specs.Prelude.{ℕ, zero, suc, ◌+◌, ◌*◌, ◌/◌, ◌%◌, ◌≤◌, ◌<◌, Bool, true, false, ◌≡◌, refl, eqb, ◌⊎◌, List, ◌∷◌, length, get_or, set, Option, Some, None}
use Rattle.std.proofs.lemmas.Bool.Decides.{eqb_tells}
use Rattle.std.proofs.Common.{sym, ap, ◌∙◌, ⊎_elim, arith}
use Rattle.std.specs.Bool.{then_some}
use Rattle.base.specs.Tells.{Tells, tells_yes, tells_no}
use Rattle.base.specs.Bytes.{byte_at, get16}
use Rattle.grammar.specs.Grammar.{TerminalOf}
use Rattle.grammar.specs.Rows.{left_at}
use Rattle.grammar.specs.RowRules.{body_at}
use Rattle.trees.specs.Area.{slot_size, symbol_place, spare_place, tag_space}
use Rattle.trees.specs.Nodes.{leaf_of}
use Rattle.trees.specs.Listing.{node_of, Put}
use Rattle.walks.specs.declared.Kids.{Kids}
use Rattle.walks.specs.declared.Kids.TheVariants.{Leaf, Body}
use Rattle.walks.specs.Slots.{symbol_in, production_in, parent_in, first_in, tag_in, fields, Known, Used, slot_used}
use Rattle.walks.specs.Digits.{Digits, digits_head}
use Rattle.walks.specs.Words.{word_count, Worded}
use Rattle.walks.specs.Stacked.{marks_at}

-- ---- the slot

-- slot s is a used one with the symbol x
pub record Looks (b : List ℕ) (s x : ℕ) : Type 0 where
  pub used : Used b s
  pub symbol : symbol_in b s ≡ x

-- it is below the slot `par`, and has no first child where its children's symbols are those of the body 0
pub record Hangs (b : List ℕ) (s par body : ℕ) : Type 0 where
  pub parent : parent_in b s ≡ par
  pub bare : body ≡ 0 → first_in b s ≡ 0

-- its symbol and its production as a two-byte number
pub both_in : (b : List ℕ) (s v : ℕ) → v ≡ get16 b (slot_size * s + symbol_place) → Known b → (v % 256 ≡ symbol_in b s) × (v / 256 ≡ production_in b s)
both_in b s v e k =
    let q : slot_size * s + 2 + 1 ≡ slot_size * s + 3 = omega arith in
    let o = ap (byte_at b) q in
    let c = k.small (slot_size * s + 2) in
    (omega (arith, e, c), omega (arith, e, o, c))

-- as the code finds it
module _ (b : List ℕ) (s x : ℕ) where
  pub looks_mark : (v : ℕ) → v ≡ get16 b (slot_size * s) → (v ≡ 0x444E → ⊥) → Tells (Looks b s x) false
  looks_mark v e n = tells_no (λ h. let f = fields b s h.used.is in n (omega (arith, e, f.mark, f.mark')))

  pub looks_spare : (v : ℕ) → v ≡ get16 b (slot_size * s + spare_place) → (v ≡ 0 → ⊥) → Tells (Looks b s x) false
  looks_spare v e n =
      let q : slot_size * s + 14 + 1 ≡ slot_size * s + 15 = omega arith in
      let o = ap (byte_at b) q in
      tells_no (λ h. let f = fields b s h.used.is in n (omega (arith, e, o, f.spare, f.spare')))

  pub looks_symbol : (v : ℕ) → Known b → v ≡ get16 b (slot_size * s + symbol_place) → (v % 256 ≡ x → ⊥) → Tells (Looks b s x) false
  looks_symbol v k e n = tells_no (λ h. n ((both_in b s v e k).0 ∙ h.symbol))

  looks_yes : (u v : ℕ) → Known b → slot_size * s + slot_size ≤ length b → u ≡ get16 b (slot_size * s) → u ≡ 0x444E → v ≡ get16 b (slot_size * s + spare_place) → v ≡ 0
      → symbol_in b s ≡ x → Tells (Looks b s x) true
  looks_yes u v k l eu u' ev v' e =
      let q : slot_size * s + 14 + 1 ≡ slot_size * s + 15 = omega arith in
      let o = ap (byte_at b) q in
      let c0 = k.small (slot_size * s) in
      let c1 = k.small (slot_size * s + 1) in
      tells_yes (record {
        used = slot_used b s k l (omega (arith, eu, u', c0, c1)) (omega (arith, eu, u', c0, c1)) (omega (arith, ev, v', o)) (omega (arith, ev, v', o));
        symbol = e;
      })

  -- the symbol first
  pub looks_other : (y : ℕ) → Known b → y ≡ get16 b (slot_size * s + symbol_place) → (y % 256 ≡ x → ⊥) → Tells (Looks b s x) (eqb (y % 256) x)
  looks_other y k ey n =
      ⊎_elim (λ (h : (eqb (y % 256) x ≡ true) × (y % 256 ≡ x)). absurd (n h.1)) (λ (h : (eqb (y % 256) x ≡ false) × (y % 256 ≡ x → ⊥)). rw h.0 (looks_symbol y k ey n)) (eqb_tells (y % 256) x)

  -- then the mark and the zeros decide, as one number
  pub looks_once : (u v y : ℕ) → Known b → slot_size * s + slot_size ≤ length b → u ≡ get16 b (slot_size * s) → u < 65536 → v ≡ get16 b (slot_size * s + spare_place)
      → y ≡ get16 b (slot_size * s + symbol_place) → y % 256 ≡ x → Tells (Looks b s x) (eqb (u + 65536 * v) 0x444E)
  looks_once u v y k l eu lu ev ey e =
      let m : ℕ = u + 65536 * v in
      ⊎_elim (λ (h : (eqb m 0x444E ≡ true) × (m ≡ 0x444E)). rw h.0 (looks_yes u v k l eu (omega (arith, lu, h.1)) ev (omega (arith, h.1)) (sym (both_in b s y ey k).0 ∙ e)))
      (λ (h : (eqb m 0x444E ≡ false) × (m ≡ 0x444E → ⊥)). rw h.0 (unlike h.1)) (eqb_tells m 0x444E)
    where
      unlike : (u + 65536 * v ≡ 0x444E → ⊥) → Tells (Looks b s x) false
      unlike n =
          ⊎_elim (λ (h : (eqb u 0x444E ≡ true) × (u ≡ 0x444E)). looks_spare v ev (λ z. n (omega (arith, h.1, z)))) (λ (h : (eqb u 0x444E ≡ false) × (u ≡ 0x444E → ⊥)). looks_mark u eu h.1) (eqb_tells u 0x444E)

  -- or the symbol decides, the others known
  pub looks_told : (u v y : ℕ) → Known b → slot_size * s + slot_size ≤ length b → u ≡ get16 b (slot_size * s) → u ≡ 0x444E → v ≡ get16 b (slot_size * s + spare_place) → v ≡ 0
      → y ≡ get16 b (slot_size * s + symbol_place) → Tells (Looks b s x) (eqb (y % 256) x)
  looks_told u v y k l eu u' ev v' ey =
      let o : y % 256 ≡ symbol_in b s = (both_in b s y ey k).0 in
      ⊎_elim (λ (h : (eqb (y % 256) x ≡ true) × (y % 256 ≡ x)). rw h.0 (looks_yes u v k l eu u' ev v' (sym o ∙ h.1)))
      (λ (h : (eqb (y % 256) x ≡ false) × (y % 256 ≡ x → ⊥)). rw h.0 (tells_no (λ f. h.1 (o ∙ f.symbol)))) (eqb_tells (y % 256) x)

-- ---- the children

-- a node with symbol x, production p and tag g is a leaf, or its children have the symbols of a body, or there is no such node
pub data Kin (rows : List ℕ) (t count x p g : ℕ) : Option Kids → Type 0 where
  leaf : p ≡ 0 → TerminalOf t x → Kin rows t count x p g (Some Leaf)
  node : {q r : ℕ} → p ≡ suc q → q < count → left_at rows q ≡ x → g ≡ 0 → Digits (body_at rows q) r → Kin rows t count x p g (Some (Body r))
  none : (p ≡ 0 → TerminalOf t x → ⊥) → ((q : ℕ) → p ≡ suc q → q < count → left_at rows q ≡ x → g ≡ 0 → ⊥) → Kin rows t count x p g None

pub below : (q n : ℕ) → (q < n) ⊎ (n ≤ q)
below q zero = ◌⊎◌.inr (omega arith)
below zero (suc n) = ◌⊎◌.inl (omega arith)
below (suc q) (suc n) = ⊎_elim (λ l. ◌⊎◌.inl (omega arith)) (λ l. ◌⊎◌.inr (omega arith)) (below q n)

module _ (rows ws : List ℕ) (t count x p g : ℕ) where
  pub kin_zero : p ≡ 0 → x ≡ 0 → Kin rows t count x p g None
  kin_zero e z = Kin.none (λ _ h. omega (arith, h.0, z)) (λ q i. omega (arith, e, i))

  pub kin_over : p ≡ 0 → t < x → Kin rows t count x p g None
  kin_over e z = Kin.none (λ _ h. omega (arith, h.1, z)) (λ q i. omega (arith, e, i))

  pub kin_leaf : p ≡ 0 → (x ≡ 0 → ⊥) → x ≤ t → Kin rows t count x p g (Some Leaf)
  kin_leaf e z l = Kin.leaf e (omega (arith, z), l)

  module _ (h : Worded rows count ws) (n : p ≡ 0 → ⊥) (low : p < word_count) where
    pub kin_left : (get_or ws p 0 % 128 ≡ 64 + x → ⊥) → Kin rows t count x p g None
    kin_left z =
        Kin.none (λ e. absurd (n e)) (λ q i m o _. let d : Digits (left_at rows q ∷ body_at rows q) (get_or ws p 0) = rw i (h.row q m (omega arith)) in z ((digits_head d).0 ∙ ap (λ (y : ℕ). 64 + y) o))

    pub kin_tag : (g ≡ 0 → ⊥) → Kin rows t count x p g None
    kin_tag z = Kin.none (λ e. absurd (n e)) (λ q i m o u. z u)

    -- the tag and the left side as one number
    pub kin_apart : (512 * g + get_or ws p 0 % 128 ≡ 64 + x → ⊥) → Kin rows t count x p g None
    kin_apart z = ⊎_elim (λ (e : (eqb g 0 ≡ true) × (g ≡ 0)). kin_left (λ o. z (omega (arith, e.1, o)))) (λ (e : (eqb g 0 ≡ false) × (g ≡ 0 → ⊥)). kin_tag e.1) (eqb_tells g 0)

    pub kin_node : get_or ws p 0 % 128 ≡ 64 + x → g ≡ 0 → Kin rows t count x p g (Some (Body (get_or ws p 0 / 128)))
    kin_node e z = go p n low e
      where
        go : (p : ℕ) → (p ≡ 0 → ⊥) → p < word_count → get_or ws p 0 % 128 ≡ 64 + x → Kin rows t count x p g (Some (Body (get_or ws p 0 / 128)))
        go zero n low e = absurd (n refl)
        go (suc q) n low e =
            ⊎_elim
            (λ l. let d = digits_head (h.row q l low) in Kin.node {q = q} refl l (omega (arith, d.0, e)) z d.1)
            (λ l. absurd (omega (arith, e, ap (λ (y : ℕ). y % 128) (h.none q l low))))
            (below q count)

pub ruleset kinds = (kin_zero, kin_over, kin_leaf, kin_left, kin_tag, kin_node)

-- a node with a body has no tag
pub kin_untagged : {rows : List ℕ} {t count x p g r : ℕ} → Kin rows t count x p g (Some (Body r)) → g ≡ 0
kin_untagged (Kin.node e l o z d) = z

-- the children's symbols are the digits of r, none for a leaf, which counts as 1
pub data Counts : Option Kids → ℕ → ℕ → Type 0 where
  leaf : Counts (Some Leaf) 0 1
  body : {r : ℕ} → Counts (Some (Body r)) r 0

pub kin_counts : {rows : List ℕ} {t count x p g r leaf : ℕ} {k : Option Kids} → Kin rows t count x p g k → Counts k r leaf → leaf ≡ leaf_of p
kin_counts (Kin.leaf e h) Counts.leaf = sym (ap leaf_of e)
kin_counts (Kin.node e l o z d) Counts.body = sym (ap leaf_of e)
kin_counts (Kin.none _ _) c = elim c [ ]

counts_one : {k : Option Kids} {r v l m : ℕ} → Counts k r l → Counts k v m → r ≡ v
counts_one Counts.leaf Counts.leaf = refl
counts_one Counts.body Counts.body = refl

-- with this found of a node's children, their symbols are the digits of `body`, and there are so many leaves then
pub record Taken (k : Option Kids) (leaves body leaves' : ℕ) : Type 0 where
  pub leaf : ℕ
  pub counts : Counts k body leaf
  pub sum : leaves' ≡ leaves + leaf

module _ {k : Option Kids} (leaves body leaves' : ℕ) where
  pub taken_leaf : k ≡ Some Leaf → body ≡ 0 → leaves' ≡ leaves + 1 → Taken k leaves body leaves'
  taken_leaf e z o = record { leaf = 1; counts = rw (e, z) Counts.leaf; sum = o }

  pub taken_body : (r : ℕ) → k ≡ Some (Body r) → body ≡ r → leaves' ≡ leaves → Taken k leaves body leaves'
  taken_body r e z o = record { leaf = 0; counts = rw (e, z) Counts.body; sum = omega (arith, o) }

-- ---- the visit

-- slot s is the node that is expected, and this is found of its children
pub record Meets (rows : List ℕ) (t count : ℕ) (b : List ℕ) (s par x : ℕ) (k : Option Kids) : Type 0 where
  pub looks : Looks b s x
  pub kin : Kin rows t count x (production_in b s) (tag_in b s) k
  pub tag : tag_in b s < tag_space
  pub hangs : {r leaf : ℕ} → Counts k r leaf → Hangs b s par r

-- slot s was written as node i and marked, or it is none of the area, or marked, or not the node that is expected
pub data Visited (rows : List ℕ) (t count S : ℕ) (b : List ℕ) (s par x : ℕ) (w : List ℕ) (i : ℕ) (w' : List ℕ) : Option Kids → Type 0 where
  met : {k : Kids} {v : List ℕ} → s ≤ S → byte_at w (marks_at S + s) ≡ 0 → Meets rows t count b s par x (Some k)
      → Put w i (node_of s (symbol_in b s) (production_in b s) (tag_in b s)) v → w' ≡ set v (marks_at S + s) 1 → Visited rows t count S b s par x w i w' (Some k)
  over : S < s → Visited rows t count S b s par x w i w' None
  marked : s ≤ S → (byte_at w (marks_at S + s) ≡ 0 → ⊥) → Visited rows t count S b s par x w i w' None
  unfit : (Looks b s x → Kin rows t count x (production_in b s) (tag_in b s) None) → Visited rows t count S b s par x w i w' None
  stray : {k : Option Kids} {r leaf : ℕ} → Kin rows t count x (production_in b s) (tag_in b s) k → Counts k r leaf → (Hangs b s par r → ⊥) → Visited rows t count S b s par x w i w' None

module _ (rows : List ℕ) (t count S : ℕ) (b : List ℕ) (s par x : ℕ) (w : List ℕ) (i : ℕ) where
  pub visited_unlike : (u : Bool) → Tells (Looks b s x) u → u ≡ false → Visited rows t count S b s par x w i w None
  visited_unlike u h e = Visited.unfit (λ f. absurd (h.no e f))

  module _ (at : ℕ) (ea : at ≡ marks_at S) (l : s ≤ S) where
    pub visited_marked : (byte_at w (at + s) ≡ 0 → ⊥) → Visited rows t count S b s par x w i w None
    visited_marked n = Visited.marked l (λ z. n (rw ea z))

    module _ (v g : ℕ) (known : Known b) (ev : v ≡ get16 b (slot_size * s + symbol_place)) (eg : g ≡ tag_in b s) (r : Option Kids) (k : Kin rows t count x (v / 256) g r) where
      ep : v / 256 ≡ production_in b s
      ep = (both_in b s v ev known).1

      pub visited_unfit : r ≡ None → Visited rows t count S b s par x w i w None
      visited_unfit e = Visited.unfit (λ f. rw (e, ep, eg) at k)

      -- the links decide
      pub visited_hung : byte_at w (at + s) ≡ 0 → Looks b s x → g < tag_space → (j : Kids) → r ≡ Some j → (body leaf : ℕ) → Taken (Some j) 0 body leaf → (u : Bool) → Tells (Hangs b s par body) u → (w1 w' : List ℕ)
          → Put w i (node_of s (v % 256) (v / 256) g) w1 → w' ≡ set w1 (at + s) 1 → Visited rows t count S b s par x w i w' (then_some u j)
      visited_hung z f lg j er r1 l1 tk true h w1 w' put ew =
          let meets : Meets rows t count b s par x (Some j) =
          record { looks = f; kin = rw (er, ep, eg) at k; tag = rw eg at lg; hangs = λ c. let q : r1 ≡ _ = counts_one tk.counts c in rw q at (h.yes refl) } in
          Visited.met l (rw ea at z) meets (rw ((both_in b s v ev known).0, ep, eg) at put) (rw ea at ew)
      visited_hung z f lg j er r1 l1 tk false h w1 w' put ew = Visited.stray (rw (er, ep, eg) at k) tk.counts (h.no refl)
