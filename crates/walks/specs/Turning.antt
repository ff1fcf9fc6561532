-- A turn of the walk: what a slot that was visited is, with the frames below and behind it, and where the walk stops.
use Rattle.std.specs.Prelude.{ℕ, suc, ◌<◌, ◌≡◌, refl, List, [], ◌∷◌, Option, None}
use Rattle.std.proofs.Common.{sym, ◌∙◌, arith}
use Rattle.std.proofs.Math.Logic.{by_cases}
use Rattle.std.proofs.Math.Decide.{ℕ_discrete}
use Rattle.base.specs.Choose.{never}
use Rattle.grammar.specs.declared.Head.{Head}
use Rattle.grammar.specs.Grammar.{Grammar, TerminalOf, Rule}
use Rattle.grammar.specs.Rows.{left_at, grammar_in}
use Rattle.grammar.specs.RowRules.{body_at, rule_at, rule_row}
use Rattle.trees.specs.Area.{slot_bytes, slot_at}
use Rattle.trees.specs.Nodes.{Node, leaf_node, inner_node}
use Rattle.trees.specs.Listing.{node_of}
use Rattle.walks.specs.declared.Kids.{Kids}
use Rattle.walks.specs.Slots.{symbol_in, production_in, parent_in, first_in, next_in, tag_in, fields, Used, fields_used}
use Rattle.walks.specs.Frames.{Frame, frame, Stands, Walks}
use Rattle.walks.specs.Going.{Stuck, blocked}
use Rattle.walks.specs.Digits.{Digits, digits_none}
use Rattle.walks.specs.Judging.{Looks, Hangs, Kin, Counts, Meets}

module _ (rows : List ℕ) (head : Head) where
  abbrev pub G· : Grammar
  G· = grammar_in rows head

  -- ---- what a walk says of the slot that it visits next

  -- the node in slot s stands where x is expected below `par`, with xs behind it
  data Seen (S : ℕ) (b : List ℕ) (s par x : ℕ) (xs : List ℕ) (fs : List Frame) : Type 0 where
    leaf : {es : List Node} → Used b s → symbol_in b s ≡ x → parent_in b s ≡ par → production_in b s ≡ 0 → TerminalOf head.t x → first_in b s ≡ 0
        → Walks G· S b (frame 0 s [] ∷ frame (next_in b s) par xs ∷ fs) es → Seen S b s par x xs fs
    node : {q : ℕ} {es : List Node} → Used b s → symbol_in b s ≡ x → parent_in b s ≡ par → production_in b s ≡ suc q → q < head.count → left_at rows q ≡ x → tag_in b s ≡ 0
        → Walks G· S b (frame (first_in b s) s (body_at rows q) ∷ frame (next_in b s) par xs ∷ fs) es → Seen S b s par x xs fs

  module _ {S : ℕ} {b : List ℕ} where
    seen : {f : Frame} {fs : List Frame} {es : List Node} {x : ℕ} {xs : List ℕ} → f.symbols ≡ x ∷ xs → f.parent < 65536 → Walks G· S b (f ∷ fs) es → Seen S b f.slot f.parent x xs fs
    unfolding grammar_in
    seen e l (Walks.none z y h) = never (cc)
    seen {f} {fs} {x = x} {xs = xs} e l (Walks.visit {es = es} w (Stands.leaf {a = a} {xs = ys} i o h m g) k) =
        let y = fields b f.slot h in
        let q : a ≡ x = cc in
        let v : ys ≡ xs = cc in
        Seen.leaf (fields_used y l (omega arith) m g h) (y.symbol ∙ q) (y.parent l) y.production (rw q at o) (y.first (omega arith)) (rw (← y.next m, v) at k)
    seen {f} {fs} {x = x} {xs = xs} e l (Walks.visit {es = es} w (Stands.node {M = M} {γ = γ} {xs = ys} i r h c m) k) =
        let y = fields b f.slot h in
        let q : M ≡ x = cc in
        let v : ys ≡ xs = cc in
        let o = rule_row rows head r in
        Seen.node {q = o.row} (fields_used y l c m (omega arith) h) (y.symbol ∙ q) (y.parent l) (y.production ∙ o.number) o.low (sym o.left ∙ q) (y.tag (omega arith))
        (rw (← y.next m, ← y.first c, v, o.body) at k)

  -- the slot s where x is expected below `par`, with xs behind it
  module _ (S : ℕ) (b : List ℕ) (s par x : ℕ) (xs : List ℕ) where
    abbrev pub ahead : Frame
    ahead = frame s par (x ∷ xs)

    abbrev pub behind : Frame
    behind = frame (next_in b s) par xs

    abbrev pub written : Node
    written = node_of s (symbol_in b s) (production_in b s) (tag_in b s)

    -- ---- where the walk stops

    module _ (fs : List Frame) (l : par < 65536) where
      stuck_seen : (Seen S b s par x xs fs → ⊥) → Stuck G· S b (ahead ∷ fs)
      stuck_seen k = record { no = λ es h. k (seen refl l h) }

      pub stuck_unfit : (Looks b s x → Kin rows head.t head.count x (production_in b s) (tag_in b s) None) → Stuck G· S b (ahead ∷ fs)
      stuck_unfit k = stuck_seen go
        where
          none : Kin rows head.t head.count x (production_in b s) (tag_in b s) None → Seen S b s par x xs fs → ⊥
          none (Kin.none a c) (Seen.leaf u i p z w y h) = a z w
          none (Kin.none a c) (Seen.node {q = q} u i p z w y g h) = c q z w y g

          go : Seen S b s par x xs fs → ⊥
          go (Seen.leaf u i p z w y h) = none (k (record { used = u; symbol = i })) (Seen.leaf u i p z w y h)
          go (Seen.node {q = q} u i p z w y g h) = none (k (record { used = u; symbol = i })) (Seen.node {q = q} u i p z w y g h)

      pub stuck_behind : (next_in b s ≡ 0 → ⊥) → xs ≡ [] → Stuck G· S b (ahead ∷ fs)
      stuck_behind m z = stuck_seen go
        where
          go : Seen S b s par x xs fs → ⊥
          go (Seen.leaf u i p o w y h) = blocked fs behind m z h (frame 0 s [] ∷ []) refl
          go (Seen.node {q = q} u i p o w y g h) = blocked fs behind m z h (frame (first_in b s) s (body_at rows q) ∷ []) refl

      pub stuck_stray : {k : Option Kids} {r leaf : ℕ} → Kin rows head.t head.count x (production_in b s) (tag_in b s) k → Counts k r leaf → (Hangs b s par r → ⊥) → Stuck G· S b (ahead ∷ fs)
      stuck_stray h c m = stuck_seen (λ y. m (go h c y))
        where
          go : {k : Option Kids} {v l : ℕ} → Kin rows head.t head.count x (production_in b s) (tag_in b s) k → Counts k v l → Seen S b s par x xs fs → Hangs b s par v
          go k c (Seen.leaf u i p o w y h) = record { parent = p; bare = λ _. y }
          go (Kin.none _ _) c (Seen.node u i p o w y g h) = elim c [ ]
          go (Kin.leaf z' w') Counts.leaf (Seen.node {q = q} u i p o w y g h) = absurd (omega (arith, o, z'))
          go (Kin.node {q = q'} z' w' y' g' d) Counts.body (Seen.node {q = q} u i p o w y g h) =
              record {
                parent = p;
                bare = λ z. let a : q' ≡ q = omega (arith, o, z') in
                    let c : body_at rows q ≡ [] = rw a at (digits_none d z) in
                    by_cases (ℕ_discrete (first_in b s) 0) (λ e. e) (λ m. absurd (blocked (behind ∷ fs) (frame (first_in b s) s (body_at rows q)) m c h [] refl));
              }

    -- ---- the node that stands there

    -- a node without children
    pub stands_bare : {k : Option Kids} {r leaf : ℕ} → Meets rows head.t head.count b s par x k → Counts k r leaf → r ≡ 0 → next_in b s < 65536 → Stands G· b ahead written (frame 0 s []) behind
    unfolding grammar_in
    stands_bare h k e ln = go h.kin k e
      where
        f : Looks b s x
        f = h.looks

        a : parent_in b s ≡ par
        a = (h.hangs k).parent

        o : first_in b s ≡ 0
        o = (h.hangs k).bare e

        go : {k : Option Kids} {v l : ℕ} → Kin rows head.t head.count x (production_in b s) (tag_in b s) k → Counts k v l → v ≡ 0 → Stands G· b ahead written (frame 0 s []) behind
        go (Kin.none _ _) c e = elim c [ ]
        go (Kin.leaf z y) Counts.leaf e =
            let q : slot_at b s ≡ slot_bytes x 0 par 0 (next_in b s) (tag_in b s) = rw (f.symbol, z, a, o) at f.used.is in
            let j : leaf_node s x (tag_in b s) ≡ written = let i = f.symbol in cc in
            let st : Stands G· b ahead (leaf_node s x (tag_in b s)) (frame 0 s []) behind = Stands.leaf refl y q ln h.tag in
            rw j at st
        go (Kin.node {q = q} z y c g d) Counts.body e =
            let u : slot_at b s ≡ slot_bytes x (suc q) par 0 (next_in b s) 0 = rw (f.symbol, z, a, o, g) at f.used.is in
            let j : inner_node s x (suc q) ≡ written = let i = f.symbol in cc in
            let r : Rule G· (suc q) x (body_at rows q) = rw c at (rule_at rows head q y) in
            let r' : Rule G· (suc q) x [] = rw (digits_none d e) at r in
            let st : Stands G· b ahead (inner_node s x (suc q)) (frame 0 s []) behind = Stands.node refl r' u (omega arith) ln in
            rw j at st

    -- a node with children, which have these symbols
    pub record Bears (r : ℕ) : Type 0 where
      pub symbols : List ℕ
      pub digits : Digits symbols r
      pub stands : Stands G· b ahead written (frame (first_in b s) s symbols) behind

    pub stands_bearing : {k : Option Kids} {r leaf : ℕ} → Meets rows head.t head.count b s par x k → Counts k r leaf → (r ≡ 0 → ⊥) → first_in b s < 65536 → next_in b s < 65536 → Bears r
    unfolding grammar_in
    stands_bearing h k m lf ln = go h.kin k m
      where
        f : Looks b s x
        f = h.looks

        a : parent_in b s ≡ par
        a = (h.hangs k).parent

        go : {k : Option Kids} {v l : ℕ} → Kin rows head.t head.count x (production_in b s) (tag_in b s) k → Counts k v l → (v ≡ 0 → ⊥) → Bears v
        go (Kin.none _ _) c m = elim c [ ]
        go (Kin.leaf z y) Counts.leaf m = absurd (m refl)
        go (Kin.node {q = q} z y c g d) Counts.body m =
            let u : slot_at b s ≡ slot_bytes x (suc q) par (first_in b s) (next_in b s) 0 = rw (f.symbol, z, a, g) at f.used.is in
            let j : inner_node s x (suc q) ≡ written = let i = f.symbol in cc in
            let r : Rule G· (suc q) x (body_at rows q) = rw c at (rule_at rows head q y) in
            let st : Stands G· b ahead (inner_node s x (suc q)) (frame (first_in b s) s (body_at rows q)) behind = Stands.node refl r u lf ln in
            record { symbols = body_at rows q; digits = d; stands = rw j at st }
