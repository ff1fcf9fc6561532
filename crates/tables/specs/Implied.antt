-- Break points from break points: one follows from those of the symbols below on either stem, so that bytes which imply themselves are the break points.
use Rattle.std.specs.Prelude.{ℕ, zero, suc, ◌+◌, ◌-◌, ◌*◌, ◌/◌, ◌%◌, ◌≤◌, ◌<◌, ◌≡◌, length, eqb, leb, None}
use Rattle.std.proofs.Math.Path.{refl, ap, subst}
use Rattle.std.proofs.Common.{sym, ◌∙◌}
use mathlib.Core.List.{List, [], ◌∷◌, Memᴰ}
use Rattle.std.proofs.Math.ListN.{get_or}
use borrow.Author.Tests.{ne_eqb, eqb-true, eqb-false, leb-true, leb-false}
use native.Mathlib.Omega.{arith}
use Rattle.base.specs.Choose.{choose, choose_of}
use Rattle.grammar.specs.Limits.{max_terminals, max_nonterminals, columns}
use Rattle.grammar.specs.Grammar.{Grammar}
use Rattle.grammar.specs.Prediction.{Highest, Break, not_first, both_first, may_vanish, no_break_lem, Prepared}
use Rattle.grammar.specs.Rows.{grammar_in}
use Rattle.grammar.specs.declared.Head.{Head}
use Rattle.sets.specs.Closures.{Begin, begin_first, first_begin}
use Rattle.sets.specs.Known.{Known}
use Rattle.predictions.specs.Hits.{hasb}
use Rattle.predictions.specs.Paths.{Path, p_end, p_down, path_begin, begin_path, unique}
use Rattle.predictions.specs.Stems.{single, path_stem, stem_one}
use Rattle.predictions.specs.Listing.{Listed}
use Rattle.tables.specs.Tables.{break_place}
use Rattle.tables.specs.Cells.{step_of, next, step_at, down_of, meet_of, implied_of}
use Rattle.tables.specs.Points.{terminal_of, row_of, begin_known, behind, next_path, last_of}
use Rattle.tables.specs.One.{highest_one, break_one}

-- ---- highest shared symbols

highest_top : {M : ℕ} {u u' : List ℕ} → Memᴰ M u' → Highest M (M ∷ u) u'
highest_top {M} {u} m = record { above = []; below = u; is = refl; shared = m; first = λ y i. elim i [ ] }

highest_down : {x M : ℕ} {u u' : List ℕ} → (Memᴰ M u' → ⊥) → Highest x u u' → Highest x (M ∷ u) u'
highest_down {M = M} {u' = u'} n h =
    record { above = M ∷ h.above; below = h.below; is = ap (λ (l : List ℕ). M ∷ l) h.is; shared = h.shared; first = go h.first }
  where
    go : {v : List ℕ} → ((y : ℕ) → Memᴰ y v → Memᴰ y u' → ⊥) → (y : ℕ) → Memᴰ y (M ∷ v) → Memᴰ y u' → ⊥
    go f y (Memᴰ.head e) m = n (rw e at m)
    go f y (Memᴰ.tail i) m = f y i m

-- not on a stem that begins with another symbol

apart : {M N : ℕ} {u v : List ℕ} → u ≡ N ∷ v → (M ≡ N → ⊥) → (Memᴰ M v → ⊥) → Memᴰ M u → ⊥
apart {M} {N} {u} {v} e f g m = go (subst (Memᴰ M) e m)
  where
    go : Memᴰ M (N ∷ v) → ⊥
    go (Memᴰ.head q) = f q
    go (Memᴰ.tail i) = g i

alone : {M N : ℕ} {u : List ℕ} → u ≡ N ∷ [] → (M ≡ N → ⊥) → Memᴰ M u → ⊥
alone e f = apart e f (λ i. elim i [ ])

module _ (rows : List ℕ) (head : Head) (s : List ℕ) (known : Known (grammar_in rows head) s) (ok : Prepared (grammar_in rows head))
    (cells : List ℕ) (listed : Listed rows s head.t head.count cells None)
    (steps : List ℕ) (filled : (R a : ℕ) → R < head.n → a < head.t + 1 → get_or steps (R * columns + a) 0 ≡ step_of rows s cells head.t (R * columns + a)) where
  abbrev G : Grammar
  G = grammar_in rows head

  few : head.t ≤ max_terminals
  unfolding grammar_in
  few = ok.formed.head.terminals.1

  some_n : head.n ≤ max_nonterminals
  unfolding grammar_in
  some_n = ok.formed.head.nonterminals.1

  -- the stem of a row's symbol, from the symbol below on
  record Below (a R : ℕ) (u : List ℕ) : Type 0 where
    rest : List ℕ
    is : u ≡ (head.t + 1 + R) ∷ rest
    path : Path G a (step_at steps (R * columns + a)) rest

  below : {a : ℕ} {u : List ℕ} (R : ℕ) → Path G a (head.t + 1 + R) u → Below a R u
  unfolding next
  below R h = go refl h
    where
      go : {a M : ℕ} {u : List ℕ} → M ≡ head.t + 1 + R → Path G a M u → Below a R u
      go e (p_end w) = absurd (omega (arith, (terminal_of rows head s known ok cells listed w).1))
      go e (p_down {M = M} {s = v} α β r q c k) =
          let z : M - head.t - 1 ≡ R = omega arith in
          record { rest = v; is = ap (λ (x : ℕ). x ∷ v) e; path = rw z at (next_path rows head s known ok cells listed steps filled α β r q c k) }

  -- a symbol on a stem is the terminal at its end, or has a row
  terminal_path : {a x : ℕ} {u : List ℕ} → x ≤ head.t → Path G a x u → (x ≡ a) × (u ≡ a ∷ [])
  terminal_path l (p_end w) = (refl, refl)
  terminal_path l (p_down α β r q c k) = absurd (omega (arith, (row_of rows head s known ok cells listed r).0))

  row_path : {a x : ℕ} {u : List ℕ} → head.t < x → Path G a x u → x ≤ head.t + head.n
  row_path l (p_end w) = absurd (omega (arith, (terminal_of rows head s known ok cells listed w).1))
  row_path l (p_down α β r q c k) = (row_of rows head s known ok cells listed r).1

  some_path : {a x : ℕ} {u : List ℕ} → Path G a x u → 0 < x
  some_path (p_end w) = (terminal_of rows head s known ok cells listed w).0
  some_path (p_down α β r q c k) = omega (arith, (row_of rows head s known ok cells listed r).0)

  -- ---- a step is 0 exactly where the symbol does not begin with a

  step_none : (R a : ℕ) → step_at steps (R * columns + a) ≡ 0 → Begin G a ((head.t + 1 + R) ∷ []) → ⊥
  step_none R a e b = let h = below R (begin_path b).1 in omega (arith, some_path h.path)

  step_some : (R a : ℕ) → R < head.n → a < head.t + 1 → (step_at steps (R * columns + a) ≡ 0 → ⊥) → Begin G a ((head.t + 1 + R) ∷ [])
  unfolding step_of
  step_some R a l m f =
      let zq : (R * columns + a) / columns ≡ R = omega (arith, few) in
      let za : (R * columns + a) % columns ≡ a = omega (arith, few) in
      choose_of (λ v. v ≡ get_or steps (R * columns + a) 0 → Begin G a ((head.t + 1 + R) ∷ [])) (eqb ((R * columns + a) % columns) 0) _ _
      (λ e q. absurd (f (omega (arith, q))))
      (λ e. choose_of (λ v. v ≡ get_or steps (R * columns + a) 0 → Begin G a ((head.t + 1 + R) ∷ [])) (hasb (get_or s (head.t + 1 + (R * columns + a) / columns) 0) ((R * columns + a) % columns)) _ _
      (λ g q. begin_known rows head s known ok cells listed (head.t + 1 + R) a (omega (arith, few, some_n)) (omega (arith, eqb-false ((R * columns + a) % columns) 0 e)) (rw (zq, za) at g))
      (λ g q. absurd (f (omega (arith, q)))))
      (sym (filled R a l m))

  module _ (w : List ℕ) (a : ℕ) (small : a < head.t + 1) where
    abbrev cell : ℕ → ℕ → ℕ
    cell R Q = get_or w (break_place R Q a) 0

    module _ (R Q : ℕ) (lR : R < head.n) (lQ : Q < head.n) {u u' : List ℕ} (h : Path G a (head.t + 1 + R) u) (h' : Path G a (head.t + 1 + Q) u')
        (hM : (x : ℕ) (v : List ℕ) → x < head.n → Path G a (head.t + 1 + x) v → u ≡ (head.t + 1 + R) ∷ v → Highest (cell x Q) v u')
        (hN : (y : ℕ) (v : List ℕ) → y < head.n → Path G a (head.t + 1 + y) v → u' ≡ (head.t + 1 + Q) ∷ v → Highest (cell R y) u v) where
      down_highest : (Memᴰ (head.t + 1 + R) u' → ⊥) → Highest (down_of steps head.t w R Q a) u u'
      unfolding down_of
      down_highest apart =
          let b = below R h in
          subst (λ (l : List ℕ). Highest (down_of steps head.t w R Q a) l u') (sym b.is) (highest_down apart
          (choose_of (λ v. Highest v b.rest u') (leb (step_at steps (R * columns + a)) head.t) _ _
          (λ e. let q = terminal_path (leb-true (step_at steps (R * columns + a)) head.t e) b.path in
          rw (q.0, q.1) (highest_top (last_of rows head s known ok cells listed steps filled h')))
          (λ e. let l = leb-false (step_at steps (R * columns + a)) head.t e in
          let z : head.t + 1 + (step_at steps (R * columns + a) - head.t - 1) ≡ step_at steps (R * columns + a) = omega arith in
          hM (step_at steps (R * columns + a) - head.t - 1) b.rest (omega (arith, row_path l b.path)) (rw z b.path) b.is)))

      meet_highest : Highest (meet_of steps head.t w R Q a) u u'
      unfolding meet_of
      meet_highest =
          let b = below R h in
          let b' = below Q h' in
          choose_of (λ v. Highest v u u') (eqb R Q) _ _
          (λ e. let q : R ≡ Q = eqb-true R Q e in
          let k : u ≡ u' = unique (single ok) h (rw (← q) at h') in
          rw (← k, b.is) (highest_top (Memᴰ.head refl)))
          (λ e. let d = eqb-false R Q e in
          choose_of (λ v. Highest v u u') (leb (step_at steps (Q * columns + a)) head.t) _ _
          (λ l. let q = terminal_path (leb-true (step_at steps (Q * columns + a)) head.t l) b'.path in
          down_highest (apart b'.is (λ z. d (omega arith)) (alone q.1 (λ z. omega (arith, leb-true (step_at steps (Q * columns + a)) head.t l, q.0)))))
          (λ l. let k = leb-false (step_at steps (Q * columns + a)) head.t l in
          let z : head.t + 1 + (step_at steps (Q * columns + a) - head.t - 1) ≡ step_at steps (Q * columns + a) = omega arith in
          let g = hN (step_at steps (Q * columns + a) - head.t - 1) b'.rest (omega (arith, row_path k b'.path)) (rw z b'.path) b'.is in
          choose_of (λ v. Highest v u u') (eqb (cell R (step_at steps (Q * columns + a) - head.t - 1)) (head.t + 1 + R)) _ _
          (λ f. let q : cell R (step_at steps (Q * columns + a) - head.t - 1) ≡ head.t + 1 + R = eqb-true _ _ f in
          rw (b.is, b'.is) (highest_top (Memᴰ.tail (rw q at g.shared))))
          (λ f. down_highest (apart b'.is (λ z. d (omega arith)) (λ i. eqb-false _ _ f (highest_one g (rw b.is (highest_top i))))))))

      -- of the two stems the break point is what the code finds, where both begin with a
      implied_both : implied_of s steps head.t w R (Q * columns + a) ≡ meet_of steps head.t w R Q a
      unfolding implied_of choose
      implied_both =
          let zq : (Q * columns + a) / columns ≡ Q = omega (arith, few, small) in
          let za : (Q * columns + a) % columns ≡ a = omega (arith, few, small) in
          rw (zq, za, ne_eqb (step_at steps (Q * columns + a)) 0 (λ e. step_none Q a e (path_begin h')), ne_eqb (step_at steps (R * columns + a)) 0 (λ e. step_none R a e (path_begin h)))

    -- what is implied where all below is right, is right
    implied_break : (R Q : ℕ) → R < head.n → Q < head.n → ((u u' : List ℕ) → Path G a (head.t + 1 + R) u → Path G a (head.t + 1 + Q) u' → Highest (meet_of steps head.t w R Q a) u u')
        → Break G (head.t + 1 + R) (head.t + 1 + Q) a (implied_of s steps head.t w R (Q * columns + a))
    unfolding implied_of
    implied_break R Q lR lQ f =
        let zq : (Q * columns + a) / columns ≡ Q = omega (arith, few) in
        let za : (Q * columns + a) % columns ≡ a = omega (arith, few) in
        rw (zq, za)
        (choose_of (Break G (head.t + 1 + R) (head.t + 1 + Q) a) (eqb (step_at steps (Q * columns + a)) 0) _ _
        (λ e. not_first (λ g. step_none Q a (eqb-true (step_at steps (Q * columns + a)) 0 e) (first_begin g)))
        (λ e. let bQ = step_some Q a lQ small (eqb-false (step_at steps (Q * columns + a)) 0 e) in
        choose_of (Break G (head.t + 1 + R) (head.t + 1 + Q) a) (eqb (step_at steps (R * columns + a)) 0) _ _
        (λ d. behind rows head s known ok cells listed (head.t + 1 + R) (head.t + 1 + Q) a (omega (arith, few, some_n)) (begin_first bQ)
        (λ g. step_none R a (eqb-true (step_at steps (R * columns + a)) 0 d) (first_begin g)))
        (λ d. let bR = step_some R a lR small (eqb-false (step_at steps (R * columns + a)) 0 d) in
        let x = begin_path bR in
        let y = begin_path bQ in
        both_first (begin_first bQ) (begin_first bR) (path_stem x.1) (path_stem y.1) (f x.0 y.0 x.1 y.1))))

    -- ---- bytes that imply themselves are right

    module _ (told : (R Q : ℕ) → R < head.n → Q < head.n → cell R Q ≡ implied_of s steps head.t w R (Q * columns + a)) where
      told_highest : (k R Q : ℕ) {u u' : List ℕ} → R < head.n → Q < head.n → Path G a (head.t + 1 + R) u → Path G a (head.t + 1 + Q) u' → length u + length u' ≤ k → Highest (cell R Q) u u'
      told_highest zero R Q lR lQ h h' l = absurd (omega (arith, ap length (below R h).is))
      told_highest (suc k) R Q {u} {u'} lR lQ h h' l =
          let hM : (x : ℕ) (v : List ℕ) → x < head.n → Path G a (head.t + 1 + x) v → u ≡ (head.t + 1 + R) ∷ v → Highest (cell x Q) v u' =
          λ x v lx p e. told_highest k x Q lx lQ p h' (omega (arith, ap length e)) in
          let hN : (y : ℕ) (v : List ℕ) → y < head.n → Path G a (head.t + 1 + y) v → u' ≡ (head.t + 1 + Q) ∷ v → Highest (cell R y) u v =
          λ y v ly p e. told_highest k R y lR ly h p (omega (arith, ap length e)) in
          rw (told R Q lR lQ ∙ implied_both R Q lR lQ h h' hM hN) (meet_highest R Q lR lQ h h' hM hN)

      pub told_break : (R Q : ℕ) → R < head.n → Q < head.n → Break G (head.t + 1 + R) (head.t + 1 + Q) a (cell R Q)
      told_break R Q lR lQ =
          rw (told R Q lR lQ) (implied_break R Q lR lQ (λ u u' h h'. meet_highest R Q lR lQ h h'
          (λ x v lx p e. told_highest (length v + length u') x Q lx lQ p h' (omega arith))
          (λ y v ly p e. told_highest (length u + length v) R y lR ly h p (omega arith))))

    -- ---- and right bytes imply themselves

    break_highest : {M N v : ℕ} {u u' : List ℕ} → Break G M N a v → Path G a M u → Path G a N u' → Highest v u u'
    break_highest (not_first f) h h' = absurd (f (begin_first (path_begin h')))
    break_highest (both_first f g k k' x) h h' = rw (stem_one ok (path_stem h) k, stem_one ok (path_stem h') k') x
    break_highest (may_vanish f g k k') h h' = absurd (g (begin_first (path_begin h)))
    break_highest (no_break_lem f g k) h h' = absurd (g (begin_first (path_begin h)))

    pub right_told : ((R Q : ℕ) → R < head.n → Q < head.n → Break G (head.t + 1 + R) (head.t + 1 + Q) a (cell R Q)) → (R Q : ℕ) → R < head.n → Q < head.n
        → cell R Q ≡ implied_of s steps head.t w R (Q * columns + a)
    right_told right R Q lR lQ =
        break_one ok (right R Q lR lQ) (implied_break R Q lR lQ (λ u u' h h'. meet_highest R Q lR lQ h h'
        (λ x v lx p e. break_highest (right x Q lx lQ) p h')
        (λ y v ly p e. break_highest (right R y lR ly) h p)))
