-- The steps go down the stems, the bits are their symbols, and the entries are the break points.
use Prim.Native.Nat.{ℕ, zero, suc, ◌+◌, ◌-◌, ◌*◌, ◌/◌, ◌%◌, ◌^◌, ◌≤◌, ◌<◌}
use Rattle.std.specs.Prelude.{◌≡◌, refl, ◌↔◌, ◌⊎◌, eqb, Option, unwrap_or, None}
use Rattle.std.proofs.Math.Path.{ap}
use Rattle.std.proofs.Common.{◌∙◌}
use Rattle.std.proofs.Math.Bool.{true, false}
use Rattle.std.proofs.Math.Logic.{inl, inr}
use mathlib.Core.List.{List, [], ◌∷◌, ◌++◌, Memᴰ}
use Rattle.std.proofs.Math.ListN.{length, get_or}
use Rattle.std.specs.Int.Bits.{bit_or}
use borrow.Author.Tests.{ne_eqb, eqb-true, eqb-false, le-leb, lt-leb}
use native.Mathlib.Omega.{arith}
use Rattle.base.specs.Choose.{choose, choose_of}
use Rattle.base.specs.Bits.{Has, or_has, has_or_left, has_or_right, one_has, has_one, none_has, odd_has, has_odd}
use Rattle.grammar.specs.Limits.{max_terminals, max_nonterminals, columns}
use Rattle.grammar.specs.Each.{Each}
use Rattle.grammar.specs.Grammar.{Grammar, Rule, Terminal}
use Rattle.grammar.specs.Derivation.{First}
use Rattle.grammar.specs.Rules.{rule_left}
use Rattle.grammar.specs.Prediction.{by_first, Highest, Break, not_first, both_first, may_vanish, no_break_lem, Prepared}
use Rattle.grammar.specs.Rows.{symbol_space, length_at, grammar_in, symbols_small, left_small}
use Rattle.grammar.specs.RowRules.{body_at, rule_at, rule_row}
use Rattle.grammar.specs.declared.Head.{Head}
use Rattle.sets.specs.Words.{follows}
use Rattle.sets.specs.Closures.{Vanish, v_nil, vanish_join, Begin, b_here, b_rule, b_skip, begin_left, begin_right, begin_terminal, begin_first, first_begin, follow_after, after_follow}
use Rattle.sets.specs.Known.{Known, known_null, known_first, known_after}
use Rattle.predictions.specs.Hits.{hasb, hasb_has, has_hasb, hasb_not, Hit, hit_exactly}
use Rattle.predictions.specs.Paths.{Chosen, by_begin, Path, p_end, p_down, path_begin, begin_path, unique, rule_body}
use Rattle.predictions.specs.Stems.{single, path_stem, reach}
use Rattle.predictions.specs.Listing.{Cell, empty, full, Listed}
use Rattle.predictions.specs.Verdict.{predicts_hit}
use Rattle.tables.specs.Cells.{lead, step_of, next, stem_bits, shared_from, behind_of, point_of}
use Rattle.tables.specs.Short.{short}

begin_cons : {G : Grammar} {a x : ℕ} {xs : List ℕ} → (Begin G a (x ∷ []) → ⊥) → Begin G a (x ∷ xs) → Vanish G (x ∷ []) × Begin G a xs
begin_cons n (b_here t) = absurd (n (b_here t))
begin_cons n (b_rule r b) = absurd (n (b_rule r b))
begin_cons n (b_skip v b) = (v, b)

-- the first symbol of a body that a begins, with what may vanish before it
record Led (G : Grammar) (a : ℕ) (xs : List ℕ) (x : ℕ) : Type 0 where
  front : List ℕ
  back : List ℕ
  is : xs ≡ front ++ x ∷ back
  gone : Vanish G front
  begins : Begin G a (x ∷ [])

module _ (rows : List ℕ) (head : Head) (s : List ℕ) (known : Known (grammar_in rows head) s) (ok : Prepared (grammar_in rows head))
    (cells : List ℕ) (listed : Listed rows s head.t head.count cells None) where
  abbrev G : Grammar
  G = grammar_in rows head

  few : head.t ≤ max_terminals
  unfolding grammar_in
  few = ok.formed.head.terminals.1

  small_t : G.t < symbol_space
  small_t = omega (arith, ok.formed.head.terminals.1)

  some_n : head.n ≤ max_nonterminals
  unfolding grammar_in
  some_n = ok.formed.head.nonterminals.1

  rule_small : (p M : ℕ) (γ : List ℕ) → Rule G p M γ → M < symbol_space
  rule_small p M γ r = let q = rule_row rows head r in rw q.left (left_small rows q.row)

  pub terminal_of : {a : ℕ} → Terminal G a → (0 < a) × (a ≤ head.t)
  unfolding grammar_in
  terminal_of w = (omega (arith, w.0), w.1)

  -- a rule's left side has a row
  pub row_of : {p M : ℕ} {γ : List ℕ} → Rule G p M γ → (head.t < M) × (M ≤ head.t + head.n)
  unfolding grammar_in
  row_of r = let q = rule_left ok.formed r in (q.0, q.1)

  pub begin_known : (x a : ℕ) → x < symbol_space → 0 < a → hasb (get_or s x 0) a ≡ true → Begin G a (x ∷ [])
  begin_known x a l w e = first_begin ((known_first known x a l w).0 (hasb_has (get_or s x 0) a e))

  begin_not : (x a : ℕ) → x < symbol_space → 0 < a → hasb (get_or s x 0) a ≡ false → Begin G a (x ∷ []) → ⊥
  begin_not x a l w e b = hasb_not (get_or s x 0) a e ((known_first known x a l w).1 (begin_first b))

  pub behind : (M N a : ℕ) → M < symbol_space → First G a (N ∷ []) → (First G a (M ∷ []) → ⊥) → Break G M N a (behind_of s M N a)
  unfolding behind_of
  behind M N a lM fN nM =
      choose_of (Break G M N a) (eqb (get_or s M 0 % 2) 1) _ _
      (λ v. choose_of (Break G M N a) (hasb (get_or s (follows + M) 0) a) _ _
      (λ f. may_vanish fN nM ((known_null known M lM).0 (odd_has (get_or s M 0) (eqb-true _ _ v))) (after_follow (reach ok.formed ok.useful) ((known_after known M a lM).0 (hasb_has _ a f))))
      (λ f. no_break_lem fN nM (λ _ c. hasb_not _ a f ((known_after known M a lM).1 (follow_after c)))))
      (λ v. no_break_lem fN nM (λ c _. eqb-false _ _ v (has_odd _ ((known_null known M lM).1 c))))

  lead_led : (a : ℕ) (xs : List ℕ) → 0 < a → Each (λ x. x < symbol_space) xs → Begin G a xs → Led G a xs (unwrap_or (lead s a xs) 0)
  unfolding lead
  lead_led a [] w l b = elim b [ ]
  lead_led a (x ∷ xs) w (Each.cons l ls) b =
      choose_of (λ (v : Option ℕ). Led G a (x ∷ xs) (unwrap_or v 0)) (hasb (get_or s x 0) a) _ _
      (λ e. record { front = []; back = xs; is = refl; gone = v_nil; begins = begin_known x a l w e })
      (λ e. let q = begin_cons (begin_not x a l w e) b in
      let h = lead_led a xs w ls q.1 in
      record { front = x ∷ h.front; back = h.back; is = ap (λ (u : List ℕ). x ∷ u) h.is; gone = vanish_join q.0 h.gone; begins = h.begins })

  -- ---- the steps

  path_small : {a M : ℕ} {u : List ℕ} → Path G a M u → M < symbol_space
  path_small (p_end w) = omega (arith, (terminal_of w).1, few)
  path_small (p_down {p = p} {M = M} {γ = γ} α β r e v h) = rule_small p M γ r

  cell_step : {a p M v : ℕ} {γ : List ℕ} → a < columns → 0 < a → Rule G p M γ → Begin G a γ → Cell rows s head.count M a v → Led G a γ (unwrap_or (lead s a (body_at rows (v - 1))) 0)
  cell_step {a} {p} {M} {v} {γ} k w r b c = go v c (predicts_hit rows head s known ok.formed (by_first r (begin_first b)))
    where
      go : (v : ℕ) → Cell rows s head.count M a v → ((q : ℕ) × (p ≡ suc q) × (q < head.count) × Hit rows s q M a) → Led G a γ (unwrap_or (lead s a (body_at rows (v - 1))) 0)
      go zero (empty f) (q, e, l, h) = absurd (f q l h)
      go (suc j) (full l h) (q, e, i, h') =
          let z : suc j - 1 ≡ j = omega arith in
          let rj : Rule G (suc j) M (body_at rows j) = rw h.left at (rule_at rows head j l) in
          let cj : Chosen G a M (body_at rows j) = rw h.left at ((hit_exactly rows head s known j a).0 h.has) in
          let y : p ≡ suc j = (single ok).same a M p (suc j) γ (body_at rows j) r rj (by_begin b) cj in
          let x : γ ≡ body_at rows j = rule_body (single ok) y r rj in
          rw (z, x) (lead_led a (body_at rows j) w (symbols_small rows j (length_at rows j) 0) (rw x at b))

  down_path : {a M x : ℕ} {u γ : List ℕ} {p : ℕ} (α β : List ℕ) → Rule G p M γ → γ ≡ α ++ x ∷ β → Vanish G α → Path G a x u
      → (y : ℕ) → Led G a γ y → Path G a y u
  down_path {u = u} α β r e v h y w =
      let q = begin_path w.begins in
      let z = unique (single ok) (p_down α β r e v h) (p_down w.front w.back r w.is w.gone q.1) in
      let d : q.0 ≡ u = cc in
      rw d at q.1

  module _ (steps : List ℕ) (filled : (R a : ℕ) → R < head.n → a < head.t + 1 → get_or steps (R * columns + a) 0 ≡ step_of rows s cells head.t (R * columns + a)) where
    pub next_path : {a M x : ℕ} {u γ : List ℕ} {p : ℕ} (α β : List ℕ) → Rule G p M γ → γ ≡ α ++ x ∷ β → Vanish G α → Path G a x u → Path G a (next steps head.t a M) u
    unfolding next step_of choose
    next_path {a} {M} {x} {u} {γ} {p} α β r e v h =
        let b : Begin G a γ = rw e (begin_right v (begin_left β (path_begin h))) in
        let w = terminal_of (begin_terminal b) in
        let m = row_of r in
        let i : ℕ = (M - head.t - 1) * columns + a in
        let zi : i / columns ≡ M - head.t - 1 = omega (arith, few) in
        let za : i % columns ≡ a = omega (arith, few) in
        let zm : head.t + 1 + (M - head.t - 1) ≡ M = omega arith in
        let hm : hasb (get_or s M 0) a ≡ true = has_hasb (get_or s M 0) a ((known_first known M a (rule_small p M γ r) w.0).1 (begin_first (b_rule r b))) in
        let c : Cell rows s head.count M a (get_or cells i 0) = rw zm at (listed.cell (M - head.t - 1) a (omega (arith, some_n)) (omega (arith, few))) in
        let f : get_or steps i 0 ≡ unwrap_or (lead s a (body_at rows (get_or cells i 0 - 1))) 0 =
        filled (M - head.t - 1) a (omega (arith, m.0, m.1)) (omega (arith, w.1)) ∙ rw (za, zi, zm, ne_eqb a 0 (omega arith), hm)
        in
        let k = down_path α β r e v h (unwrap_or (lead s a (body_at rows (get_or cells i 0 - 1))) 0) (cell_step (omega (arith, few)) w.0 r b c) in
        let l : unwrap_or (lead s a (body_at rows (get_or cells i 0 - 1))) 0 % symbol_space ≡ unwrap_or (lead s a (body_at rows (get_or cells i 0 - 1))) 0 = omega (arith, path_small k) in
        rw (f, l) k

    -- ---- the symbols of a stem as bits

    bits_in : {a x : ℕ} {u : List ℕ} (k acc y : ℕ) → Path G a x u → length u ≤ k → Has acc y ⊎ Memᴰ y u → Has (stem_bits steps head.t a k x acc) y
    unfolding stem_bits choose
    bits_in zero acc y h l m = absurd (go h l)
      where
        go : {a x : ℕ} {u : List ℕ} → Path G a x u → length u ≤ 0 → ⊥
        go (p_end w) l = omega arith
        go (p_down α β r e v h) l = omega arith
    bits_in {a} (suc k) acc y (p_end w) l m =
        rw (le-leb a head.t (terminal_of w).1) (pick m)
      where
        pick : Has acc y ⊎ Memᴰ y (a ∷ []) → Has (bit_or acc (2 ^ a)) y
        pick (inl h) = has_or_left acc (2 ^ a) y h
        pick (inr (Memᴰ.head e)) = has_or_right acc (2 ^ a) y (rw e (one_has a))
        pick (inr (Memᴰ.tail e)) = elim e [ ]
    bits_in {a} (suc k) acc y (p_down {M = M} {s = u} α β r e v h) l m =
        rw (lt-leb M head.t (row_of r).0)
        (bits_in {x = next steps head.t a M} k (bit_or acc (2 ^ M)) y (next_path α β r e v h) (omega arith) (pick m))
      where
        pick : Has acc y ⊎ Memᴰ y (M ∷ u) → Has (bit_or acc (2 ^ M)) y ⊎ Memᴰ y u
        pick (inl q) = inl (has_or_left acc (2 ^ M) y q)
        pick (inr (Memᴰ.head q)) = inl (has_or_right acc (2 ^ M) y (rw q (one_has M)))
        pick (inr (Memᴰ.tail q)) = inr q

    bits_out : {a x : ℕ} {u : List ℕ} (k acc y : ℕ) → Path G a x u → Has (stem_bits steps head.t a k x acc) y → Has acc y ⊎ Memᴰ y u
    unfolding stem_bits choose
    bits_out zero acc y h q = inl q
    bits_out {a} (suc k) acc y (p_end w) q = pick (or_has acc (2 ^ a) y (rw (le-leb a head.t (terminal_of w).1) at q))
      where
        pick : Has acc y ⊎ Has (2 ^ a) y → Has acc y ⊎ Memᴰ y (a ∷ [])
        pick (inl h) = inl h
        pick (inr h) = inr (Memᴰ.head (has_one a y h))
    bits_out {a} (suc k) acc y (p_down {M = M} {s = u} α β r e v h) q =
        let n = next_path α β r e v h in
        pick (bits_out {x = next steps head.t a M} k (bit_or acc (2 ^ M)) y n (rw (lt-leb M head.t (row_of r).0) at q))
      where
        pick2 : Has acc y ⊎ Has (2 ^ M) y → Has acc y ⊎ Memᴰ y (M ∷ u)
        pick2 (inl g) = inl g
        pick2 (inr g) = inr (Memᴰ.head (has_one M y g))

        pick : Has (bit_or acc (2 ^ M)) y ⊎ Memᴰ y u → Has acc y ⊎ Memᴰ y (M ∷ u)
        pick (inl g) = pick2 (or_has acc (2 ^ M) y g)
        pick (inr g) = inr (Memᴰ.tail g)

    -- ---- the highest shared symbol

    pub last_of : {a x : ℕ} {u : List ℕ} → Path G a x u → Memᴰ a u
    last_of (p_end w) = Memᴰ.head refl
    last_of (p_down α β r e v h) = Memᴰ.tail (last_of h)

    shared_highest : {a x : ℕ} {u : List ℕ} (u' : List ℕ) (mask k : ℕ) → ((y : ℕ) → Has mask y ↔ Memᴰ y u') → Memᴰ a u' → Path G a x u → length u ≤ k
        → Highest (shared_from steps head.t a mask k x) u u'
    unfolding shared_from
    shared_highest {a} {x} u' mask zero bits m h l = absurd (go h l)
      where
        go : {a x : ℕ} {u : List ℕ} → Path G a x u → length u ≤ 0 → ⊥
        go (p_end w) l = omega arith
        go (p_down α β r e v h) l = omega arith
    shared_highest {a} u' mask (suc k) bits m (p_end w) l =
        choose_of (λ r. Highest r (a ∷ []) u') (hasb mask a) _ _
        (λ e. record { above = []; below = []; is = refl; shared = m; first = λ y i. elim i [ ] })
        (λ e. absurd (hasb_not mask a e ((bits a).1 m)))
    shared_highest {a} u' mask (suc k) bits m (p_down {M = M} {s = u} α β r e v h) l =
        choose_of (λ q. Highest q (M ∷ u) u') (hasb mask M) _ _
        (λ z. record { above = []; below = u; is = refl; shared = (bits M).0 (hasb_has mask M z); first = λ y i. elim i [ ] })
        (λ z. let n = next_path α β r e v h in
        let g = shared_highest {x = next steps head.t a M} u' mask k bits m n (omega arith) in
        record {
          above = M ∷ g.above;
          below = g.below;
          is = ap (λ (w : List ℕ). M ∷ w) g.is;
          shared = g.shared;
          first = λ y i j. pick g z y i j;
        })
      where
        pick : {q : ℕ} (g : Highest q u u') → hasb mask M ≡ false → (y : ℕ) → Memᴰ y (M ∷ g.above) → Memᴰ y u' → ⊥
        pick g z y (Memᴰ.head i) j = hasb_not mask M z ((bits M).1 (rw i at j))
        pick g z y (Memᴰ.tail i) j = g.first y i j

    -- ---- the break point

    pub point : (M N a mask : ℕ) → M < symbol_space → N < symbol_space → a < columns → mask ≡ stem_bits steps head.t a symbol_space N 0 → Break G M N a (point_of s steps head.t M N a mask)
    unfolding point_of
    point M N a mask lM lN k em =
        choose_of (Break G M N a) (eqb a 0) _ _ (λ e. not_first (λ f. omega (arith, eqb-true a 0 e, f.0.0)))
        (λ e. let w : 0 < a = omega (arith, eqb-false a 0 e) in
        choose_of (Break G M N a) (hasb (get_or s N 0) a) _ _
        (λ h. let bN = begin_known N a lN w h in
        choose_of (Break G M N a) (hasb (get_or s M 0) a) _ _
        (λ g. let bM = begin_known M a lM w g in
        let x = begin_path bM in
        let z = begin_path bN in
        both_first (begin_first bN) (begin_first bM) (path_stem x.1) (path_stem z.1)
        (shared_highest z.0 mask symbol_space
        (λ y. (λ q. gather (bits_out symbol_space 0 y z.1 (rw em at q)), λ q. rw em (bits_in symbol_space 0 y z.1 (stem_short z.1) (inr q))))
        (last_of z.1) x.1 (stem_short x.1)))
        (λ g. behind M N a lM (begin_first bN) (λ f. begin_not M a lM w g (first_begin f))))
        (λ h. not_first (λ f. begin_not N a lN w h (first_begin f))))
      where
        gather : {y : ℕ} {u : List ℕ} → Has 0 y ⊎ Memᴰ y u → Memᴰ y u
        gather {y} (inl q) = absurd (none_has y q)
        gather (inr q) = q

        stem_short : {M : ℕ} {u : List ℕ} → Path G a M u → length u ≤ symbol_space
        stem_short h = short (single ok) rule_small small_t h
