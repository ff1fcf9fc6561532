-- Listing the productions in the cells of the predictions, one after the other, and the lowest nonterminal in conflict on the way.
use Rattle.std.specs.Prelude.{ℕ, suc, ◌+◌, ◌-◌, ◌*◌, ◌≤◌, ◌<◌, ◌≡◌, refl, Bool, true, false, not, ◌||◌, Option, Some, None, unwrap_or, min, ◌⊎◌, List, length, set, eqb}
use Rattle.std.proofs.Math.Path.{sym}
use Rattle.std.proofs.Common.{ap, ◌∙◌, inl, inr, length-set, get_or-set_same, get_or-set_other, arith}
use Rattle.std.proofs.Math.Logic.{by_cases}
use Rattle.std.proofs.Math.ListN.{get_or}
use borrow.Author.Tests.{eqb-true, eqb-false}
use Rattle.std.proofs.Math.Decide.{ℕ_discrete, dec_lt}
use Rattle.base.specs.Choose.{never}
use Rattle.base.specs.Bits.{Has, has?}
use Rattle.base.specs.Blocks.{zeros, length_zeros, byte_zeros}
use Rattle.grammar.specs.Limits.{max_nonterminals, columns}
use Rattle.grammar.specs.Rows.{left_at}
use Rattle.predictions.specs.Hits.{hasb, hasb_has, hasb_not, predictors, Hit, Clash}

-- a row for each nonterminal that a grammar may have
abbrev pub cells_size : ℕ
cells_size = max_nonterminals * columns

-- ---- one production, along its row

-- the first k columns of the row at `at` list `new` where w has them; c says whether another was there
pub record Marked (w new at k : ℕ) (s s' : List ℕ) (c : Bool) : Type 0 where
  pub long : length s' ≡ length s
  pub lists : (a : ℕ) → a < k → Has w a → get_or s' (at + a) 0 ≡ new
  pub leaves : (a : ℕ) → a < k → (Has w a → ⊥) → get_or s' (at + a) 0 ≡ get_or s (at + a) 0
  pub before : (j : ℕ) → j < at → get_or s' j 0 ≡ get_or s j 0
  pub behind : (j : ℕ) → at + k ≤ j → get_or s' j 0 ≡ get_or s j 0
  pub quiet : c ≡ false → (a : ℕ) → a < k → Has w a → get_or s (at + a) 0 ≡ 0
  pub loud : c ≡ true → (a : ℕ) × (a < k) × Has w a × (get_or s (at + a) 0 ≡ 0 → ⊥)

module _ (w new at : ℕ) (s : List ℕ) where
  pub marked_none : Marked w new at 0 s s false
  marked_none =
      record {
        long = refl;
        lists = λ a l. absurd (omega arith);
        leaves = λ a l. absurd (omega arith);
        before = λ j l. refl;
        behind = λ j l. refl;
        quiet = λ e a l. absurd (omega arith);
        loud = λ e. never (cc);
      }

  module _ (s' : List ℕ) (k : ℕ) (c : Bool) (h : Marked w new at k s s' c) where
    old : get_or s' (at + k) 0 ≡ get_or s (at + k) 0
    old = h.behind (at + k) (omega arith)

    -- a cell where the production is listed
    module _ (l : at + k < length s') (q : hasb w k ≡ true) where
      crowd : (d : Bool) → (d ≡ false → get_or s' (at + k) 0 ≡ 0) → (d ≡ true → get_or s' (at + k) 0 ≡ 0 → ⊥)
          → Marked w new at (k + 1) s (set s' (at + k) new) (c || d)
      crowd d none some =
          record {
            long = simp length-set h.long;
            lists = λ a m x. by_cases (ℕ_discrete a k) (λ e. rw (e, get_or-set_same s' (at + k) new 0 l))
                (λ e. get_or-set_other s' (at + k) (at + a) new 0 (omega arith) ∙ h.lists a (omega arith) x);
            leaves = λ a m n. by_cases (ℕ_discrete a k) (λ e. absurd (n (rw e (hasb_has w k q))))
                (λ e. get_or-set_other s' (at + k) (at + a) new 0 (omega arith) ∙ h.leaves a (omega arith) n);
            before = λ j m. get_or-set_other s' (at + k) j new 0 (omega arith) ∙ h.before j m;
            behind = λ j m. get_or-set_other s' (at + k) j new 0 (omega arith) ∙ h.behind j (omega arith);
            quiet = quiet c d none h.quiet;
            loud = loud c d some h.loud;
          }
        where
          quiet : (c d : Bool) → (d ≡ false → get_or s' (at + k) 0 ≡ 0) → (c ≡ false → (a : ℕ) → a < k → Has w a → get_or s (at + a) 0 ≡ 0)
              → c || d ≡ false → (a : ℕ) → a < k + 1 → Has w a → get_or s (at + a) 0 ≡ 0
          quiet true d none g e a m x = never (cc)
          quiet false d none g e a m x = by_cases (ℕ_discrete a k) (λ z. rw z (sym old ∙ none e)) (λ z. g refl a (omega arith) x)

          loud : (c d : Bool) → (d ≡ true → get_or s' (at + k) 0 ≡ 0 → ⊥) → (c ≡ true → (a : ℕ) × (a < k) × Has w a × (get_or s (at + a) 0 ≡ 0 → ⊥))
              → c || d ≡ true → (a : ℕ) × (a < k + 1) × Has w a × (get_or s (at + a) 0 ≡ 0 → ⊥)
          loud true d some g e = let x = g refl in (x.0, omega (arith, x.1), x.2, x.3)
          loud false d some g e = (k, omega arith, hasb_has w k q, λ z. some e (old ∙ z))

      pub marked_yes : Marked w new at (k + 1) s (set s' (at + k) new) (c || not (eqb (get_or s' (at + k) 0) 0))
      marked_yes = go (eqb (get_or s' (at + k) 0) 0) (eqb-true (get_or s' (at + k) 0) 0) (eqb-false (get_or s' (at + k) 0) 0)
        where
          go : (b : Bool) → (b ≡ true → get_or s' (at + k) 0 ≡ 0) → (b ≡ false → get_or s' (at + k) 0 ≡ 0 → ⊥) → Marked w new at (k + 1) s (set s' (at + k) new) (c || not b)
          go true same other = crowd false (λ _. same refl) (λ e. never (cc))
          go false same other = crowd true (λ e. never (cc)) (λ _. other refl)

    -- one where it is not
    pub marked_no : hasb w k ≡ false → Marked w new at (k + 1) s s' c
    marked_no q =
        record {
          long = h.long;
          lists = λ a m x. by_cases (ℕ_discrete a k) (λ e. absurd (hasb_not w k q (rw e at x))) (λ e. h.lists a (omega arith) x);
          leaves = λ a m n. by_cases (ℕ_discrete a k) (λ e. rw e old) (λ e. h.leaves a (omega arith) n);
          before = h.before;
          behind = λ j m. h.behind j (omega arith);
          quiet = λ e a m x. by_cases (ℕ_discrete a k) (λ z. absurd (hasb_not w k q (rw z at x))) (λ z. h.quiet e a (omega arith) x);
          loud = λ e. let x = h.loud e in (x.0, omega (arith, x.1), x.2, x.3);
        }

  pub marked_all : (s' : List ℕ) (k m : ℕ) (c : Bool) → k ≡ m → Marked w new at k s s' c → Marked w new at m s s' c
  marked_all s' k m c e h = rw e at h

pub ruleset marking = (marked_none, marked_yes, marked_no, marked_all)

-- ---- all productions

-- a cell of row M and column a after the first k productions: one that a predicts, or 0 where there is none
pub data Cell (rows s : List ℕ) (k M a : ℕ) : ℕ → Type 0 where
  empty : ((p : ℕ) → p < k → Hit rows s p M a → ⊥) → Cell rows s k M a 0
  full : {p : ℕ} → p < k → Hit rows s p M a → Cell rows s k M a (suc p)

-- the lowest nonterminal in conflict among the first k
pub data Low (rows s : List ℕ) (k : ℕ) : Option ℕ → Type 0 where
  none : ((M : ℕ) → Clash rows s k M → ⊥) → Low rows s k None
  some : {M : ℕ} → (M ≡ 0 → ⊥) → Clash rows s k M → ((N : ℕ) → N < M → Clash rows s k N → ⊥) → Low rows s k (Some M)

-- left sides are nonterminals that have a row
abbrev pub Rowed : List ℕ → ℕ → ℕ → Type 0
Rowed rows t count = (p : ℕ) → p < count → (t < left_at rows p) × (left_at rows p ≤ t + max_nonterminals)

pub record Listed (rows s : List ℕ) (t k : ℕ) (cells : List ℕ) (low : Option ℕ) : Type 0 where
  pub long : length cells ≡ cells_size
  pub cell : (R a : ℕ) → R < max_nonterminals → a < columns → Cell rows s k (t + 1 + R) a (get_or cells (R * columns + a) 0)
  pub conflict : Low rows s k low

module _ (rows s : List ℕ) (t : ℕ) where
  pub listed_none : (cells : List ℕ) → cells ≡ zeros cells_size → Listed rows s t 0 cells None
  listed_none cells z =
      record {
        long = ap length z ∙ length_zeros cells_size;
        cell = λ R a l m. rw (z, byte_zeros cells_size (R * columns + a)) (empty (λ p i h. omega arith));
        conflict = none (λ M c. omega (arith, c.low));
      }

  -- one production more
  module _ (k m w : ℕ) (cells cells' : List ℕ) (c : Bool) (low : Option ℕ) (em : m ≡ left_at rows k) (ew : w ≡ predictors rows s k) (lm : t < m) (um : m ≤ t + max_nonterminals)
      (h : Listed rows s t k cells low) (u : Marked w (k + 1) ((m - t - 1) * columns) columns cells cells' c) where
    new : (a : ℕ) → a < columns → Has w a → Hit rows s k m a
    new a l q = record { left = sym em; small = l; has = rw ew at q }

    old_cell : {M a v : ℕ} → (Hit rows s k M a → ⊥) → Cell rows s k M a v → Cell rows s (k + 1) M a v
    old_cell {M} {a} n (empty f) = empty (λ p l q. by_cases (ℕ_discrete p k) (λ e. n (rw e at q)) (λ e. f p (omega arith) q))
    old_cell n (full {p = p} l q) = full {p = p} (omega arith) q

    -- a cell of the row of m
    own_cell : (a : ℕ) → a < columns → Cell rows s (k + 1) m a (get_or cells' ((m - t - 1) * columns + a) 0)
    own_cell a l =
        by_cases (has? w a)
        (λ q. let z : k + 1 ≡ suc k = omega arith in rw (u.lists a l q, z) (full {p = k} (omega arith) (new a l q)))
        (λ q. let z : t + 1 + (m - t - 1) ≡ m = omega arith in
        let o : Cell rows s k m a (get_or cells ((m - t - 1) * columns + a) 0) = rw z at (h.cell (m - t - 1) a (omega arith) l) in
        rw (u.leaves a l q) (old_cell (λ x. q (rw (← ew) at x.has)) o))

    other_cell : (R a : ℕ) → R < max_nonterminals → a < columns → (t + 1 + R ≡ m → ⊥) → Cell rows s (k + 1) (t + 1 + R) a (get_or cells' (R * columns + a) 0)
    other_cell R a l i n =
        let same : get_or cells' (R * columns + a) 0 ≡ get_or cells (R * columns + a) 0 =
        by_cases (dec_lt R (m - t - 1)) (λ x. u.before (R * columns + a) (omega arith)) (λ x. u.behind (R * columns + a) (omega arith))
        in
        rw same (old_cell (λ x. n (sym x.left ∙ sym em)) (h.cell R a l i))

    cells_more : (R a : ℕ) → R < max_nonterminals → a < columns → Cell rows s (k + 1) (t + 1 + R) a (get_or cells' (R * columns + a) 0)
    cells_more R a l i =
        by_cases (ℕ_discrete (t + 1 + R) m)
        (λ e. let z : m - t - 1 ≡ R = omega arith in rw e (rw z at (own_cell a i)))
        (λ e. other_cell R a l i e)

    -- ---- conflicts

    -- a cell that is not empty has a production
    hit_before : {a v : ℕ} → (v ≡ 0 → ⊥) → Cell rows s k m a v → (p : ℕ) × (p < k) × Hit rows s p m a
    hit_before n (empty f) = absurd (n refl)
    hit_before n (full {p = p} l q) = (p, l, q)

    none_before : {a v : ℕ} → v ≡ 0 → Cell rows s k m a v → (p : ℕ) → p < k → Hit rows s p m a → ⊥
    none_before e (empty f) = f
    none_before e (full l q) = absurd (omega arith)

    own : (a : ℕ) → a < columns → Cell rows s k m a (get_or cells ((m - t - 1) * columns + a) 0)
    own a l = let z : t + 1 + (m - t - 1) ≡ m = omega arith in rw z at (h.cell (m - t - 1) a (omega arith) l)

    -- an old conflict, or one of m with the new production
    clash_parts : {M : ℕ} → Clash rows s (k + 1) M → Clash rows s k M ⊎ ((M ≡ m) × ((a p : ℕ) × (p < k) × Hit rows s p m a × Hit rows s k m a))
    clash_parts {M} q =
        by_cases (ℕ_discrete q.other k)
        (λ e. let y : Hit rows s k M q.lookahead = rw e at q.too in
        let z : M ≡ m = sym y.left ∙ sym em in
        inr (z, (q.lookahead, q.one, omega (arith, q.before), rw z at q.hit, rw z at y)))
        (λ e. inl (record { lookahead = q.lookahead; one = q.one; other = q.other; before = q.before; low = omega (arith, q.low); hit = q.hit; too = q.too }))

    wider : {M : ℕ} → Clash rows s k M → Clash rows s (k + 1) M
    wider q = record { lookahead = q.lookahead; one = q.one; other = q.other; before = q.before; low = omega (arith, q.low); hit = q.hit; too = q.too }

    quiet_old : c ≡ false → {M : ℕ} → Clash rows s (k + 1) M → Clash rows s k M
    quiet_old e {M} q = go (clash_parts q)
      where
        go : Clash rows s k M ⊎ ((M ≡ m) × ((a p : ℕ) × (p < k) × Hit rows s p m a × Hit rows s k m a)) → Clash rows s k M
        go (inl x) = x
        go (inr (z, (a, p, l, x, y))) = absurd (none_before (u.quiet e a y.small (rw (← ew) at y.has)) (own a y.small) p l x)

    loud_new : c ≡ true → Clash rows s (k + 1) m
    loud_new n =
        let q = u.loud n in
        let x = hit_before q.3 (own q.0 q.1) in
        record { lookahead = q.0; one = x.0; other = k; before = x.1; low = omega arith; hit = x.2; too = new q.0 q.1 q.2 }

    -- with a new conflict of m, no other nonterminal is in a new one
    old_or_m : {M : ℕ} → (M ≡ m → ⊥) → Clash rows s (k + 1) M → Clash rows s k M
    old_or_m {M} n q = go (clash_parts q)
      where
        go : Clash rows s k M ⊎ ((M ≡ m) × ((a p : ℕ) × (p < k) × Hit rows s p m a × Hit rows s k m a)) → Clash rows s k M
        go (inl x) = x
        go (inr x) = absurd (n x.0)

    -- no new conflict
    pub listed_quiet : c ≡ false → Listed rows s t (k + 1) cells' low
    listed_quiet z = record { long = u.long ∙ h.long; cell = cells_more; conflict = go h.conflict }
      where
        go : {l : Option ℕ} → Low rows s k l → Low rows s (k + 1) l
        go (none f) = none (λ M q. f M (quiet_old z q))
        go (some n q f) = some n (wider q) (λ N l x. f N l (quiet_old z x))

    -- one of m
    pub listed_loud : c ≡ true → Listed rows s t (k + 1) cells' (Some (min (unwrap_or low m) m))
    listed_loud z = record { long = u.long ∙ h.long; cell = cells_more; conflict = go h.conflict }
      where
        go : {l : Option ℕ} → Low rows s k l → Low rows s (k + 1) (Some (min (unwrap_or l m) m))
        go (none f) =
            let e : min m m ≡ m = omega arith in
            rw e (some (λ (y : m ≡ 0). omega arith) (loud_new z) (λ N i x. f N (old_or_m (λ y. omega arith) x)))
        go (some {M = l} n q f) =
            by_cases (dec_lt m l)
            (λ i. let e : min l m ≡ m = omega arith in
            rw e (some (λ (y : m ≡ 0). omega arith) (loud_new z) (λ N j x. f N (omega arith) (old_or_m (λ y. omega arith) x))))
            (λ i. let e : min l m ≡ l = omega arith in
            rw e (some n (wider q) (λ N j x. f N j (old_or_m (λ y. omega arith) x))))

pub listed_all : (rows s : List ℕ) (t k n : ℕ) (cells : List ℕ) (low : Option ℕ) → k ≡ n → Listed rows s t k cells low → Listed rows s t n cells low
listed_all rows s t k n cells low e h = rw e at h

pub ruleset listing = (listed_none, listed_quiet, listed_loud, listed_all)
