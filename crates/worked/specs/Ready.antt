-- The reference grammar is prepared; its cells and steps, written out, and checked by computation.
use Rattle.std.specs.Prelude.{ℕ, zero, suc, ◌+◌, ◌*◌, ◌/◌, ◌%◌, ◌≤◌, ◌<◌, ◌≡◌, refl, Bool, true, false, None, List, [], ◌∷◌, ◌++◌, get_or, eqb}
use Rattle.std.proofs.Common.{sym, ◌∙◌, eq-eqb, eqb-true, arith}
use Rattle.std.proofs.Math.Logic.{by_cases}
use Rattle.std.proofs.lemmas.Bool.{eqb-false}
use Rattle.std.proofs.Math.Decide.{ℕ_discrete}
use Rattle.base.specs.Choose.{choose, choose_of, never}
use Rattle.base.specs.Blocks.{zeros}
use Rattle.grammar.specs.Grammar.{WellFormed}
use Rattle.grammar.specs.Derivation.{Useless}
use Rattle.grammar.specs.Prediction.{Prepared}
use Rattle.grammar.specs.Rows.{left_at, length_at, symbol_at, grammar_in}
use Rattle.grammar.specs.Reference.{reference, reference_image, reference_image_lem}
use Rattle.sets.specs.Words.{leads, suffix}
use Rattle.predictions.specs.Hits.{hasb, hasb_has, has_hasb, predictors, Hit, Clash}
use Rattle.predictions.specs.Idle.{BusyTo, none, busy_none, busy_more, idle_useful}
use Rattle.predictions.specs.Listing.{Cell, empty, full, Low, Listed}
use Rattle.predictions.specs.Verdict.{low_ll1}
use Rattle.tables.specs.Cells.{lead, step_of}
use Rattle.calls.specs.CheckLaws.{Fit}
use Rattle.worked.specs.Words.{head, rows, words, is_reference, known}

-- ---- a test of every number below n, computed once

unfoldable pub below : ℕ → (ℕ → Bool) → Bool
below zero f = true
below (suc n) f = choose (f n) (λ _. below n f) (λ _. false)

pub below_at : (n : ℕ) (f : ℕ → Bool) → below n f ≡ true → (i : ℕ) → i < n → f i ≡ true
unfolding below choose
below_at zero f e i l = absurd (omega arith)
below_at (suc n) f e i l = go (f n) refl e (λ h. below_at n f h i)
  where
    go : (b : Bool) → f n ≡ b → choose b (λ _. below n f) (λ _. false) ≡ true → (below n f ≡ true → i < n → f i ≡ true) → f i ≡ true
    go true q h ih = by_cases (ℕ_discrete i n) (λ z. rw z q) (λ z. ih h (omega arith))
    go false q h ih = never (cc)

-- ---- it is prepared

formed : WellFormed (grammar_in rows head)
formed = rw is_reference reference_image_lem.formed

busy : BusyTo words 5 10
unfolding words
busy = busy_more words 5 9 refl (busy_more words 5 8 refl (busy_more words 5 7 refl (busy_more words 5 6 refl (busy_more words 5 5 refl (busy_none words 5)))))

useful : (M : ℕ) → Useless (grammar_in rows head) M → ⊥
unfolding grammar_in
useful = idle_useful known formed (none busy)

-- the left sides, and the predictors as bits
unfoldable lefts : List ℕ
lefts = 6 ∷ 6 ∷ 7 ∷ 8 ∷ 9 ∷ 9 ∷ 10 ∷ 10 ∷ []

unfoldable masks : List ℕ
masks = 2 ∷ 1 ∷ 2 ∷ 4 ∷ 8 ∷ 48 ∷ 16 ∷ 32 ∷ []

lefts_right : below 8 (λ p. eqb (left_at rows p) (get_or lefts p 0)) ≡ true
unfolding below rows lefts left_at choose
lefts_right = refl

masks_right : below 8 (λ p. eqb (predictors rows words p) (get_or masks p 0)) ≡ true
unfolding below rows words masks predictors leads suffix left_at length_at symbol_at choose
masks_right = refl

left_is : (p : ℕ) → p < 8 → left_at rows p ≡ get_or lefts p 0
left_is p l = eqb-true _ _ (below_at 8 (λ p. eqb (left_at rows p) (get_or lefts p 0)) lefts_right p l)

mask_is : (p : ℕ) → p < 8 → predictors rows words p ≡ get_or masks p 0
mask_is p l = eqb-true _ _ (below_at 8 (λ p. eqb (predictors rows words p) (get_or masks p 0)) masks_right p l)

-- the production of M that a predicts, by its number below k
unfoldable chosen : ℕ → ℕ → ℕ → ℕ
chosen zero M a = 0
chosen (suc k) M a = choose (eqb (get_or lefts k 0) M) (λ _. choose (hasb (get_or masks k 0) a) (λ _. suc k) (λ _. chosen k M a)) (λ _. chosen k M a)

-- p and q do not clash at a
unfoldable apart : ℕ → ℕ → ℕ → Bool
apart p q a = choose (eqb (get_or lefts p 0) (get_or lefts q 0)) (λ _. choose (hasb (get_or masks p 0) a) (λ _. choose (hasb (get_or masks q 0) a) (λ _. false) (λ _. true)) (λ _. true)) (λ _. true)

all_apart : below 8 (λ q. below q (λ p. below 32 (apart p q))) ≡ true
unfolding below apart lefts masks hasb choose
all_apart = refl

apart_no : (p q a : ℕ) → get_or lefts p 0 ≡ get_or lefts q 0 → hasb (get_or masks p 0) a ≡ true → hasb (get_or masks q 0) a ≡ true → apart p q a ≡ false
unfolding apart choose
apart_no p q a e f g = rw (eq-eqb (get_or lefts p 0) (get_or lefts q 0) e, f, g)

no_clash : (M : ℕ) → Clash rows words 8 M → ⊥
no_clash M c =
    let lq = c.low in
    let lp = c.before in
    let y = below_at 8 (λ q. below q (λ p. below 32 (apart p q))) all_apart c.other lq in
    let z = below_at c.other (λ p. below 32 (apart p c.other)) y c.one lp in
    let x = below_at 32 (apart c.one c.other) z c.lookahead c.hit.small in
    let e : get_or lefts c.one 0 ≡ get_or lefts c.other 0 = sym (left_is c.one (omega arith)) ∙ c.hit.left ∙ sym c.too.left ∙ left_is c.other lq in
    let f : hasb (get_or masks c.one 0) c.lookahead ≡ true = rw (mask_is c.one (omega arith)) at (has_hasb _ _ c.hit.has) in
    let g : hasb (get_or masks c.other 0) c.lookahead ≡ true = rw (mask_is c.other lq) at (has_hasb _ _ c.too.has) in
    let w : ◌≡◌ {A = Bool} true false = sym x ∙ apart_no c.one c.other c.lookahead e f g in
    never (cc)

low : Low rows words 8 None
low = Low.none no_clash

pub prepared : Prepared (grammar_in rows head)
prepared = record { formed = formed; useful = useful; ll1 = low_ll1 rows head words known formed useful low }

pub reference_prepared : Prepared reference
reference_prepared = rw is_reference at prepared

-- its image passes the checks of replies 1 to 3
pub reference_fit : Fit reference_image reference
reference_fit = record { reads = reference_image_lem; prepared = reference_prepared }

-- ---- the cells

unfoldable pub cells : List ℕ
cells = (2 ∷ 1 ∷ 0 ∷ 0 ∷ 0 ∷ 0 ∷ 0 ∷ 0 ∷ 0 ∷ 0 ∷ 0 ∷ 0 ∷ 0 ∷ 0 ∷ 0 ∷ 0 ∷ 0 ∷ 0 ∷ 0 ∷ 0 ∷ 0 ∷ 0 ∷ 0 ∷ 0 ∷ 0 ∷ 0 ∷ 0 ∷ 0 ∷ 0 ∷ 0 ∷ 0 ∷ 0 ∷ 0 ∷ 3 ∷ 0 ∷ 0 ∷ 0 ∷ 0 ∷ 0 ∷ 0 ∷ 0 ∷ 0 ∷ 0 ∷ 0 ∷ 0 ∷ 0 ∷ 0 ∷ 0 ∷ 0 ∷ 0 ∷ 0 ∷ 0 ∷ 0 ∷ 0 ∷ 0 ∷ 0 ∷ 0 ∷ 0 ∷ 0 ∷ 0 ∷ 0 ∷ 0 ∷ 0 ∷ 0 ∷ 0 ∷ 0 ∷ 4 ∷ 0 ∷ 0 ∷ 0 ∷ 0 ∷ 0 ∷ 0 ∷ 0 ∷ 0 ∷ 0 ∷ 0 ∷ 0 ∷ 0 ∷ 0 ∷ 0 ∷ 0 ∷ 0 ∷ 0 ∷ 0 ∷ 0 ∷ 0 ∷ 0 ∷ 0 ∷ 0 ∷ 0 ∷ 0 ∷ 0 ∷ 0 ∷ 0 ∷ 0 ∷ 0 ∷ 0 ∷ 0 ∷ 5 ∷ 6 ∷ 6 ∷ 0 ∷ 0 ∷ 0 ∷ 0 ∷ 0 ∷ 0 ∷ 0 ∷ 0 ∷ 0 ∷ 0 ∷ 0 ∷ 0 ∷ 0 ∷ 0 ∷ 0 ∷ 0 ∷ 0 ∷ 0 ∷ 0 ∷ 0 ∷ 0 ∷ 0 ∷ 0 ∷ 0 ∷ 0 ∷ 0 ∷ 0 ∷ 0 ∷ 0 ∷ 0 ∷ 7 ∷ 8 ∷ 0 ∷ 0 ∷ 0 ∷ 0 ∷ 0 ∷ 0 ∷ 0 ∷ 0 ∷ 0 ∷ 0 ∷ 0 ∷ 0 ∷ 0 ∷ 0 ∷ 0 ∷ 0 ∷ 0 ∷ 0 ∷ 0 ∷ 0 ∷ 0 ∷ 0 ∷ 0 ∷ 0 ∷ 0 ∷ 0 ∷ []) ++ zeros 864

cells_right : below 1024 (λ i. eqb (get_or cells i 0) (chosen 8 (6 + i / 32) (i % 32))) ≡ true
unfolding below cells zeros chosen lefts masks hasb choose
cells_right = refl

chosen_cell : (k M a : ℕ) → k ≤ 8 → a < 32 → Cell rows words k M a (chosen k M a)
unfolding chosen
chosen_cell zero M a l i = empty (λ p m h. omega arith)
chosen_cell (suc k) M a l i =
    choose_of (Cell rows words (suc k) M a) (eqb (get_or lefts k 0) M) _ _
    (λ e. choose_of (Cell rows words (suc k) M a) (hasb (get_or masks k 0) a) _ _
    (λ h. full (omega arith) (record { left = left_is k (omega arith) ∙ eqb-true _ _ e; small = i; has = rw (mask_is k (omega arith)) (hasb_has _ a h) }))
    (λ h. wider (chosen_cell k M a (omega arith) i) (λ x. differ (rw (mask_is k (omega arith)) at (has_hasb _ a x.has)) h)))
    (λ e. wider (chosen_cell k M a (omega arith) i) (λ x. eqb-false _ _ e (sym (left_is k (omega arith)) ∙ x.left)))
  where
    differ : {b : Bool} → b ≡ true → b ≡ false → ⊥
    differ e f = never (cc)

    wider : {v : ℕ} → Cell rows words k M a v → (Hit rows words k M a → ⊥) → Cell rows words (suc k) M a v
    wider (empty f) n = empty (λ p m h. by_cases (ℕ_discrete p k) (λ q. n (rw q at h)) (λ q. f p (omega arith) h))
    wider (full {p = p} m h) n = full {p = p} (omega arith) h

pub listed : Listed rows words 5 8 cells None
unfolding cells zeros
listed =
    record {
      long = refl;
      cell = λ R a l i.
          let z : (R * 32 + a) / 32 ≡ R = omega arith in
          let y : (R * 32 + a) % 32 ≡ a = omega arith in
          let e : get_or cells (R * 32 + a) 0 ≡ chosen 8 (6 + (R * 32 + a) / 32) ((R * 32 + a) % 32) =
          eqb-true _ _ (below_at 1024 (λ i. eqb (get_or cells i 0) (chosen 8 (6 + i / 32) (i % 32))) cells_right (R * 32 + a) (omega arith))
          in
          let w : 6 + R ≡ 5 + 1 + R = omega arith in
          rw (e, z, y) (rw w at (chosen_cell 8 (6 + R) a (omega arith) i));
      conflict = low;
    }

-- ---- the steps

unfoldable pub steps : List ℕ
steps = (0 ∷ 7 ∷ 0 ∷ 0 ∷ 0 ∷ 0 ∷ 0 ∷ 0 ∷ 0 ∷ 0 ∷ 0 ∷ 0 ∷ 0 ∷ 0 ∷ 0 ∷ 0 ∷ 0 ∷ 0 ∷ 0 ∷ 0 ∷ 0 ∷ 0 ∷ 0 ∷ 0 ∷ 0 ∷ 0 ∷ 0 ∷ 0 ∷ 0 ∷ 0 ∷ 0 ∷ 0 ∷ 0 ∷ 1 ∷ 0 ∷ 0 ∷ 0 ∷ 0 ∷ 0 ∷ 0 ∷ 0 ∷ 0 ∷ 0 ∷ 0 ∷ 0 ∷ 0 ∷ 0 ∷ 0 ∷ 0 ∷ 0 ∷ 0 ∷ 0 ∷ 0 ∷ 0 ∷ 0 ∷ 0 ∷ 0 ∷ 0 ∷ 0 ∷ 0 ∷ 0 ∷ 0 ∷ 0 ∷ 0 ∷ 0 ∷ 0 ∷ 2 ∷ 0 ∷ 0 ∷ 0 ∷ 0 ∷ 0 ∷ 0 ∷ 0 ∷ 0 ∷ 0 ∷ 0 ∷ 0 ∷ 0 ∷ 0 ∷ 0 ∷ 0 ∷ 0 ∷ 0 ∷ 0 ∷ 0 ∷ 0 ∷ 0 ∷ 0 ∷ 0 ∷ 0 ∷ 0 ∷ 0 ∷ 0 ∷ 0 ∷ 0 ∷ 0 ∷ 0 ∷ 0 ∷ 3 ∷ 0 ∷ 0 ∷ 0 ∷ 0 ∷ 0 ∷ 0 ∷ 0 ∷ 0 ∷ 0 ∷ 0 ∷ 0 ∷ 0 ∷ 0 ∷ 0 ∷ 0 ∷ 0 ∷ 0 ∷ 0 ∷ 0 ∷ 0 ∷ 0 ∷ 0 ∷ 0 ∷ 0 ∷ 0 ∷ 0 ∷ 0 ∷ 0 ∷ 0 ∷ 0 ∷ 0 ∷ 0 ∷ 4 ∷ 0 ∷ 0 ∷ 0 ∷ 0 ∷ 0 ∷ 0 ∷ 0 ∷ 0 ∷ 0 ∷ 0 ∷ 0 ∷ 0 ∷ 0 ∷ 0 ∷ 0 ∷ 0 ∷ 0 ∷ 0 ∷ 0 ∷ 0 ∷ 0 ∷ 0 ∷ 0 ∷ 0 ∷ 0 ∷ 0 ∷ 0 ∷ []) ++ zeros 864

steps_right : below 1024 (λ i. eqb (get_or steps i 0) (step_of rows words cells 5 i)) ≡ true
unfolding below steps cells zeros step_of lead hasb rows words length_at symbol_at choose
steps_right = refl

pub step_is : (i : ℕ) → i < 1024 → get_or steps i 0 ≡ step_of rows words cells 5 i
step_is i l = eqb-true _ _ (below_at 1024 (λ i. eqb (get_or steps i 0) (step_of rows words cells 5 i)) steps_right i l)
