-- A model of the plain parse of the reference grammar that can be run: by its predictions, on the kinds of the tokens, with fuel.
-- What it answers is how the plain parse ends, whatever the tags.
use Prim.Native.Nat.{ℕ, zero, suc, ◌+◌, ◌-◌, ◌^◌, ◌≤◌, ◌<◌}
use Rattle.std.specs.Prelude.{◌≡◌, refl, eqb, leb, ltb}
use Rattle.std.proofs.Common.{sym, subst, add-one, arith}
use Rattle.std.proofs.Math.Option.{Option, none, some}
use mathlib.Core.List.{List, [], ◌∷◌, ◌++◌}
use Rattle.std.proofs.Math.ListN.{length}
use Rattle.std.proofs.Math.Pow.{pow-lt}
use borrow.Author.Tests.{eqb-true, eqb-false, leb-true, leb-false, ltb-true}
use Rattle.base.specs.Bits.{Has, one_has, has_one}
use Rattle.base.specs.Choose.{choose, choose_of, never}
use Rattle.grammar.specs.Limits.{end_mark, columns}
use Rattle.grammar.specs.Grammar.{Production, numbered, Rule, Terminal}
use Rattle.grammar.specs.Rules.{rule_number}
use Rattle.grammar.specs.Prediction.{Predicts, by_first, by_follow}
use Rattle.grammar.specs.Forest.{Token, kinds}
use Rattle.grammar.specs.Reference.{reference}
use Rattle.predictions.specs.Verdict.{predictor_small}
use Rattle.tables.specs.Tables as tables
use Rattle.plain.specs.Plain.{ahead, Verdict, accepted, syntax, out_of_room, Expects, prediction, itself, end, Expected, Runs, accepts, matches, expands, crowded, stuck}
use Rattle.plain.specs.One.{no_rule}
use Rattle.plain.specs.Machine.{marked, Lit, LitTo, lit_none, lit_more, lit_all}
use Rattle.worked.specs.Ready.{reference_prepared, cells}
use Rattle.worked.specs.Entries.{cell, cell_is}

-- ---- the model

-- the body of a production, and of production p
abbrev pub body_of : Option Production → List ℕ
body_of none = []
body_of (some P) = P.body

unfoldable pub body : ℕ → List ℕ
body p = body_of (numbered reference.productions p)

-- of the first c lookaheads, those with a prediction in row R
unfoldable pub lit : ℕ → ℕ → ℕ
lit R zero = 0
lit R (suc c) = marked (lit R c) c (cell R c)

-- how a parse goes on from symbols, kinds, nodes so far and tokens matched
abbrev pub Course : Type 0
Course = List ℕ → List ℕ → ℕ → ℕ → Option Verdict

-- the kinds' lookahead
abbrev next : List ℕ → ℕ
next [] = end_mark
next (k ∷ ks) = k

-- the terminal M on top
unfoldable pub leaf : Course → ℕ → Course
leaf go M xs [] c i = some (syntax i (2 ^ M))
leaf go M xs (k ∷ ks) c i = choose (eqb M k) (λ _. go xs ks c (suc i)) (λ _. some (syntax i (2 ^ M)))

-- a body in place of the nonterminal on top
unfoldable pub grown : Course → ℕ → List ℕ → Course
grown go S γ xs ks c i = choose (leb (c + length γ) S) (λ _. go (γ ++ xs) ks (c + length γ) i) (λ _. some out_of_room)

-- the nonterminal of row R on top
unfoldable pub inner : Course → ℕ → ℕ → Course
inner go S R xs ks c i = choose (eqb (cell R (next ks)) 0) (λ _. some (syntax i (lit R columns))) (λ _. grown go S (body (cell R (next ks))) xs ks c i)

-- one step; the terminals are 1..5, the nonterminals 6..10. What is out of range has no answer
unfoldable pub turn : Course → ℕ → Course
turn go S [] [] c i = some (accepted c)
turn go S [] (k ∷ ks) c i = choose (eqb k 0) (λ _. none) (λ _. some (syntax i 1))
turn go S (M ∷ xs) ks c i = choose (eqb M 0) (λ _. none)
    (λ _. choose (leb M 5) (λ _. leaf go M xs ks c i) (λ _. choose (leb M 10) (λ _. choose (ltb (next ks) columns) (λ _. inner go S (M - 6) xs ks c i) (λ _. none)) (λ _. none)))

-- so many steps, in S slots
unfoldable pub run : ℕ → ℕ → Course
run zero S xs ks c i = none
run (suc fuel) S xs ks c i = turn (run fuel S) S xs ks c i

-- ---- the lookaheads of a row

lit_to : (R c : ℕ) → LitTo cells R c (lit R c)
unfolding lit cell
lit_to R zero = lit_none cells R
lit_to R (suc c) = rw (add-one c) at (lit_more cells R c (lit R c) (lit R (suc c)) (cell R c) refl refl (lit_to R c))

lit_row : (R : ℕ) → Lit cells R (lit R columns)
lit_row R = lit_all cells R columns (lit R columns) (omega arith) (omega arith) (lit_to R columns)

-- ---- what is expected

few : reference.t ≤ 31
unfolding reference
few = omega arith

-- nothing is left
only_end : {a : ℕ} → Expects reference [] a → a ≡ end_mark
only_end end = refl

expected_end : Expected reference [] 1
expected_end = record { small = omega arith; all = λ a x. rw (only_end x) (one_has 0); only = λ a x. rw (has_one 0 a x) end }

-- a terminal is next
only_itself : {M a : ℕ} {xs : List ℕ} → Terminal reference M → Expects reference (M ∷ xs) a → a ≡ M
only_itself t (prediction (by_first r f)) = no_rule reference_prepared t r
only_itself t (prediction (by_follow r f v)) = no_rule reference_prepared t r
only_itself t (itself u) = refl

expected_itself : {M : ℕ} {xs : List ℕ} → Terminal reference M → Expected reference (M ∷ xs) (2 ^ M)
expected_itself {M} t =
    record {
      small = pow-lt {i = M} {j = columns} (omega (arith, t.1, few));
      all = λ a x. rw (only_itself t x) (one_has M);
      only = λ a x. rw (has_one M a x) (itself t);
    }

-- a predicted production, with its body
predicted : {M a p : ℕ} → Predicts reference M a p → Rule reference p M (body p)
unfolding body
predicted {M} {p = p} x = go x
  where
    named : {γ : List ℕ} → Rule reference p M γ → Rule reference p M (body_of (numbered reference.productions p))
    named r = rw r.found (record { found = r.found })

    go : {a : ℕ} → Predicts reference M a p → Rule reference p M (body_of (numbered reference.productions p))
    go (by_first r f) = named r
    go (by_follow r f v) = named r

-- the nonterminal of row R is next
module _ (R : ℕ) (l : R < tables.table_rows) where
  abbrev top : ℕ
  top = tables.row_symbol reference R

  no_cell : {a v : ℕ} → tables.Prediction reference top a v → v ≡ 0 → (p : ℕ) → Predicts reference top a p → ⊥
  no_cell (tables.none f) e p x = f p x
  no_cell (tables.some x) e p y = omega (arith, e, (rule_number reference_prepared.formed (predicted x)).0)

  some_cell : {a v : ℕ} → tables.Prediction reference top a v → (v ≡ 0 → ⊥) → Predicts reference top a v
  some_cell (tables.none f) n = absurd (n refl)
  some_cell (tables.some x) n = x

  no_leaf : Terminal reference top → ⊥
  no_leaf t = omega (arith, t.1)

  lit_shown : {a : ℕ} {xs : List ℕ} → Expects reference (top ∷ xs) a → Has (lit R columns) a
  unfolding cell
  lit_shown {a} (prediction {p = p} x) = let m = predictor_small few x in (lit_row R).all a m (λ e. no_cell (cell_is R a l m) e p x)
  lit_shown (itself t) = absurd (no_leaf t)

  lit_only : (a : ℕ) {xs : List ℕ} → Has (lit R columns) a → Expects reference (top ∷ xs) a
  unfolding cell
  lit_only a h = let x = (lit_row R).only a h in prediction (some_cell (cell_is R a l x.0) x.1)

  expected_row : {xs : List ℕ} → Expected reference (top ∷ xs) (lit R columns)
  expected_row = record { small = (lit_row R).small; all = λ a x. lit_shown x; only = λ a x. lit_only a x }

  stuck_row : {a : ℕ} {xs : List ℕ} → a < columns → cell R a ≡ 0 → Expects reference (top ∷ xs) a → ⊥
  stuck_row {a} m e (prediction {p = p} x) = no_cell (cell_is R a l m) e p x
  stuck_row m e (itself t) = no_leaf t

-- ---- what the model answers is right

-- if o is a verdict, the parse ends with it
abbrev Right : ℕ → List ℕ → List Token → ℕ → ℕ → Option Verdict → Type 0
Right S xs w c i o = (v : Verdict) → o ≡ some v → Runs reference S xs w c i v

right_none : {S : ℕ} {xs : List ℕ} {w : List Token} {c i : ℕ} → Right S xs w c i none
right_none v e = never (cc)

right_some : {S : ℕ} {xs : List ℕ} {w : List Token} {c i : ℕ} {u : Verdict} → Runs reference S xs w c i u → Right S xs w c i (some u)
right_some {u = u} h v e = let q : u ≡ v = cc in rw q at h

next_ahead : (w : List Token) → next (kinds w) ≡ ahead w
next_ahead [] = refl
next_ahead (k ∷ w) = refl

module _ (go : Course) (S : ℕ) (ih : (xs : List ℕ) (w : List Token) (c i : ℕ) → Right S xs w c i (go xs (kinds w) c i)) where
  leaf_right : (M : ℕ) (xs : List ℕ) (w : List Token) (c i : ℕ) → Terminal reference M → Right S (M ∷ xs) w c i (leaf go M xs (kinds w) c i)
  unfolding leaf
  leaf_right M xs [] c i t = right_some (stuck (λ x. omega (arith, only_itself t x, t.0)) (expected_itself t))
  leaf_right M xs (k ∷ w) c i t =
      choose_of (Right S (M ∷ xs) (k ∷ w) c i) (eqb M k.kind) _ _
      (λ e v h. matches t (eqb-true M k.kind e) (ih xs w c (suc i) v h))
      (λ e. right_some (stuck (λ x. eqb-false M k.kind e (sym (only_itself t x))) (expected_itself t)))

  grown_right : (M p : ℕ) (xs : List ℕ) (w : List Token) (c i : ℕ) → Predicts reference M (ahead w) p → Right S (M ∷ xs) w c i (grown go S (body p) xs (kinds w) c i)
  unfolding grown
  grown_right M p xs w c i x =
      choose_of (Right S (M ∷ xs) w c i) (leb (c + length (body p)) S) _ _
      (λ e v h. expands x (predicted x) (leb-true _ S e) (ih (body p ++ xs) w (c + length (body p)) i v h))
      (λ e. right_some (crowded x (predicted x) (leb-false _ S e)))

  inner_right : (R : ℕ) (xs : List ℕ) (w : List Token) (c i : ℕ) → R < tables.table_rows → next (kinds w) < columns → Right S (tables.row_symbol reference R ∷ xs) w c i (inner go S R xs (kinds w) c i)
  unfolding inner
  inner_right R xs w c i l m =
      let M : ℕ = tables.row_symbol reference R in
      let a : ℕ = next (kinds w) in
      choose_of (Right S (M ∷ xs) w c i) (eqb (cell R a) 0) _ _
      (λ e. right_some (stuck (subst (λ (b : ℕ). Expects reference (M ∷ xs) b → ⊥) (next_ahead w) (stuck_row R l m (eqb-true (cell R a) 0 e))) (expected_row R l)))
      (λ e. grown_right M (cell R a) xs w c i (subst (λ (b : ℕ). Predicts reference M b (cell R a)) (next_ahead w) (some_cell R l (cell_is R a l m) (eqb-false (cell R a) 0 e))))

  turn_right : (xs : List ℕ) (w : List Token) (c i : ℕ) → Right S xs w c i (turn go S xs (kinds w) c i)
  unfolding turn reference
  turn_right [] [] c i = right_some accepts
  turn_right [] (k ∷ w) c i =
      choose_of (Right S [] (k ∷ w) c i) (eqb k.kind 0) _ _
      (λ e. right_none)
      (λ e. right_some (stuck (λ x. eqb-false k.kind 0 e (only_end x)) expected_end))
  turn_right (M ∷ xs) w c i =
      choose_of (Right S (M ∷ xs) w c i) (eqb M 0) _ _
      (λ _. right_none)
      (λ z. choose_of (Right S (M ∷ xs) w c i) (leb M 5) _ _
      (λ e. leaf_right M xs w c i (omega (arith, eqb-false M 0 z), leb-true M 5 e))
      (λ f. choose_of (Right S (M ∷ xs) w c i) (leb M 10) _ _
      (λ e. choose_of (Right S (M ∷ xs) w c i) (ltb (next (kinds w)) columns) _ _
      (λ m. let q : 5 + 1 + (M - 6) ≡ M = omega (arith, leb-false M 5 f) in
      rw q at (inner_right (M - 6) xs w c i (omega (arith, leb-true M 10 e)) (ltb-true (next (kinds w)) columns m)))
      (λ _. right_none))
      (λ _. right_none)))

-- soundness
pub run_right : (fuel S : ℕ) (xs : List ℕ) (w : List Token) (c i : ℕ) (v : Verdict) → run fuel S xs (kinds w) c i ≡ some v → Runs reference S xs w c i v
unfolding run
run_right zero S xs w c i v e = never (cc)
run_right (suc fuel) S xs w c i v e = turn_right (run fuel S) S (λ xs w c i v e. run_right fuel S xs w c i v e) xs w c i v e
