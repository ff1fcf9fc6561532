-- Which lookaheads predict which productions, as bits; and which productions of a nonterminal clash.
use Prim.Native.Nat.{ℕ, suc, ◌+◌, ◌-◌, ◌/◌, ◌%◌, ◌^◌, ◌≤◌, ◌<◌}
use Rattle.std.specs.Prelude.{◌≡◌, Bool, true, false, ◌↔◌, ◌⊎◌, List, ◌∷◌, get_or, eqb}
use Rattle.std.proofs.Math.Path.{refl, ap, ap₂}
use Rattle.std.proofs.Common.{sym, ◌∙◌, inl, inr, eq-eqb, eqb-true}
use Rattle.std.proofs.lemmas.Bool.{eqb-false}
use native.Mathlib.Omega.{arith}
use Rattle.base.specs.Bits.{Has, shifted_has, has_shifted}
use Rattle.grammar.specs.Limits.{columns}
use Rattle.grammar.specs.Grammar.{Grammar}
use Rattle.grammar.specs.Rows.{left_at, length_at, symbol_at, symbols_from, grammar_in, left_small, symbols_small}
use Rattle.grammar.specs.RowRules.{body_at}
use Rattle.grammar.specs.declared.Head.{Head}
use Rattle.sets.specs.Words.{follows, leads, suffix}
use Rattle.sets.specs.Facts.{leads_says, leads_here, leads_past, gone, begins, gone_of, begins_of}
use Rattle.sets.specs.Closures.{begin_terminal}
use Rattle.sets.specs.Known.{Known, known_after, known_suffix}
use Rattle.predictions.specs.Paths.{Chosen, by_begin, by_after}

-- a is in the set m
unfoldable pub hasb : ℕ → ℕ → Bool
hasb m a = eqb (m / 2 ^ a % 2) 1

-- the lookaheads that predict the production in row p
unfoldable pub predictors : List ℕ → List ℕ → ℕ → ℕ
predictors rows s p = leads (suffix s (body_at rows p)) (get_or s (follows + left_at rows p) 0)

-- the test and the set
pub hasb_has : (m a : ℕ) → hasb m a ≡ true → Has m a
unfolding hasb
hasb_has m a e = shifted_has m a (eqb-true (m / 2 ^ a % 2) 1 e)

pub has_hasb : (m a : ℕ) → Has m a → hasb m a ≡ true
unfolding hasb
has_hasb m a h = eq-eqb (m / 2 ^ a % 2) 1 (has_shifted m a h)

pub hasb_not : (m a : ℕ) → hasb m a ≡ false → Has m a → ⊥
unfolding hasb
hasb_not m a e h = eqb-false (m / 2 ^ a % 2) 1 e (has_shifted m a h)

-- a predicts the production in row p, whose left side is M
pub record Hit (rows s : List ℕ) (p M a : ℕ) : Type 0 where
  pub left : left_at rows p ≡ M
  pub small : a < columns
  pub has : Has (predictors rows s p) a

-- among the first k productions, two of M share a predictor
pub record Clash (rows s : List ℕ) (k M : ℕ) : Type 0 where
  pub lookahead : ℕ
  pub one : ℕ
  pub other : ℕ
  pub before : one < other
  pub low : other < k
  pub hit : Hit rows s one M lookahead
  pub too : Hit rows s other M lookahead

-- the bits are the predictors
module _ (rows : List ℕ) (head : Head) (s : List ℕ) (known : Known (grammar_in rows head) s) (p : ℕ) where
  abbrev G : Grammar
  G = grammar_in rows head

  chosen_has : (a : ℕ) → Chosen G a (left_at rows p) (body_at rows p) → Has (predictors rows s p) a
  unfolding predictors
  chosen_has a (by_begin b) =
      leads_here _ _ a (omega (arith, begin_terminal b)) ((known_suffix known (body_at rows p) a (symbols_small rows p (length_at rows p) 0)).1 (begins b))
  chosen_has a (by_after v f) =
      leads_past _ _ a ((known_suffix known (body_at rows p) 0 (symbols_small rows p (length_at rows p) 0)).1 (gone refl v))
      ((known_after known (left_at rows p) a (left_small rows p)).1 f)

  has_chosen : (a : ℕ) → Has (predictors rows s p) a → Chosen G a (left_at rows p) (body_at rows p)
  unfolding predictors
  has_chosen a h = go (leads_says (suffix s (body_at rows p)) (get_or s (follows + left_at rows p) 0) a h)
    where
      go : ((0 < a) × Has (suffix s (body_at rows p)) a) ⊎ (Has (suffix s (body_at rows p)) 0 × Has (get_or s (follows + left_at rows p) 0) a)
          → Chosen G a (left_at rows p) (body_at rows p)
      go (inl k) = by_begin (begins_of k.0 ((known_suffix known (body_at rows p) a (symbols_small rows p (length_at rows p) 0)).0 k.1))
      go (inr k) =
          by_after (gone_of ((known_suffix known (body_at rows p) 0 (symbols_small rows p (length_at rows p) 0)).0 k.0))
          ((known_after known (left_at rows p) a (left_small rows p)).0 k.1)

  pub hit_exactly : (a : ℕ) → Has (predictors rows s p) a ↔ Chosen (grammar_in rows head) a (left_at rows p) (body_at rows p)
  hit_exactly a = (has_chosen a, chosen_has a)

-- ---- the word of a body, from its end to its start

pub record WordAt (rows s : List ℕ) (p j tail : ℕ) : Type 0 where
  pub is : tail ≡ suffix s (symbols_from rows p (length_at rows p - j) j)

module _ (rows s : List ℕ) (p : ℕ) where
  pub word_end : (j : ℕ) → j ≡ length_at rows p → WordAt rows s p j 1
  unfolding suffix
  word_end j e = let q : length_at rows p - j ≡ 0 = omega arith in record { is = rw q }

  pub word_turn : (j k x tail tail' : ℕ) → j ≤ length_at rows p → k + 1 ≡ j → x ≡ symbol_at rows p k → tail' ≡ leads (get_or s x 0) tail → WordAt rows s p j tail → WordAt rows s p k tail'
  unfolding suffix
  word_turn j k x tail tail' l q ex et h =
      let z : length_at rows p - k ≡ suc (length_at rows p - j) = omega arith in
      record { is = et ∙ ap₂ (λ (y r : ℕ). leads (get_or s y 0) r) ex h.is ∙ ap (λ (i : ℕ). suffix s (symbol_at rows p k ∷ symbols_from rows p (length_at rows p - j) i)) (sym q) ∙ ap (λ (i : ℕ). suffix s (symbols_from rows p i k)) (sym z) }

  pub word_start : (j tail : ℕ) → j ≤ 0 → WordAt rows s p j tail → tail ≡ suffix s (body_at rows p)
  word_start j tail l h =
      let q : length_at rows p - j ≡ length_at rows p = omega arith in
      let r : j ≡ 0 = omega arith in
      h.is ∙ ap (λ (i : ℕ). suffix s (symbols_from rows p i j)) q ∙ ap (λ (i : ℕ). suffix s (symbols_from rows p (length_at rows p) i)) r

  pub predictors_is : (m word r : ℕ) → m ≡ left_at rows p → word ≡ suffix s (body_at rows p) → r ≡ leads word (get_or s (follows + m) 0) → r ≡ predictors rows s p
  unfolding predictors
  predictors_is m word r em ew er = er ∙ ap₂ (λ (x y : ℕ). leads x (get_or s (follows + y) 0)) ew em

pub ruleset wording = (word_end, word_turn, word_start)
