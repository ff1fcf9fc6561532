-- Stems in a grammar that passes replies 1 to 3: one for each a in FIRST(M), no symbol twice, and two that share a symbol agree below it.
use Rattle.std.specs.Prelude.{ℕ, ◌≡◌, refl, ◌↔◌, List, [], ◌∷◌}
use Rattle.grammar.specs.Grammar.{Grammar, Rule, WellFormed}
use Rattle.grammar.specs.Derivation.{First, Reachable, Useless}
use Rattle.grammar.specs.Prediction.{Predicts, by_first, by_follow, Stem, ends, down, Prepared}
use Rattle.grammar.specs.Single.{ll1_one}
use Rattle.grammar.specs.Rules.{rule_left}
use Rattle.sets.specs.Closures.{vanish_steps, steps_vanish, begin_first, first_begin, follow_after, after_follow}
use Rattle.sets.specs.Decidable.{useful_reachable}
use Rattle.predictions.specs.Paths.{Chosen, by_begin, by_after, Single, Path, p_end, p_down, path_begin, begin_path, unique, On, once, agree}

-- ---- the closures' stems are the stems

module _ {G : Grammar} {a : ℕ} where
  pub path_stem : {M : ℕ} {s : List ℕ} → Path G a M s → Stem G a M s
  path_stem (p_end t) = ends t
  path_stem (p_down α β r e v h) = down α β (rw e at r) (vanish_steps v) (path_stem h)

  pub stem_path : {M : ℕ} {s : List ℕ} → Stem G a M s → Path G a M s
  stem_path (ends t) = p_end t
  stem_path (down α β r v h) = p_down α β r refl (steps_vanish v) (stem_path h)

-- ---- predictors by the closures are predictors, where no nonterminal is useless

module _ {G : Grammar} (f : WellFormed G) (useful : (M : ℕ) → Useless G M → ⊥) where
  pub reach : (p N : ℕ) (γ : List ℕ) → Rule G p N γ → Reachable G N
  reach p N γ r = useful_reachable G f useful N (rule_left f r)

  pub chosen_predicts : {M a p : ℕ} {γ : List ℕ} → Rule G p M γ → Chosen G a M γ → Predicts G M a p
  chosen_predicts r (by_begin b) = by_first r (begin_first b)
  chosen_predicts r (by_after v c) = by_follow r (vanish_steps v) (after_follow reach c)

pub predicts_chosen : {G : Grammar} {M a p : ℕ} → Predicts G M a p → (γ : List ℕ) × Rule G p M γ × Chosen G a M γ
predicts_chosen (by_first {γ = γ} r f) = (γ, r, by_begin (first_begin f))
predicts_chosen (by_follow {γ = γ} r n f) = (γ, r, by_after (steps_vanish n) (follow_after f))

-- ---- a prepared grammar

module _ {G : Grammar} (ok : Prepared G) where
  pub single : Single G
  single =
      record {
        left = λ p M γ r. (rule_left ok.formed r).0;
        same = λ a M p q γ δ r r' x y. ll1_one ok.ll1 (chosen_predicts ok.formed ok.useful r x) (chosen_predicts ok.formed ok.useful r' y);
      }

  -- the stem from M to a exists exactly for a in FIRST(M)
  pub stem_exactly : (M a : ℕ) → First G a (M ∷ []) ↔ ((s : List ℕ) × Stem G a M s)
  stem_exactly M a = (
    λ f. let q = begin_path (first_begin f) in (q.0, path_stem q.1),
    λ h. begin_first (path_begin (stem_path h.1)),
  )

  -- it is unique
  pub stem_one : {M a : ℕ} {s s' : List ℕ} → Stem G a M s → Stem G a M s' → s ≡ s'
  stem_one h k = unique single (stem_path h) (stem_path k)

  -- it repeats no symbol
  pub stem_once : {M a : ℕ} {s u : List ℕ} → Stem G a M (M ∷ s) → On M s u → ⊥
  stem_once h o = once single (stem_path h) o

  -- two stems to a that share a symbol agree below it
  pub stems_agree : {x M N a : ℕ} {s s' u u' : List ℕ} → Stem G a M s → Stem G a N s' → On x s u → On x s' u' → u ≡ u'
  stems_agree h k o o' = agree single (stem_path h) (stem_path k) o o'
