-- The words of a grammar: exactly what is so. What each bit says by rewriting is stated here, once for every set.
use Rattle.std.specs.Prelude.{ℕ, ◌+◌, ◌<◌, ◌≡◌, ◌↔◌, List, [], ◌∷◌, length, get_or}
use Rattle.std.proofs.Common.{arith}
use Rattle.base.specs.Bits.{Has}
use Rattle.grammar.specs.Each.{Each}
use Rattle.grammar.specs.Grammar.{Grammar, Rule}
use Rattle.grammar.specs.Derivation.{Nullable, First, Follow, Productive, Reachable}
use Rattle.grammar.specs.Rows.{symbol_space}
use Rattle.sets.specs.Closures.{vanish_steps, steps_vanish, begin_first, first_begin, After, follow_after, after_follow}
use Rattle.sets.specs.Words.{follows, marks, sets_size, suffix}
use Rattle.sets.specs.Facts.{Sound, first_of, follow_of, made_of, reached_of, gone_of, begins_of, Means, gone, begins, means_suffix}
use Rattle.sets.specs.Complete.{Full, full_null, full_first, full_follow, full_made, full_reached, full_suffix_null, full_suffix_first}

-- every bit that is lit says what is so, and every bit that is so is lit
pub record Known (G : Grammar) (s : List ℕ) : Type 0 where
  pub long : length s ≡ sets_size
  pub sound : Sound G s
  pub full : Full G s

module _ {G : Grammar} {s : List ℕ} (k : Known G s) where
  pub known_null : (X : ℕ) → X < symbol_space → Has (get_or s X 0) 0 ↔ Nullable G (X ∷ [])
  known_null X l = (λ h. vanish_steps (gone_of (first_of l (k.sound.at X 0 h))), λ n. full_null k.full (steps_vanish n))

  pub known_first : (X a : ℕ) → X < symbol_space → 0 < a → Has (get_or s X 0) a ↔ First G a (X ∷ [])
  known_first X a l w = (λ h. begin_first (begins_of w (first_of l (k.sound.at X a h))), λ f. full_first k.full (first_begin f))

  pub known_after : (X a : ℕ) → X < symbol_space → Has (get_or s (follows + X) 0) a ↔ After G a X
  known_after X a l = (λ h. follow_of X l (k.sound.at (follows + X) a h), λ f. full_follow k.full f)

  pub known_made : (X : ℕ) → X < symbol_space → Has (get_or s (marks + X) 0) 0 ↔ Productive G X
  known_made X l = (λ h. made_of X l (k.sound.at (marks + X) 0 h), λ p. full_made k.full p)

  pub known_reached : (X : ℕ) → X < symbol_space → Has (get_or s (marks + X) 0) 1 ↔ Reachable G X
  known_reached X l = (λ h. (reached_of X l (omega arith) (k.sound.at (marks + X) 1 h)).1, λ r. full_reached k.full r)

  -- where every left side is reachable, FOLLOW
  pub known_follow : ((p N : ℕ) (γ : List ℕ) → Rule G p N γ → Reachable G N) → (X a : ℕ) → X < symbol_space → Has (get_or s (follows + X) 0) a ↔ Follow G X a
  known_follow reach X a l = (λ h. after_follow reach ((known_after X a l).0 h), λ f. (known_after X a l).1 (follow_after f))

  -- of a list of symbols
  pub known_suffix : (xs : List ℕ) (a : ℕ) → Each (λ x. x < symbol_space) xs → Has (suffix s xs) a ↔ Means G a xs
  known_suffix xs a l = (means_suffix k.sound xs l a, full_means)
    where
      full_means : Means G a xs → Has (suffix s xs) a
      full_means (gone e v) = rw e (full_suffix_null k.full v)
      full_means (begins b) = (full_suffix_first k.full b).1
