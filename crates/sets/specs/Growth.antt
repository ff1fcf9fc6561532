-- Words only grow: what a pass leaves unchanged had everything already.
use Prim.Native.Nat.{ℕ, zero, suc, ◌+◌, ◌*◌, ◌≤◌, ◌<◌}
use Rattle.std.specs.Prelude.{◌≡◌, refl, length, set}
use Rattle.std.proofs.Math.Path.{ap, sym}
use Rattle.std.proofs.Common.{◌∙◌, length-set, get_or-set_other}
use mathlib.Core.List.{List, [], ◌∷◌}
use Rattle.std.proofs.Math.Logic.{by_cases}
use Rattle.std.proofs.Math.ListN.{get_or}
use Rattle.std.proofs.Math.Seq.{get_or-set_same, set-get_or, set_out}
use Rattle.std.specs.Int.Bits.{bit_or}
use Rattle.std.proofs.Math.Decide.{ℕ_discrete, dec_lt}
use native.Mathlib.Omega.{arith}
use Rattle.base.specs.Bits.{Has, has_or_left, has_or_right, or_grows}
use Rattle.sets.specs.Words.{raised}

-- the sum of the words
unfoldable pub total : List ℕ → ℕ
total [] = 0
total (x ∷ s) = x + total s

pub total_set : (s : List ℕ) (i v : ℕ) → i < length s → total (set s i v) + get_or s i 0 ≡ total s + v
unfolding total
total_set [] i v l = absurd (omega arith)
total_set (x ∷ s) zero v l = omega arith
total_set (x ∷ s) (suc i) v l = omega (arith, total_set s i v (omega arith))

pub total_bound : (s : List ℕ) (b : ℕ) → ((i : ℕ) → i < length s → get_or s i 0 ≤ b) → total s ≤ length s * b
unfolding total
total_bound [] b h = omega arith
total_bound (x ∷ s) b h = omega (arith, h 0 (omega arith), total_bound s b (λ i l. h (suc i) (omega arith)))

-- every bit of m is in m'
abbrev pub Sub : ℕ → ℕ → Type 0
Sub m m' = (a : ℕ) → Has m a → Has m' a

-- s' has all that s has
pub record Within (s s' : List ℕ) : Type 0 where
  pub long : length s' ≡ length s
  pub bits : (i : ℕ) → Sub (get_or s i 0) (get_or s' i 0)
  pub sum : total s ≤ total s'
  pub same : total s' ≤ total s → s' ≡ s

pub within_refl : (s : List ℕ) → Within s s
within_refl s = record { long = refl; bits = λ i a h. h; sum = omega arith; same = λ _. refl }

pub within_trans : {s s' s'' : List ℕ} → Within s s' → Within s' s'' → Within s s''
within_trans u v =
    record {
      long = v.long ∙ u.long;
      bits = λ i a h. v.bits i a (u.bits i a h);
      sum = omega (arith, u.sum, v.sum);
      same = λ l. v.same (omega (arith, u.sum)) ∙ u.same (omega (arith, v.sum));
    }

module _ (s : List ℕ) (i m : ℕ) where
  pub within_raised : Within s (raised s i m)
  unfolding raised
  within_raised =
      by_cases (dec_lt i (length s))
      (λ l. let v : ℕ = bit_or (get_or s i 0) m in
      let e = total_set s i v l in
      let g = or_grows (get_or s i 0) m in
      record {
        long = simp length-set;
        bits = λ j a h. by_cases (ℕ_discrete j i) (λ q. rw (q, get_or-set_same s i v 0 l) (has_or_left (get_or s i 0) m a (rw q at h)))
            (λ q. rw (get_or-set_other s i j v 0 q) h);
        sum = omega arith;
        same = λ k. let q : v ≡ get_or s i 0 = omega arith in ap (set s i) q ∙ set-get_or s i 0;
      })
      (λ l. rw (set_out s i (bit_or (get_or s i 0) m) (omega arith)) (within_refl s))

  -- a word that stays has all of m
  pub raised_still : i < length s → raised s i m ≡ s → Sub m (get_or s i 0)
  unfolding raised
  raised_still l e a h =
      let q : bit_or (get_or s i 0) m ≡ get_or s i 0 = sym (get_or-set_same s i (bit_or (get_or s i 0) m) 0 l) ∙ ap (λ (u : List ℕ). get_or u i 0) e in
      rw q at (has_or_right (get_or s i 0) m a h)

-- two steps that together change nothing change nothing
pub still_both : {s s' s'' : List ℕ} → Within s s' → Within s' s'' → s'' ≡ s → (s' ≡ s) × (s'' ≡ s')
still_both u v e =
    let a = u.same (omega (arith, v.sum, ap total e)) in
    (a, e ∙ sym a)
