-- The laws that the code's proofs cite: how many words grew, a pass over a body, a sweep over the productions, the beginning.
use Prim.Native.Nat.{ℕ, zero, suc, ◌+◌, ◌-◌, ◌*◌, ◌%◌, ◌^◌, ◌≤◌, ◌<◌}
use Rattle.std.proofs.Math.Path.{◌≡◌, refl, ap, sym}
use Rattle.std.proofs.Common.{◌∙◌, length-set}
use Rattle.std.specs.Prelude.{Bool, true, false, not, ◌||◌, get_or, eqb}
use Rattle.std.proofs.Common.{eqb-true}
use Rattle.std.proofs.lemmas.Bool.{eqb-false}
use Rattle.base.specs.Choose.{never, choose}
use mathlib.Core.List.{List, ◌∷◌}
use Rattle.std.proofs.Math.ListN.{length, set}
use Rattle.std.proofs.Math.Seq.{set-get_or}
use Rattle.std.specs.Int.Bits.{bit_or}
use native.Mathlib.Omega.{arith}
use Rattle.base.specs.Bits.{or_grows, shift_one}
use Rattle.base.specs.Blocks.{zeros}
use Rattle.grammar.specs.Rows.{left_at, length_at, symbol_at, symbols_from}
use Rattle.sets.specs.Growth.{total, total_set}
use Rattle.sets.specs.Words.{word_bits, follows, marks, leads, both, raised, stepped, Pass, turn, passed, closing, produced, produced_at, turned, swept, sets_size, tokens, begun}

-- g says whether some word grew
pub record Grew (s s' : List ℕ) (g : Bool) : Type 0 where
  pub long : length s' ≡ length s
  pub sum : total s ≤ total s'
  pub more : g ≡ true → total s < total s'
  pub still : g ≡ false → s' ≡ s

pub grew_none : (s : List ℕ) → Grew s s false
grew_none s = record { long = refl; sum = omega arith; more = λ e. never (cc); still = λ _. refl }

pub grew_join : {s s' s'' : List ℕ} {a b : Bool} → Grew s s' a → Grew s' s'' b → Grew s s'' (a || b)
grew_join {a = true} u v =
    record { long = v.long ∙ u.long; sum = omega (arith, u.sum, v.sum); more = λ _. omega (arith, u.more refl, v.sum); still = λ e. never (cc) }
grew_join {a = false} u v =
    record { long = v.long ∙ u.long; sum = omega (arith, u.sum, v.sum); more = λ e. omega (arith, u.sum, v.more e); still = λ e. v.still e ∙ u.still refl }

-- ---- one word

module _ (s : List ℕ) (i m v old : ℕ) where
  pub raise_is : v ≡ bit_or old m → old ≡ get_or s i 0 → set s i v ≡ raised s i m
  unfolding raised
  raise_is e o = ap (set s i) (e ∙ ap (λ (x : ℕ). bit_or x m) o)

  pub raise_grew : i < length s → v ≡ bit_or old m → old ≡ get_or s i 0 → Grew s (set s i v) (not (eqb v old))
  raise_grew l e o = go (eqb v old) (eqb-true v old) (eqb-false v old)
    where
      go : (b : Bool) → (b ≡ true → v ≡ old) → (b ≡ false → v ≡ old → ⊥) → Grew s (set s i v) (not b)
      go true same other =
          let z : set s i v ≡ s = ap (set s i) (same refl ∙ o) ∙ set-get_or s i 0 in
          record { long = ap length z; sum = omega (arith, ap total z); more = λ f. never (cc); still = λ _. z }
      go false same other =
          let n : v ≡ old → ⊥ = other refl in
          let t : total s < total (set s i v) = omega (arith, total_set s i v l, or_grows old m) in
          record { long = simp length-set; sum = omega arith; more = λ _. t; still = λ f. never (cc) }

-- ---- a symbol of a body

pub step_join : (m x tail behind : ℕ) (s s' s'' : List ℕ) (a b : Bool) → behind ≡ leads tail (get_or s (follows + m) 0)
    → (s' ≡ raised s (follows + x) behind) × Grew s s' a
    → (s'' ≡ raised s' (marks + x) (get_or s (marks + m) 0 - get_or s (marks + m) 0 % 2)) × Grew s' s'' b
    → (s'' ≡ stepped m x tail s) × Grew s s'' (a || b)
unfolding stepped
step_join m x tail behind s s' s'' a b e u v = (
  v.0 ∙ ap (λ (w : List ℕ). raised w (marks + x) (get_or s (marks + m) 0 - get_or s (marks + m) 0 % 2)) (u.0 ∙ ap (raised s (follows + x)) e),
  grew_join u.1 v.1,
)

-- ---- a body, from its end to its start

-- the pass has come to symbol j
pub record At (rows : List ℕ) (p m j : ℕ) (s₀ s : List ℕ) (tail made : ℕ) : Type 0 where
  pub is : ◌≡◌ {A = Pass} (record { sets = s; tail = tail; made = made }) (passed m (symbols_from rows p (length_at rows p - j) j) s₀)

module _ (rows : List ℕ) (p m : ℕ) (s₀ : List ℕ) where
  pub at_end : (j : ℕ) → j ≡ length_at rows p → At rows p m j s₀ s₀ 1 1
  unfolding passed
  at_end j e = let q : length_at rows p - j ≡ 0 = omega arith in record { is = rw q }

  pub at_turn : (s s' : List ℕ) (j k x tail made tail' made' word mark : ℕ) → j ≤ length_at rows p → k + 1 ≡ j → At rows p m j s₀ s tail made
      → x ≡ symbol_at rows p k → word ≡ get_or s x 0 → mark ≡ get_or s (marks + x) 0 → s' ≡ stepped m x tail s → tail' ≡ leads word tail → made' ≡ both mark made
      → At rows p m k s₀ s' tail' made'
  unfolding passed turn
  at_turn s s' j k x tail made tail' made' word mark l q h ex ew em es et ed =
      let z : length_at rows p - k ≡ suc (length_at rows p - j) = omega arith in
      let xs : List ℕ = symbols_from rows p (length_at rows p - j) j in
      let y : symbols_from rows p (length_at rows p - k) k ≡ symbol_at rows p k ∷ xs =
      ap (λ (i : ℕ). symbols_from rows p i k) z ∙ ap (λ (i : ℕ). symbol_at rows p k ∷ symbols_from rows p (length_at rows p - j) i) q
      in
      let w : Pass = record { sets = s; tail = tail; made = made } in
      let e : ◌≡◌ {A = Pass} (record { sets = s'; tail = tail'; made = made' }) (turn m x w) =
      λ i. record {
        sets = es i;
        tail = (et ∙ ap (λ (a : ℕ). leads a tail) ew) i;
        made = (ed ∙ ap (λ (a : ℕ). both a made) em) i;
      }
      in
      record { is = e ∙ ap (turn m x) h.is ∙ ap (λ (a : ℕ). turn m a (passed m xs s₀)) ex ∙ ap (λ (u : List ℕ). passed m u s₀) (sym y) }

  pub at_start : (s s' s'' : List ℕ) (j tail made : ℕ) (c a b : Bool) → j ≤ 0 → m ≡ left_at rows p → At rows p m j s₀ s tail made → Grew s₀ s c
      → (s' ≡ raised s m tail) × Grew s s' a → (s'' ≡ raised s' (marks + m) made) × Grew s' s'' b
      → (s'' ≡ produced_at rows p s₀) × Grew s₀ s'' ((c || a) || b)
  unfolding produced_at produced closing
  at_start s s' s'' j tail made c a b l em h g u v =
      let q : length_at rows p - j ≡ length_at rows p = omega arith in
      let r : j ≡ 0 = omega arith in
      let w : Pass = record { sets = s; tail = tail; made = made } in
      let e : s'' ≡ closing m w = v.0 ∙ ap (λ (k : List ℕ). raised k (marks + m) made) u.0 in (
        e
            ∙ ap (closing m) (h.is ∙ ap (λ (i : ℕ). passed m (symbols_from rows p i j) s₀) q ∙ ap (λ (i : ℕ). passed m (symbols_from rows p (length_at rows p) i) s₀) r)
            ∙ ap (λ (i : ℕ). closing i (passed i (symbols_from rows p (length_at rows p) 0) s₀)) em,
        grew_join (grew_join g u.1) v.1,
      )

pub ruleset passing = (at_end, at_turn, at_start, grew_none, grew_join)

-- ---- a sweep

module _ (rows : List ℕ) (back : Bool) (count : ℕ) (s₀ : List ℕ) where
  pub sweep_none : (k : ℕ) → k ≡ 0 → s₀ ≡ swept rows back count k s₀
  unfolding swept
  sweep_none k e = rw e

  sweep_more : (s s' : List ℕ) (k q : ℕ) → q ≡ turned back count k → s ≡ swept rows back count k s₀ → s' ≡ produced_at rows q s
      → s' ≡ swept rows back count (suc k) s₀
  unfolding swept
  sweep_more s s' k q e h w = w ∙ ap (λ (i : ℕ). produced_at rows i s) e ∙ ap (produced_at rows (turned back count k)) h

  pub sweep_all : (s : List ℕ) (k : ℕ) → k ≡ count → s ≡ swept rows back count k s₀ → s ≡ swept rows back count count s₀
  sweep_all s k e h = rw e at h

module _ (rows : List ℕ) (count : ℕ) (s₀ s s' : List ℕ) (p : ℕ) where
  -- one production more, from the back or from the front
  pub sweep_back : 0 < p → p ≤ count → s ≡ swept rows true count (count - p) s₀ → s' ≡ produced_at rows (p - 1) s → s' ≡ swept rows true count (count - (p - 1)) s₀
  unfolding turned choose
  sweep_back l m h w =
      let q : p - 1 ≡ count - 1 - (count - p) = omega arith in
      let z : count - (p - 1) ≡ suc (count - p) = omega arith in
      rw z (sweep_more rows true count s₀ s s' (count - p) (p - 1) q h w)

  pub sweep_front : s ≡ swept rows false count p s₀ → s' ≡ produced_at rows p s → s' ≡ swept rows false count (p + 1) s₀
  unfolding turned choose
  sweep_front h w = let z : p + 1 ≡ suc p = omega arith in rw z (sweep_more rows false count s₀ s s' p p refl h w)

-- ---- the beginning

module _ (s₀ : List ℕ) where
  pub tokens_none : s₀ ≡ tokens 0 s₀
  unfolding tokens
  tokens_none = refl

  pub tokens_more : (s s' s'' : List ℕ) (a : ℕ) → 1 ≤ a → a < word_bits → s ≡ tokens (a - 1) s₀ → s' ≡ raised s a (1 * 2 ^ a % 2 ^ word_bits) → s'' ≡ raised s' (marks + a) 1
      → s'' ≡ tokens (a + 1 - 1) s₀
  unfolding tokens
  tokens_more s s' s'' zero g l e u v = absurd (omega arith)
  tokens_more s s' s'' (suc a) g l e u v =
      let z : suc a + 1 - 1 ≡ suc a = omega arith in
      let y : suc a - 1 ≡ a = omega arith in
      let w : 1 * 2 ^ suc a % 2 ^ word_bits ≡ 2 ^ suc a = shift_one word_bits (suc a) l in
      rw z (v ∙ ap (λ (k : List ℕ). raised k (marks + suc a) 1) (u ∙ ap (raised s (suc a)) w ∙ ap (λ (k : List ℕ). raised k (suc a) (2 ^ suc a)) (rw y at e)))

pub begin_all : (z s₁ s₀ s : List ℕ) (k t start : ℕ) → k ≡ t → z ≡ zeros sets_size → s₁ ≡ raised z (follows + start) 1 → s₀ ≡ raised s₁ (marks + start) 2
    → s ≡ tokens k s₀ → s ≡ begun t start
unfolding begun
begin_all z s₁ s₀ s k t start l e f g h =
    rw l at h ∙ ap (tokens t) (g ∙ ap (λ (k : List ℕ). raised k (marks + start) 2) (f ∙ ap (λ (k : List ℕ). raised k (follows + start) 1) e))

pub ruleset beginning = (tokens_none, tokens_more, begin_all)
