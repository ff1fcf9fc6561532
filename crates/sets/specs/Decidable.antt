-- Every grammar within the limits has its words, with no code run: so each fact that they say is decidable.
use Rattle.std.specs.Prelude.{ℕ, zero, suc, ◌-◌, ◌*◌, ◌^◌, ◌≤◌, ◌<◌, ◌≡◌, false, ◌↔◌, List, [], ◌∷◌, length}
use Rattle.std.proofs.Common.{◌∙◌, inl, inr, arith}
use Rattle.std.proofs.Math.Logic.{by_cases}
use Rattle.std.proofs.Math.Decide.{dec_lt}
use Rattle.base.specs.Bits.{Has, has?}
use Rattle.grammar.specs.Grammar.{Grammar, Nonterminal, WellFormed}
use Rattle.grammar.specs.Derivation.{Nullable, First, Productive, Reachable, Useless}
use Rattle.grammar.specs.Rows.{symbol_space, rows_of, grammar_in, head_of, rows_grammar}
use Rattle.grammar.specs.declared.Head.{Head}
use Rattle.sets.specs.Words.{word_bits, sets_size, swept, begun}
use Rattle.sets.specs.Growth.{total, Within, within_refl, within_trans}
use Rattle.sets.specs.Facts.{Sound}
use Rattle.sets.specs.Still.{within_swept}
use Rattle.sets.specs.Known.{Known, known_null, known_first, known_made, known_reached}
use Rattle.sets.specs.Bounds.{Bounded, bounded_swept, bounded_begun, bounded_total}
use Rattle.sets.specs.Rounds.{Settled, sound_swept, length_begun, known_settled}

-- ---- the sweeps come to rest

module _ (rows : List ℕ) (count : ℕ) (s₀ : List ℕ) where
  settle : (fuel : ℕ) (s : List ℕ) → length s ≡ sets_size → Bounded s → Within s₀ s
      → ((head : Head) → count ≤ head.count → Sound (grammar_in rows head) s₀ → Sound (grammar_in rows head) s)
      → sets_size * 2 ^ word_bits - total s ≤ fuel → (s' : List ℕ) × Settled rows count s₀ s'
  settle zero s l b w h f =
      let v = within_swept rows false count count s in
      let k = bounded_total (swept rows false count count s) (v.long ∙ l) (bounded_swept rows false count count s b) in
      (s, record { within = w; sound = h; closed = v.same (omega arith) })
  settle (suc fuel) s l b w h f =
      let v = within_swept rows false count count s in
      let c = bounded_swept rows false count count s b in
      let k = bounded_total (swept rows false count count s) (v.long ∙ l) c in
      by_cases (dec_lt (total s) (total (swept rows false count count s)))
      (λ m. settle fuel (swept rows false count count s) (v.long ∙ l) c (within_trans w v)
      (λ head e q. sound_swept rows head count e false count (omega arith) (h head e q)) (omega arith))
      (λ m. (s, record { within = w; sound = h; closed = v.same (omega arith) }))

-- a grammar within the limits has its words
pub analysed : (G : Grammar) → WellFormed G → (s : List ℕ) × Known G s
analysed G f =
    let few = f.head.terminals.1 in
    let low : G.start < symbol_space = omega (arith, f.head.start.1, few, f.head.nonterminals.1) in
    let b : List ℕ = begun G.t G.start in
    let q = settle (rows_of G.productions) (length G.productions) b (sets_size * 2 ^ word_bits) b (length_begun G.t G.start) (bounded_begun G.t G.start few) (within_refl b) (λ head l h. h) (omega arith) in
    let k = known_settled (rows_of G.productions) (head_of G) few low q.1 in
    (q.0, rw (rows_grammar G f) at k)

-- ---- decided

by_bit : {P : Type 0} {m a : ℕ} → Has m a ↔ P → Dec P
by_bit {m = m} {a = a} e = by_cases (has? m a) (λ h. yes (e.0 h)) (λ n. no (λ p. n (e.1 p)))

module _ (G : Grammar) (f : WellFormed G) where
  -- of symbols
  pub nullable? : (X : ℕ) → X < symbol_space → Dec (Nullable G (X ∷ []))
  nullable? X l = by_bit (known_null (analysed G f).1 X l)

  pub first? : (X a : ℕ) → X < symbol_space → 0 < a → Dec (First G a (X ∷ []))
  first? X a l k = by_bit (known_first (analysed G f).1 X a l k)

  pub productive? : (X : ℕ) → X < symbol_space → Dec (Productive G X)
  productive? X l = by_bit (known_made (analysed G f).1 X l)

  pub reachable? : (X : ℕ) → X < symbol_space → Dec (Reachable G X)
  reachable? X l = by_bit (known_reached (analysed G f).1 X l)

  nonterminal_small : {M : ℕ} → Nonterminal G M → M < symbol_space
  nonterminal_small m = omega (arith, m.1, f.head.terminals.1, f.head.nonterminals.1)

  -- a grammar without useless nonterminals: each is productive and reachable
  module _ (useful : (M : ℕ) → Useless G M → ⊥) where
    pub useful_productive : (M : ℕ) → Nonterminal G M → Productive G M
    useful_productive M m =
        by_cases (productive? M (nonterminal_small m)) (λ p. p) (λ n. absurd (useful M (record { nonterminal = m; fault = inl n })))

    pub useful_reachable : (M : ℕ) → Nonterminal G M → Reachable G M
    useful_reachable M m =
        by_cases (reachable? M (nonterminal_small m)) (λ p. p) (λ n. absurd (useful M (record { nonterminal = m; fault = inr n })))
