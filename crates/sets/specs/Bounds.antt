-- Words of 32 bits stay so, however they grow.
use Rattle.std.specs.Prelude.{ℕ, zero, suc, ◌+◌, ◌-◌, ◌*◌, ◌^◌, ◌≤◌, ◌<◌, ◌≡◌, Bool, List, [], ◌∷◌, length, get_or}
use Rattle.std.proofs.Common.{get_or-set_same, get_or-set_other, arith}
use Rattle.std.proofs.Math.Logic.{by_cases}
use Rattle.std.proofs.Math.Seq.{set_out}
use Rattle.std.specs.Int.Bits.{bit_or}
use Rattle.std.proofs.lemmas.Nat.{or_lt}
use Rattle.std.proofs.Math.Pow.{pow-lt}
use Rattle.std.proofs.Math.Decide.{ℕ_discrete, dec_lt}
use Rattle.base.specs.Choose.{choose_of}
use Rattle.base.specs.Blocks.{zeros, byte_zeros}
use Rattle.grammar.specs.Limits.{max_terminals}
use Rattle.sets.specs.Words.{word_bits, follows, marks, sets_size, leads, both, raised, high, stepped, turn, passed, closing, produced, produced_at, swept, tokens, begun}
use Rattle.sets.specs.Growth.{total, total_bound}

abbrev pub Bounded : List ℕ → Type 0
Bounded s = (i : ℕ) → get_or s i 0 < 2 ^ word_bits

bounded_raised : (s : List ℕ) (i m : ℕ) → m < 2 ^ word_bits → Bounded s → Bounded (raised s i m)
unfolding raised
bounded_raised s i m l h j =
    by_cases (dec_lt i (length s))
    (λ k. by_cases (ℕ_discrete j i)
    (λ q. rw (q, get_or-set_same s i (bit_or (get_or s i 0) m) 0 k) (or_lt word_bits (get_or s i 0) m (h i) l))
    (λ q. rw (get_or-set_other s i j (bit_or (get_or s i 0) m) 0 q) (h j)))
    (λ k. rw (set_out s i (bit_or (get_or s i 0) m) (omega arith)) (h j))

bounded_leads : (w r : ℕ) → w < 2 ^ word_bits → r < 2 ^ word_bits → leads w r < 2 ^ word_bits
unfolding leads
bounded_leads w r l k = choose_of (λ m. m < 2 ^ word_bits) _ _ _ (λ _. or_lt word_bits (w - 1) r (omega arith) k) (λ _. l)

bounded_both : (w r : ℕ) → r < 2 ^ word_bits → both w r < 2 ^ word_bits
unfolding both
bounded_both w r k = choose_of (λ m. m < 2 ^ word_bits) _ _ _ (λ _. k) (λ _. omega arith)

bounded_stepped : (m x tail : ℕ) (s : List ℕ) → tail < 2 ^ word_bits → Bounded s → Bounded (stepped m x tail s)
unfolding stepped
bounded_stepped m x tail s l h =
    bounded_raised _ (marks + x) (high (get_or s (marks + m) 0)) (omega (arith, h (marks + m)))
    (bounded_raised s (follows + x) (leads tail (get_or s (follows + m) 0)) (bounded_leads tail (get_or s (follows + m) 0) l (h (follows + m))) h)

bounded_passed : (m : ℕ) (xs s : List ℕ) → Bounded s → Bounded (passed m xs s).sets × ((passed m xs s).tail < 2 ^ word_bits) × ((passed m xs s).made < 2 ^ word_bits)
unfolding passed turn
bounded_passed m [] s h = (h, omega arith, omega arith)
bounded_passed m (x ∷ xs) s h =
    let q = bounded_passed m xs s h in (
      bounded_stepped m x (passed m xs s).tail (passed m xs s).sets q.1 q.0,
      bounded_leads (get_or (passed m xs s).sets x 0) (passed m xs s).tail (q.0 x) q.1,
      bounded_both (get_or (passed m xs s).sets (marks + x) 0) (passed m xs s).made q.2,
    )

bounded_produced : (m : ℕ) (xs s : List ℕ) → Bounded s → Bounded (produced m xs s)
unfolding produced closing
bounded_produced m xs s h =
    let q = bounded_passed m xs s h in
    bounded_raised _ (marks + m) (passed m xs s).made q.2 (bounded_raised (passed m xs s).sets m (passed m xs s).tail q.1 q.0)

pub bounded_swept : (rows : List ℕ) (back : Bool) (count k : ℕ) (s : List ℕ) → Bounded s → Bounded (swept rows back count k s)
unfolding swept produced_at
bounded_swept rows back count zero s h = h
bounded_swept rows back count (suc k) s h = bounded_produced _ _ _ (bounded_swept rows back count k s h)

pow_small : (k : ℕ) → k ≤ max_terminals → 2 ^ k < 2 ^ word_bits
pow_small k l = pow-lt {i = k} {j = word_bits} (omega arith)

bounded_tokens : (k : ℕ) (s : List ℕ) → k ≤ max_terminals → Bounded s → Bounded (tokens k s)
unfolding tokens
bounded_tokens zero s l h = h
bounded_tokens (suc k) s l h =
    bounded_raised _ (marks + suc k) 1 (omega arith) (bounded_raised (tokens k s) (suc k) (2 ^ suc k) (pow_small (suc k) l) (bounded_tokens k s (omega arith) h))

pub bounded_begun : (t start : ℕ) → t ≤ max_terminals → Bounded (begun t start)
unfolding begun
bounded_begun t start l =
    bounded_tokens t _ l
    (bounded_raised _ (marks + start) 2 (omega arith)
    (bounded_raised (zeros sets_size) (follows + start) 1 (omega arith) (λ i. omega (arith, byte_zeros sets_size i))))

pub bounded_total : (s : List ℕ) → length s ≡ sets_size → Bounded s → total s ≤ sets_size * 2 ^ word_bits
bounded_total s l b = let q : total s ≤ length s * 2 ^ word_bits = total_bound s (2 ^ word_bits) (λ i m. omega (arith, b i)) in rw l at q
