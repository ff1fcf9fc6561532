-- Rounds of sweeps until nothing changes: what is lit then is exactly what is so.
use Prim.Native.Nat.{ℕ, zero, suc, ◌+◌, ◌-◌, ◌*◌, ◌^◌, ◌≤◌, ◌<◌}
use Rattle.std.specs.Prelude.{◌≡◌, Bool, true, length, get_or}
use Rattle.std.proofs.Math.Path.{refl}
use Rattle.std.proofs.Common.{ap, sym, ◌∙◌, get_or-set_same}
use Rattle.std.proofs.Math.Bool.{false}
use Rattle.std.proofs.Math.Logic.{by_cases}
use mathlib.Core.List.{List, [], ◌∷◌}
use Rattle.std.specs.Int.Bits.{bit_or}
use Rattle.std.proofs.Math.Decide.{ℕ_discrete}
use native.Mathlib.Omega.{arith}
use Rattle.base.specs.Bits.{Has, none_has, one_has, has_one, has_or_right}
use Rattle.base.specs.Blocks.{zeros, length_zeros, byte_zeros}
use Rattle.grammar.specs.Limits.{max_terminals}
use Rattle.grammar.specs.Each.{Each}
use Rattle.grammar.specs.Grammar.{Grammar}
use Rattle.grammar.specs.Derivation.{stop}
use Rattle.grammar.specs.Rows.{symbol_space, left_at, grammar_in, left_small, symbols_small, length_at}
use Rattle.grammar.specs.RowRules.{body_at, rule_at, rule_row}
use Rattle.grammar.specs.declared.Head.{Head}
use Rattle.sets.specs.Closures.{b_here, a_start}
use Rattle.sets.specs.Words.{word_bits, follows, marks, sets_size, raised, produced_at, turned, swept, tokens, begun}
use Rattle.sets.specs.Growth.{total, Within, within_refl, within_trans, within_raised, still_both}
use Rattle.sets.specs.Facts.{Sound, is_first, is_follow, is_made, is_reached, begins, sound_raised, sound_produced}
use Rattle.sets.specs.Still.{Closed, within_swept, closed_swept, turned_low}
use Rattle.sets.specs.Bounds.{Bounded, bounded_swept, bounded_total}
use Rattle.sets.specs.Sweeps.{sweep_none, sweep_back, sweep_front, grew_none, grew_join}
use Rattle.sets.specs.Known.{Known}

-- ---- a sweep is sound

module _ (rows : List ℕ) (head : Head) (count : ℕ) (all : count ≤ head.count) where
  abbrev G : Grammar
  G = grammar_in rows head

  pub sound_swept : (back : Bool) (k : ℕ) {s : List ℕ} → k ≤ count → Sound G s → Sound G (swept rows back count k s)
  unfolding swept produced_at
  sound_swept back zero l h = h
  sound_swept back (suc k) l h =
      sound_produced (rule_at rows head (turned back count k) (omega (arith, turned_low rows back count k (omega arith))))
      (left_small rows (turned back count k))
      (symbols_small rows (turned back count k) (length_at rows (turned back count k)) 0)
      (sound_swept back k (omega arith) h)

-- ---- rounds

-- rounds of sweeps went from s₀ to s
pub record Rounded (rows : List ℕ) (count : ℕ) (s₀ s : List ℕ) : Type 0 where
  pub within : Within s₀ s
  pub bounded : Bounded s₀ → Bounded s
  pub sound : (head : Head) → count ≤ head.count → Sound (grammar_in rows head) s₀ → Sound (grammar_in rows head) s

-- and a sweep has nothing to add
pub record Settled (rows : List ℕ) (count : ℕ) (s₀ s : List ℕ) : Type 0 where
  pub within : Within s₀ s
  pub sound : (head : Head) → count ≤ head.count → Sound (grammar_in rows head) s₀ → Sound (grammar_in rows head) s
  pub closed : swept rows false count count s ≡ s

module _ (rows : List ℕ) (count : ℕ) where
  pub rounded_start : (s : List ℕ) → Rounded rows count s s
  rounded_start s = record { within = within_refl s; bounded = λ b. b; sound = λ head l h. h }

  module _ (s₀ s s' s'' : List ℕ) (h : Rounded rows count s₀ s) (e : s' ≡ swept rows true count count s) (f : s'' ≡ swept rows false count count s') where
    pub rounded_turn : Rounded rows count s₀ s''
    rounded_turn =
        let one : Within s s' = rw e (within_swept rows true count count s) in
        let two : Within s' s'' = rw f (within_swept rows false count count s') in
        record {
          within = within_trans h.within (within_trans one two);
          bounded = λ b. rw f (bounded_swept rows false count count s' (rw e (bounded_swept rows true count count s (h.bounded b))));
          sound = λ head l q.
              rw f (sound_swept rows head count l false count (omega arith)
              (rw e (sound_swept rows head count l true count (omega arith) (h.sound head l q))));
        }

    -- the last round changed nothing
    pub settled_turn : s'' ≡ s → Settled rows count s₀ s''
    settled_turn z =
        let one : Within s s' = rw e (within_swept rows true count count s) in
        let two : Within s' s'' = rw f (within_swept rows false count count s') in
        let same = (still_both one two z).1 in
        let r = rounded_turn in
        record { within = r.within; sound = r.sound; closed = ap (swept rows false count count) same ∙ sym f }

    -- a round that made words grow leaves less to grow
    pub rounds_less : length s₀ ≡ sets_size → Bounded s₀ → total s < total s'' → sets_size * 2 ^ word_bits - total s'' < sets_size * 2 ^ word_bits - total s
    rounds_less n b g =
        let r = rounded_turn in
        let q = bounded_total s'' (r.within.long ∙ n) (r.bounded b) in
        omega arith

pub ruleset settling = (rounded_start, sweep_none, sweep_back, sweep_front, grew_none, grew_join)

-- ---- the beginning is sound, and has what needs no production

module _ {G : Grammar} (small : G.t ≤ max_terminals) where
  sound_zeros : (k : ℕ) → Sound G (zeros k)
  sound_zeros k = record { at = λ i a h. absurd (none_has a (rw (byte_zeros k i) at h)) }

  sound_tokens : {s : List ℕ} (k : ℕ) → k ≤ G.t → Sound G s → Sound G (tokens k s)
  unfolding tokens
  sound_tokens zero l h = h
  sound_tokens (suc k) l h =
      sound_raised (marks + suc k) 1
      (sound_raised (suc k) (2 ^ suc k) (sound_tokens k (omega arith) h)
      (λ a q. let e = has_one (suc k) a q in rw e (is_first (omega arith) (begins (b_here (omega arith, l))))))
      (λ a q. is_made (suc k) (omega arith) refl (has_one 0 a q) (suc k ∷ [], Each.cons (omega arith, l) Each.nil, stop))

  pub sound_begun : G.start < symbol_space → Sound G (begun G.t G.start)
  unfolding begun
  sound_begun low =
      sound_tokens G.t (omega arith)
      (sound_raised (marks + G.start) 2
      (sound_raised (follows + G.start) 1 (sound_zeros sets_size)
      (λ a q. is_follow G.start low refl (a_start (has_one 0 a q))))
      (λ a q. is_reached G.start low refl (has_one 1 a q) ([], [], stop)))

has_raised : (s : List ℕ) (i m a : ℕ) → i < length s → Has m a → Has (get_or (raised s i m) i 0) a
unfolding raised
has_raised s i m a l h = rw (get_or-set_same s i (bit_or (get_or s i 0) m) 0 l) (has_or_right (get_or s i 0) m a h)

within_tokens : (k : ℕ) (s : List ℕ) → Within s (tokens k s)
unfolding tokens
within_tokens zero s = within_refl s
within_tokens (suc k) s = within_trans (within_tokens k s) (within_trans (within_raised (tokens k s) _ _) (within_raised _ _ _))

-- a terminal's two bits
token_bits : (k : ℕ) (s : List ℕ) → length s ≡ sets_size → k ≤ max_terminals → (a : ℕ) → 1 ≤ a → a ≤ k
    → Has (get_or (tokens k s) a 0) a × Has (get_or (tokens k s) (marks + a) 0) 0
unfolding tokens
token_bits zero s n l a h m = absurd (omega arith)
token_bits (suc k) s n l a h m =
    let u : List ℕ = tokens k s in
    let v : List ℕ = raised u (suc k) (2 ^ suc k) in
    let w = within_raised v (marks + suc k) 1 in
    let lu : length u ≡ sets_size = (within_tokens k s).long ∙ n in
    by_cases (ℕ_discrete a (suc k))
    (λ e. rw e (
      w.bits (suc k) (suc k) (has_raised u (suc k) (2 ^ suc k) (suc k) (omega arith) (one_has (suc k))),
      has_raised v (marks + suc k) 1 0 (omega (arith, (within_raised u (suc k) (2 ^ suc k)).long)) (one_has 0),
    ))
    (λ e. let q = token_bits k s n (omega arith) a h (omega arith) in
    let x = within_trans (within_raised u (suc k) (2 ^ suc k)) w in
    (x.bits a a q.0, x.bits (marks + a) 0 q.1))

pub length_begun : (t start : ℕ) → length (begun t start) ≡ sets_size
unfolding begun
length_begun t start =
    (within_tokens t (raised (raised (zeros sets_size) (follows + start) 1) (marks + start) 2)).long
    ∙ (within_raised (raised (zeros sets_size) (follows + start) 1) (marks + start) 2).long
    ∙ (within_raised (zeros sets_size) (follows + start) 1).long
    ∙ length_zeros sets_size

-- ---- so the words are known

closed_as : {s : List ℕ} (M M' : ℕ) (γ γ' : List ℕ) → M ≡ M' → γ ≡ γ' → Closed s M' γ' → Closed s M γ
closed_as M M' γ γ' e f h = rw (e, f) h

module _ (rows : List ℕ) (head : Head) (few : head.t ≤ max_terminals) (low : head.start < symbol_space) where
  pub known_settled : {s : List ℕ} → Settled rows head.count (begun head.t head.start) s → Known (grammar_in rows head) s
  unfolding grammar_in begun
  known_settled {s} h =
      record {
        long = long;
        sound = h.sound head (omega arith) (sound_begun few low);
        full =
            record {
              closed = λ p M γ r. let q = rule_row rows head r in closed_as M (left_at rows q.row) γ (body_at rows q.row) q.left q.body (closed_swept rows false head.count s long h.closed q.row q.low);
              self = λ a w. h.within.bits a a (token_bits head.t base lb few a w.0 w.1).0;
              token = λ a w. h.within.bits (marks + a) 0 (token_bits head.t base lb few a w.0 w.1).1;
              ends = h.within.bits (follows + head.start) 0 ((within_tokens head.t base).bits (follows + head.start) 0 ends);
              root = h.within.bits (marks + head.start) 1 ((within_tokens head.t base).bits (marks + head.start) 1 root);
            };
      }
    where
      first : List ℕ
      first = raised (zeros sets_size) (follows + head.start) 1

      base : List ℕ
      base = raised first (marks + head.start) 2

      lf : length first ≡ sets_size
      lf = (within_raised (zeros sets_size) (follows + head.start) 1).long ∙ length_zeros sets_size

      lb : length base ≡ sets_size
      lb = (within_raised first (marks + head.start) 2).long ∙ lf

      long : length s ≡ sets_size
      long = h.within.long ∙ (within_tokens head.t base).long ∙ lb

      ends : Has (get_or base (follows + head.start) 0) 0
      ends = (within_raised first (marks + head.start) 2).bits (follows + head.start) 0 (has_raised (zeros sets_size) (follows + head.start) 1 0 (omega (arith, length_zeros sets_size)) (one_has 0))

      root : Has (get_or base (marks + head.start) 0) 1
      root = has_raised first (marks + head.start) 2 1 (omega (arith, lf)) (one_has 1)

-- from the beginning to the end
pub known_from : (rows : List ℕ) (head : Head) (b s : List ℕ) → head.t ≤ max_terminals → head.start < symbol_space → b ≡ begun head.t head.start
    → Settled rows head.count b s → Known (grammar_in rows head) s
known_from rows head b s few low e h = known_settled rows head few low (rw e at h)
