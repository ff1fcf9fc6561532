-- A new node that keeps an old one's slot hands on to its children: those without tokens keep the slots of the old node's children without tokens at the same places.
use Rattle.std.specs.Prelude.{ℕ, zero, suc, ◌+◌, ◌-◌, ◌≤◌, ◌<◌, ◌≡◌, refl, ◌⊎◌, List, length, get_or, set}
use Rattle.std.proofs.Common.{sym, ap, ◌∙◌, length-set, get_or-set_same, get_or-set_other, arith}
use Rattle.std.proofs.Math.Logic.{by_cases}
use Rattle.std.proofs.Math.Decide.{ℕ_discrete}

-- child m of the node at i, where `ends` has the index behind each child
abbrev pub kid : List ℕ → ℕ → ℕ → ℕ
kid ends i zero = i + 1
kid ends i (suc m) = get_or ends (kid ends i m) 0

-- the index behind a node lo..hi is behind it, and no more than hi
pub record Rising (ends : List ℕ) (lo hi : ℕ) : Type 0 where
  pub low : (y : ℕ) → lo ≤ y → y < hi → y < get_or ends y 0
  pub high : (y : ℕ) → lo ≤ y → y < hi → get_or ends y 0 ≤ hi

pub rise_low : {ends : List ℕ} {lo hi y v : ℕ} → Rising ends lo hi → lo ≤ y → y < hi → v ≡ get_or ends y 0 → y < v
rise_low {y = y} h l k e = omega (arith, h.low y l k, e)

-- no entry is above n
pub record Few (n : ℕ) (ms : List ℕ) : Type 0 where
  pub each : (z : ℕ) → get_or ms z 0 ≤ n

pub few_set : {n : ℕ} {ms ms' : List ℕ} (i v : ℕ) → Few n ms → i < length ms → v ≤ n → ms' ≡ set ms i v → Few n ms'
few_set {n} {ms} i v h l k f =
    rw f (record {
      each = λ z. by_cases (ℕ_discrete z i) (λ e. rw (e, get_or-set_same ms i v 0 l) k) (λ e. rw (get_or-set_other ms i z v 0 e) (h.each z));
    })

pub few_set_one : {n : ℕ} {ms ms' : List ℕ} (i v : ℕ) → Few n ms → i < length ms → ms' ≡ set ms i v → v ≡ get_or ms' i 0
few_set_one {ms = ms} i v h l f = rw f (sym (get_or-set_same ms i v 0 l))

-- ---- one child

-- the new node at c keeps the slot of the old one at d, if neither has tokens
pub data Handed (widths : List ℕ) (c d base : ℕ) (ms : List ℕ) : List ℕ → Type 0 where
  given : get_or widths c 0 ≡ 0 → get_or widths d 0 ≡ 0 → Handed widths c d base ms (set ms (c - base) (d + 1))
  left : (get_or widths c 0 ≡ 0 → get_or widths d 0 ≡ 0 → ⊥) → Handed widths c d base ms ms

module _ (widths : List ℕ) (c d base : ℕ) (ms : List ℕ) where
  pub handed_new : (v : ℕ) → v ≡ get_or widths c 0 → (v ≡ 0 → ⊥) → Handed widths c d base ms ms
  handed_new v e n = Handed.left (λ x y. n (e ∙ x))

  pub handed_old : (v : ℕ) → v ≡ get_or widths d 0 → (v ≡ 0 → ⊥) → Handed widths c d base ms ms
  handed_old v e n = Handed.left (λ x y. n (e ∙ y))

  pub handed_both : (ms' : List ℕ) (u v : ℕ) → u ≡ get_or widths c 0 → u ≡ 0 → v ≡ get_or widths d 0 → v ≡ 0 → ms' ≡ set ms (c - base) (d + 1) → Handed widths c d base ms ms'
  handed_both ms' u v e x f y z = rw z (Handed.given (sym e ∙ x) (sym f ∙ y))

pub few_handed : {widths : List ℕ} {c d base n : ℕ} {ms ms' : List ℕ} → Few n ms → c - base < length ms → d < n → Handed widths c d base ms ms' → Few n ms'
few_handed {c = c} {d = d} {base = base} h l k (Handed.given a b) = few_set (c - base) (d + 1) h l (omega arith) refl
few_handed h l k (Handed.left a) = h

-- ---- all children

-- the first m children of the new node at i and of the old one at j were gone through
pub record Handing (ends widths : List ℕ) (base i j : ℕ) (ms₀ : List ℕ) (m : ℕ) (ms : List ℕ) : Type 0 where
  pub long : length ms ≡ length ms₀
  -- they are below both nodes
  pub reach : (x : ℕ) → x < m → (kid ends i x < get_or ends i 0) × (kid ends j x < get_or ends j 0)
  pub given : (x : ℕ) → x < m → get_or widths (kid ends i x) 0 ≡ 0 → get_or widths (kid ends j x) 0 ≡ 0 → get_or ms (kid ends i x - base) 0 ≡ kid ends j x + 1
  pub others : (z : ℕ) → ((x : ℕ) → x < m → get_or widths (kid ends i x) 0 ≡ 0 → get_or widths (kid ends j x) 0 ≡ 0 → kid ends i x ≡ base + z → ⊥) → get_or ms z 0 ≡ get_or ms₀ z 0

-- and one of them has no further child
pub record HandedAll (ends widths : List ℕ) (base i j : ℕ) (ms₀ ms : List ℕ) : Type 0 where
  pub count : ℕ
  pub handing : Handing ends widths base i j ms₀ count ms
  pub ended : (get_or ends i 0 ≤ kid ends i count) ⊎ (get_or ends j 0 ≤ kid ends j count)

-- on the way: the next children stand at c and d
pub record HandingAt (ends widths : List ℕ) (base i j : ℕ) (ms₀ : List ℕ) (c d : ℕ) (ms : List ℕ) : Type 0 where
  pub m : ℕ
  pub c_is : c ≡ kid ends i m
  pub d_is : d ≡ kid ends j m
  pub low_c : i < c
  pub low_d : j < d
  pub rising : (x : ℕ) → x < m → (base ≤ kid ends i x) × (kid ends i x < c)
  pub handing : Handing ends widths base i j ms₀ m ms

module _ {ends widths : List ℕ} {base i j : ℕ} {ms₀ : List ℕ} {c d : ℕ} {ms : List ℕ} (h : HandingAt ends widths base i j ms₀ c d ms) where
  pub handing_next : {ms' : List ℕ} (last stop c' d' : ℕ) → last ≡ get_or ends i 0 → stop ≡ get_or ends j 0 → c < last → d < stop → base ≤ i → c - base < length ms → c' ≡ get_or ends c 0 → d' ≡ get_or ends d 0 → c < c' → d < d'
      → Handed widths c d base ms ms' → HandingAt ends widths base i j ms₀ c' d' ms'
  handing_next {ms'} last stop c' d' e f l k o r u v s t g =
      record {
        m = suc h.m;
        c_is = u ∙ ap (λ (y : ℕ). get_or ends y 0) h.c_is;
        d_is = v ∙ ap (λ (y : ℕ). get_or ends y 0) h.d_is;
        low_c = omega (arith, h.low_c);
        low_d = omega (arith, h.low_d);
        rising = λ x q. by_cases (ℕ_discrete x h.m) (λ y. rw (y, ← h.c_is) (omega (arith, h.low_c), s)) (λ y. let z = h.rising x (omega arith) in (z.0, omega arith));
        handing = more g;
      }
    where
      reached : (x : ℕ) → x < suc h.m → (kid ends i x < get_or ends i 0) × (kid ends j x < get_or ends j 0)
      reached x q = by_cases (ℕ_discrete x h.m) (λ y. rw (y, ← h.c_is, ← h.d_is) (omega arith, omega arith)) (λ y. h.handing.reach x (omega arith))

      more : {ms' : List ℕ} → Handed widths c d base ms ms' → Handing ends widths base i j ms₀ (suc h.m) ms'
      more (Handed.given a b) =
          record {
            long = length-set ms (c - base) (d + 1) ∙ h.handing.long;
            reach = reached;
            given = λ x q y z. by_cases (ℕ_discrete x h.m)
                (λ w. rw (w, ← h.c_is, ← h.d_is) (get_or-set_same ms (c - base) (d + 1) 0 r))
                (λ w. let p = h.rising x (omega arith) in
                get_or-set_other ms (c - base) (kid ends i x - base) (d + 1) 0 (λ n. omega (arith, p.0, p.1, n, h.low_c)) ∙ h.handing.given x (omega arith) y z);
            others = λ z n.
                get_or-set_other ms (c - base) z (d + 1) 0 (λ w. n h.m (omega arith) (rw (← h.c_is) a) (rw (← h.d_is) b) (omega (arith, w, h.c_is, h.low_c)))
                ∙ h.handing.others z (λ x q. n x (omega arith));
          }
      more (Handed.left a) =
          record {
            long = h.handing.long;
            reach = reached;
            given = λ x q y z. by_cases (ℕ_discrete x h.m)
                (λ w. absurd (a (rw h.c_is (rw w at y)) (rw h.d_is (rw w at z))))
                (λ w. h.handing.given x (omega arith) y z);
            others = λ z n. h.handing.others z (λ x q. n x (omega arith));
          }
