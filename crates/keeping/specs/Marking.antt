-- A mark for each slot that is held.
use Rattle.std.specs.Prelude.{None, Some, ℕ, zero, suc, ◌+◌, ◌≤◌, ◌<◌, ◌≡◌, refl, length, get_or, set}
use Rattle.std.proofs.Common.{ap, ◌∙◌, ⊎_elim, get_or-set_same, get_or-set_other, arith}
use Rattle.std.proofs.Math.Logic.{by_cases}
use mathlib.Core.List.Memᴰ
use mathlib.Core.List.{List, [], ◌∷◌, ◌++◌, Memᴰ, append-nil}
use Rattle.std.proofs.Math.Decide.{ℕ_discrete}
use Rattle.base.specs.Bytes.{byte_at}
use Rattle.base.specs.Blocks.{zeros, byte_zeros}
use Rattle.edits.specs.Keeping.{kept_of}
use Rattle.edits.specs.Giving.{held_of, kept_made}
use Rattle.keeping.specs.Matched.{slot_by, held_from, length_from, held_last, HoldsSlot}

-- the slots held are the ones marked
pub record Marked (m hs : List ℕ) : Type 0 where
  pub held : (s : ℕ) → Memᴰ s (held_of hs) → byte_at m s ≡ 1
  pub free : (s : ℕ) → (Memᴰ s (held_of hs) → ⊥) → byte_at m s ≡ 0

held_append : (hs : List ℕ) (h : ℕ) → held_of (hs ++ (h ∷ [])) ≡ held_of hs ++ held_of (h ∷ [])
held_append [] h = refl
held_append (zero ∷ hs) h = held_append hs h
held_append (suc s ∷ hs) h = ap (λ (l : List ℕ). suc s ∷ l) (held_append hs h)

kept_append : (hs : List ℕ) (h : ℕ) → kept_of (hs ++ (h ∷ [])) ≡ kept_of hs + kept_of (h ∷ [])
kept_append [] h = omega arith
kept_append (zero ∷ hs) h = kept_append hs h
kept_append (suc s ∷ hs) h = omega (arith, kept_append hs h)

marked_none : (m hs : List ℕ) → Marked m hs → Marked m (hs ++ (0 ∷ []))
marked_none m hs k =
    let q : held_of (hs ++ (0 ∷ [])) ≡ held_of hs = held_append hs 0 ∙ append-nil (held_of hs) in
    record { held = λ s x. k.held s (rw q at x); free = λ s x. k.free s (λ y. x (rw q y)) }

marked_some : (m hs : List ℕ) (h : ℕ) → 1 ≤ h → h < length m → Marked m hs → Marked (set m h 1) (hs ++ (h ∷ []))
marked_some m hs zero o l k = absurd (omega arith)
marked_some m hs (suc h) o l k =
    let q : held_of (hs ++ (suc h ∷ [])) ≡ held_of hs ++ (suc h ∷ []) = held_append hs (suc h) in
    record { held = λ s x. at s (rw q at x); free = λ s x. off s (λ y. x (rw q y)) }
  where
    at : (s : ℕ) → Memᴰ s (held_of hs ++ (suc h ∷ [])) → byte_at (set m (suc h) 1) s ≡ 1
    at s x =
        by_cases (ℕ_discrete s (suc h)) (λ i. rw i (get_or-set_same m (suc h) 1 0 l))
        (λ n. get_or-set_other m (suc h) s 1 0 n ∙ ⊎_elim (k.held s) (λ o. absurd (n (Memᴰ.eq_of_singleton o))) (Memᴰ.append_cases (held_of hs) x))

    off : (s : ℕ) → (Memᴰ s (held_of hs ++ (suc h ∷ [])) → ⊥) → byte_at (set m (suc h) 1) s ≡ 0
    off s x =
        get_or-set_other m (suc h) s 1 0 (λ i. x (Memᴰ.append_right (held_of hs) (Memᴰ.head i)))
        ∙ k.free s (λ o. x (Memᴰ.append_left (suc h ∷ []) o))

-- with a mark at h, if that is a slot
unfoldable pub mark : List ℕ → ℕ → List ℕ
mark m zero = m
mark m (suc s) = set m (suc s) 1

marked_more : (m hs : List ℕ) (h : ℕ) → h < length m → Marked m hs → Marked (mark m h) (hs ++ (h ∷ []))
unfolding mark
marked_more m hs zero l k = marked_none m hs k
marked_more m hs (suc h) l k = marked_some m hs (suc h) (omega arith) l k

-- ---- the first k of the new nodes

-- the slots that they hold are marked
pub record Marks (w ms : List ℕ) (k : ℕ) (m : List ℕ) : Type 0 where
  pub marked : Marked m (held_from w ms k 0)

-- so many are kept
pub record Keeps (w ms : List ℕ) (k kept : ℕ) : Type 0 where
  pub count : kept ≡ kept_of (held_from w ms k 0)

pub keeps_few : {w ms : List ℕ} {k kept : ℕ} → Keeps w ms k kept → kept ≤ k
keeps_few {w} {ms} {k} h = omega (arith, h.count, kept_made (held_from w ms k 0), length_from w ms k 0)

pub marks_start : (w ms m : List ℕ) (n : ℕ) → m ≡ zeros n → Marks w ms 0 m
marks_start w ms m n e =
    record { marked = record { held = λ s x. absurd (Memᴰ.not-nil x); free = λ s x. ap (λ (u : List ℕ). byte_at u s) e ∙ byte_zeros n s } }

pub keeps_start : (w ms : List ℕ) → Keeps w ms 0 0
keeps_start w ms = record { count = refl }

module _ (w ms : List ℕ) (i : ℕ) where
  more : (h : ℕ) → slot_by w (get_or ms i 0) ≡ h → held_from w ms (i + 1) 0 ≡ held_from w ms i 0 ++ (h ∷ [])
  more h e =
      held_last w ms i 0 ∙ ap (λ (j : ℕ). held_from w ms i 0 ++ (slot_by w (get_or ms j 0) ∷ [])) (omega arith) ∙ ap (λ (s : ℕ). held_from w ms i 0 ++ (s ∷ [])) e

  pub marks_none : {m : List ℕ} → HoldsSlot (slot_by w (get_or ms i 0)) None → Marks w ms i m → Marks w ms (i + 1) m
  marks_none {m} e k = record { marked = rw (more 0 e) (marked_none m (held_from w ms i 0) k.marked) }

  pub marks_some : {m m' : List ℕ} (h : ℕ) → HoldsSlot (slot_by w (get_or ms i 0)) (Some h) → h < length m → m' ≡ set m h 1 → Marks w ms i m → Marks w ms (i + 1) m'
  marks_some {m} h e l f k = record { marked = rw (more h e.0, f) (marked_some m (held_from w ms i 0) h e.1 l k.marked) }

  pub keeps_none : {kept : ℕ} → HoldsSlot (slot_by w (get_or ms i 0)) None → Keeps w ms i kept → Keeps w ms (i + 1) kept
  keeps_none e k = record { count = rw (more 0 e, kept_append (held_from w ms i 0) 0) (omega (arith, k.count)) }

  pub keeps_some : {kept : ℕ} (h : ℕ) → HoldsSlot (slot_by w (get_or ms i 0)) (Some h) → Keeps w ms i kept → Keeps w ms (i + 1) (kept + 1)
  keeps_some zero e k = absurd (omega (arith, e.1))
  keeps_some (suc h) e k = record { count = rw (more (suc h) e.0, kept_append (held_from w ms i 0) (suc h)) (omega (arith, k.count)) }
