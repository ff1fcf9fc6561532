-- Soundness: what the bits of the words mean, and that a pass over a production of the grammar lights only what is so.
use Rattle.std.specs.Prelude.{ℕ, ◌+◌, ◌-◌, ◌%◌, ◌<◌, ◌≡◌, ◌⊎◌, length, get_or, set, eqb}
use Rattle.std.proofs.Math.Path.{refl, sym}
use Rattle.std.proofs.Common.{◌∙◌, get_or-set_same, get_or-set_other}
use Rattle.std.proofs.Math.Logic.{inl, inr, by_cases}
use mathlib.Core.List.{List, [], ◌∷◌, ◌++◌, append_assoc, append-nil}
use Rattle.std.proofs.Math.Seq.{set_out}
use Rattle.std.specs.Int.Bits.{bit_or}
use borrow.Author.Tests.{eqb-true, eqb-false}
use Rattle.std.proofs.Math.Decide.{ℕ_discrete, dec_lt}
use native.Mathlib.Omega.{arith}
use Rattle.base.specs.Choose.{choose_of}
use Rattle.base.specs.Bits.{Has, or_has, none_has, has_one, odd_has, has_odd, high_has, has_high, has_or_left, has_or_right}
use Rattle.grammar.specs.Each.{Each, each_join}
use Rattle.grammar.specs.Grammar.{Grammar, Rule, Terminal}
use Rattle.grammar.specs.Derivation.{Step, at, Steps, stop, then, Reachable}
use Rattle.grammar.specs.Trees.{trans, steps_in}
use Rattle.grammar.specs.Rows.{symbol_space}
use Rattle.sets.specs.Closures.{Vanish, v_nil, v_cons, vanish_join, Begin, b_rule, b_skip, begin_left, begin_terminal, After, a_first, a_up, expand_in}
use Rattle.sets.specs.Words.{follows, marks, leads, suffix, both, raised, high, stepped, Pass, turn, passed, closing, produced}

-- ---- a word in front of another

module _ (w r a : ℕ) where
  pub leads_says : Has (leads w r) a → ((0 < a) × Has w a) ⊎ (Has w 0 × Has r a)
  unfolding leads
  leads_says =
      choose_of (λ m. Has m a → ((0 < a) × Has w a) ⊎ (Has w 0 × Has r a)) (eqb (w % 2) 1) _ _
      (λ e h. let o = eqb-true (w % 2) 1 e in
      let q : w - 1 ≡ w - w % 2 = omega arith in
      go o (or_has (w - 1) r a h) q)
      (λ e h. inl (up (eqb-false (w % 2) 1 e) h))
    where
      go : w % 2 ≡ 1 → Has (w - 1) a ⊎ Has r a → w - 1 ≡ w - w % 2 → ((0 < a) × Has w a) ⊎ (Has w 0 × Has r a)
      go o (inl h) q = inl (high_has w a (rw q at h))
      go o (inr h) q = inr (odd_has w o, h)

      up : (w % 2 ≡ 1 → ⊥) → Has w a → (0 < a) × Has w a
      up n h = by_cases (ℕ_discrete a 0) (λ e. absurd (n (has_odd w (rw e at h)))) (λ e. (omega arith, h))

  pub leads_here : 0 < a → Has w a → Has (leads w r) a
  unfolding leads
  leads_here l h =
      choose_of (λ m. Has m a) (eqb (w % 2) 1) _ _
      (λ e. let o = eqb-true (w % 2) 1 e in
      let q : w - w % 2 ≡ w - 1 = omega arith in
      has_or_left (w - 1) r a (rw q at (has_high w a l h)))
      (λ e. h)

  pub leads_past : Has w 0 → Has r a → Has (leads w r) a
  unfolding leads
  leads_past o h =
      choose_of (λ m. Has m a) (eqb (w % 2) 1) _ _ (λ e. has_or_right (w - 1) r a h) (λ e. absurd (eqb-false (w % 2) 1 e (has_odd w o)))

-- ---- what the bits mean

-- a begins xs; or a is 0, and xs may vanish
pub data Means (G : Grammar) (a : ℕ) (xs : List ℕ) : Type 0 where
  gone : a ≡ 0 → Vanish G xs → Means G a xs
  begins : Begin G a xs → Means G a xs

-- the symbols derive a string of terminals
abbrev pub Made : Grammar → List ℕ → Type 0
Made G xs = (w : List ℕ) × Each (Terminal G) w × Steps G xs w

-- bit a of word i says something that is so
pub data Fact (G : Grammar) (i a : ℕ) : Type 0 where
  is_first : i < symbol_space → Means G a (i ∷ []) → Fact G i a
  is_follow : (X : ℕ) → X < symbol_space → i ≡ follows + X → After G a X → Fact G i a
  is_made : (X : ℕ) → X < symbol_space → i ≡ marks + X → a ≡ 0 → Made G (X ∷ []) → Fact G i a
  is_reached : (X : ℕ) → X < symbol_space → i ≡ marks + X → a ≡ 1 → Reachable G X → Fact G i a

-- all bits of the words say what is so
pub record Sound (G : Grammar) (s : List ℕ) : Type 0 where
  pub at : (i a : ℕ) → Has (get_or s i 0) a → Fact G i a

-- of a pass: the words, the word of the symbols passed, and whether they are all productive
record SoundPass (G : Grammar) (w : Pass) (xs : List ℕ) : Type 0 where
  sets : Sound G w.sets
  tail : (a : ℕ) → Has w.tail a → Means G a xs
  made : (a : ℕ) → Has w.made a → (a ≡ 0) × Made G xs

module _ {G : Grammar} where
  pub first_of : {X a : ℕ} → X < symbol_space → Fact G X a → Means G a (X ∷ [])
  first_of l (is_first m h) = h
  first_of l (is_follow Y m e h) = absurd (omega arith)
  first_of l (is_made Y m e z h) = absurd (omega arith)
  first_of l (is_reached Y m e z h) = absurd (omega arith)

  pub follow_of : (X : ℕ) {a : ℕ} → X < symbol_space → Fact G (follows + X) a → After G a X
  follow_of X l (is_first m h) = absurd (omega arith)
  follow_of X l (is_follow Y m e h) = let q : Y ≡ X = omega arith in rw q at h
  follow_of X l (is_made Y m e z h) = absurd (omega arith)
  follow_of X l (is_reached Y m e z h) = absurd (omega arith)

  pub made_of : (X : ℕ) → X < symbol_space → Fact G (marks + X) 0 → Made G (X ∷ [])
  made_of X l (is_first m h) = absurd (omega arith)
  made_of X l (is_follow Y m e h) = absurd (omega arith)
  made_of X l (is_made Y m e z h) = let q : Y ≡ X = omega arith in rw q at h
  made_of X l (is_reached Y m e z h) = absurd (omega arith)

  pub reached_of : (X : ℕ) {a : ℕ} → X < symbol_space → 0 < a → Fact G (marks + X) a → (a ≡ 1) × Reachable G X
  reached_of X l k (is_first m h) = absurd (omega arith)
  reached_of X l k (is_follow Y m e h) = absurd (omega arith)
  reached_of X l k (is_made Y m e z h) = absurd (omega arith)
  reached_of X l k (is_reached Y m e z h) = let q : Y ≡ X = omega arith in (z, rw q at h)

  pub gone_of : {xs : List ℕ} → Means G 0 xs → Vanish G xs
  gone_of (gone e v) = v
  gone_of (begins b) = absurd (omega (arith, begin_terminal b))

  pub begins_of : {a : ℕ} {xs : List ℕ} → 0 < a → Means G a xs → Begin G a xs
  begins_of l (gone e v) = absurd (omega arith)
  begins_of l (begins b) = b

  -- ---- lists of symbols

  means_nil : {a : ℕ} → Has 1 a → Means G a []
  means_nil {a} h = gone (has_one 0 a h) v_nil

  means_past : {a x : ℕ} {xs : List ℕ} → Vanish G (x ∷ []) → Means G a xs → Means G a (x ∷ xs)
  means_past v (gone e u) = gone e (vanish_join v u)
  means_past v (begins b) = begins (b_skip v b)

  means_cons : {x : ℕ} {xs : List ℕ} (w r a : ℕ) → ((b : ℕ) → Has w b → Means G b (x ∷ [])) → ((b : ℕ) → Has r b → Means G b xs)
      → Has (leads w r) a → Means G a (x ∷ xs)
  means_cons {x} {xs} w r a f g h = go (leads_says w r a h)
    where
      go : ((0 < a) × Has w a) ⊎ (Has w 0 × Has r a) → Means G a (x ∷ xs)
      go (inl k) = begins (begin_left xs (begins_of k.0 (f a k.1)))
      go (inr k) = means_past (gone_of (f 0 k.0)) (g a k.1)

  pub means_suffix : {s : List ℕ} → Sound G s → (xs : List ℕ) → Each (λ x. x < symbol_space) xs → (a : ℕ) → Has (suffix s xs) a → Means G a xs
  unfolding suffix
  means_suffix h [] l a k = means_nil k
  means_suffix {s} h (x ∷ xs) (Each.cons l ls) a k = means_cons (get_or s x 0) (suffix s xs) a (λ b q. first_of l (h.at x b q)) (means_suffix h xs ls) k

  means_rule : {a p M : ℕ} {γ : List ℕ} → Rule G p M γ → Means G a γ → Means G a (M ∷ [])
  means_rule r (gone e v) = gone e (v_cons r v v_nil)
  means_rule r (begins b) = begins (b_rule r b)

  made_cons : {x : ℕ} {xs : List ℕ} → Made G (x ∷ []) → Made G xs → Made G (x ∷ xs)
  made_cons {xs = xs} u v =
      (u.0 ++ v.0, each_join u.1 v.1, trans (steps_in [] xs u.2) (simp append-nil at (steps_in u.0 [] v.2)))

  made_rule : {p M : ℕ} {γ : List ℕ} → Rule G p M γ → Made G γ → Made G (M ∷ [])
  made_rule {M = M} {γ = γ} r u =
      let h : Step G (M ∷ []) γ = simp append-nil at (at [] [] r) in
      (u.0, u.1, then h u.2)

  -- what comes behind x, in a body of m
  after_cons : {p m x : ℕ} {γ : List ℕ} (α β : List ℕ) (w r a : ℕ) → Rule G p m γ → γ ≡ α ++ x ∷ β
      → ((b : ℕ) → Has w b → Means G b β) → ((b : ℕ) → Has r b → After G b m) → Has (leads w r) a → After G a x
  after_cons {m = m} {x = x} α β w r a rule e f g h = go (leads_says w r a h)
    where
      go : ((0 < a) × Has w a) ⊎ (Has w 0 × Has r a) → After G a x
      go (inl k) = a_first α β rule e (begins_of k.0 (f a k.1))
      go (inr k) = a_up α β rule e (gone_of (f 0 k.0)) (g a k.1)

  -- ---- a pass

  pub sound_raised : {s : List ℕ} (i m : ℕ) → Sound G s → ((a : ℕ) → Has m a → Fact G i a) → Sound G (raised s i m)
  unfolding raised
  sound_raised {s} i m h f = record { at = λ j a k. by_cases (dec_lt i (length s)) (λ l. inside j a l k) (λ l. h.at j a (rw (set_out s i (bit_or (get_or s i 0) m) (omega arith)) at k)) }
    where
      new : (a : ℕ) → Has (get_or s i 0) a ⊎ Has m a → Fact G i a
      new a (inl k) = h.at i a k
      new a (inr k) = f a k

      inside : (j a : ℕ) → i < length s → Has (get_or (set s i (bit_or (get_or s i 0) m)) j 0) a → Fact G j a
      inside j a l k =
          by_cases (ℕ_discrete j i)
          (λ q. rw q (new a (or_has (get_or s i 0) m a (rw (q, get_or-set_same s i (bit_or (get_or s i 0) m) 0 l) at k))))
          (λ q. h.at j a (rw (get_or-set_other s i j (bit_or (get_or s i 0) m) 0 q) at k))

  module _ {p m : ℕ} {γ : List ℕ} (rule : Rule G p m γ) (small : m < symbol_space) where
    reach_in : (x : ℕ) (α β : List ℕ) → γ ≡ α ++ x ∷ β → Reachable G m → Reachable G x
    reach_in x α β e u = (u.0 ++ α, β ++ u.1, expand_in x u.0 u.1 α β u.2 rule e)

    sound_stepped : {s : List ℕ} (x tail : ℕ) (α β : List ℕ) → x < symbol_space → γ ≡ α ++ x ∷ β → Sound G s
        → ((a : ℕ) → Has tail a → Means G a β) → Sound G (stepped m x tail s)
    unfolding stepped
    sound_stepped {s} x tail α β l e h f =
        sound_raised (marks + x) (high (get_or s (marks + m) 0))
        (sound_raised (follows + x) (leads tail (get_or s (follows + m) 0)) h
        (λ a k. is_follow x l refl (after_cons α β tail (get_or s (follows + m) 0) a rule e f (λ b q. follow_of m small (h.at (follows + m) b q)) k)))
        (λ a k. let q = high_has (get_or s (marks + m) 0) a k in
        let u = reached_of m small q.0 (h.at (marks + m) a q.1) in
        is_reached x l refl u.0 (reach_in x α β e u.1))

    sound_passed : {s : List ℕ} (α xs : List ℕ) → γ ≡ α ++ xs → Each (λ x. x < symbol_space) xs → Sound G s → SoundPass G (passed m xs s) xs
    unfolding passed turn both
    sound_passed α [] e l h = record { sets = h; tail = λ a. means_nil; made = λ a k. (has_one 0 a k, ([], Each.nil, stop)) }
    sound_passed {s} α (x ∷ xs) e (Each.cons l ls) h = go (sound_passed (α ++ (x ∷ [])) xs (e ∙ sym (append_assoc α (x ∷ []) xs)) ls h)
      where
        go : SoundPass G (passed m xs s) xs → SoundPass G (turn m x (passed m xs s)) (x ∷ xs)
        go w =
            record {
              sets = sound_stepped x (passed m xs s).tail α xs l e w.sets w.tail;
              tail = λ a k. means_cons (get_or (passed m xs s).sets x 0) (passed m xs s).tail a (λ b q. first_of l (w.sets.at x b q)) w.tail k;
              made = λ a. choose_of (λ r. Has r a → (a ≡ 0) × Made G (x ∷ xs)) (eqb (get_or (passed m xs s).sets (marks + x) 0 % 2) 1) _ _
                  (λ o k. let q = w.made a k in
                  (q.0, made_cons (made_of x l (w.sets.at (marks + x) 0 (odd_has _ (eqb-true _ _ o)))) q.1))
                  (λ o k. absurd (none_has a k));
            }

    pub sound_produced : {s : List ℕ} → Each (λ x. x < symbol_space) γ → Sound G s → Sound G (produced m γ s)
    unfolding produced closing
    sound_produced {s} l h =
        let w = sound_passed [] γ refl l h in
        sound_raised (marks + m) (passed m γ s).made
        (sound_raised m (passed m γ s).tail w.sets (λ a k. is_first small (means_rule rule (w.tail a k))))
        (λ a k. let q = w.made a k in is_made m small refl q.0 (made_rule rule q.1))
