-- What can vanish, begin and follow, as closures of the productions, against the definitions by rewriting. The closures are what can be computed.
use Rattle.std.specs.Prelude.{◌≡◌, refl, ◌⊎◌, ℕ, List, [], ◌∷◌, ◌++◌}
use Rattle.std.proofs.Common.{inl, inr, append_assoc, append-nil}
use Rattle.base.specs.Choose.{never}
use Rattle.grammar.specs.Grammar.{Grammar, Rule, Terminal}
use Rattle.grammar.specs.Derivation.{Step, at, Steps, stop, then, Nullable, First, Follow, inside, ending, Reachable}
use Rattle.grammar.specs.Trees.{trans, steps_in}

-- ---- nullable

-- each of the symbols vanishes, by productions down to empty bodies
pub data Vanish (G : Grammar) : List ℕ → Type 0 where
  v_nil : Vanish G []
  v_cons : {p M : ℕ} {γ xs : List ℕ} → Rule G p M γ → Vanish G γ → Vanish G xs → Vanish G (M ∷ xs)

module _ {G : Grammar} where
  pub vanish_join : {xs ys : List ℕ} → Vanish G xs → Vanish G ys → Vanish G (xs ++ ys)
  vanish_join v_nil k = k
  vanish_join (v_cons r h t) k = v_cons r h (vanish_join t k)

  pub vanish_parts : (xs : List ℕ) {ys : List ℕ} → Vanish G (xs ++ ys) → Vanish G xs × Vanish G ys
  vanish_parts [] k = (v_nil, k)
  vanish_parts (x ∷ xs) (v_cons r h t) =
      let q = vanish_parts xs t in
      (v_cons r h q.0, q.1)

  pub vanish_steps : {xs : List ℕ} → Vanish G xs → Nullable G xs
  vanish_steps v_nil = stop
  vanish_steps (v_cons {xs = xs} r h k) = then (at [] xs r) (trans (steps_in [] xs (vanish_steps h)) (vanish_steps k))

  vanish_back : {xs ys : List ℕ} → Step G xs ys → Vanish G ys → Vanish G xs
  vanish_back (at α β {γ = γ} r) h =
      let q = vanish_parts α h in
      let s = vanish_parts γ q.1 in
      vanish_join q.0 (v_cons r s.0 s.1)

  steps_vanish_from : {xs ys : List ℕ} → Steps G xs ys → Vanish G ys → Vanish G xs
  steps_vanish_from stop h = h
  steps_vanish_from (then a s) h = vanish_back a (steps_vanish_from s h)

  pub steps_vanish : {xs : List ℕ} → Nullable G xs → Vanish G xs
  steps_vanish s = steps_vanish_from s v_nil

-- ---- FIRST

pub data Begin (G : Grammar) (a : ℕ) : List ℕ → Type 0 where
  b_here : {xs : List ℕ} → Terminal G a → Begin G a (a ∷ xs)
  b_rule : {p M : ℕ} {γ xs : List ℕ} → Rule G p M γ → Begin G a γ → Begin G a (M ∷ xs)
  b_skip : {x : ℕ} {xs : List ℕ} → Vanish G (x ∷ []) → Begin G a xs → Begin G a (x ∷ xs)

module _ {G : Grammar} {a : ℕ} where
  pub begin_terminal : {xs : List ℕ} → Begin G a xs → Terminal G a
  begin_terminal (b_here t) = t
  begin_terminal (b_rule r b) = begin_terminal b
  begin_terminal (b_skip v b) = begin_terminal b

  begin_steps : {xs : List ℕ} → Begin G a xs → (β : List ℕ) × Steps G xs (a ∷ β)
  begin_steps (b_here {xs = xs} t) = (xs, stop)
  begin_steps (b_rule {xs = xs} r b) =
      let q = begin_steps b in
      (q.0 ++ xs, then (at [] xs r) (steps_in [] xs q.1))
  begin_steps (b_skip {xs = xs} v b) =
      let q = begin_steps b in
      (q.0, trans (steps_in [] xs (vanish_steps v)) q.1)

  pub begin_left : {xs : List ℕ} (ys : List ℕ) → Begin G a xs → Begin G a (xs ++ ys)
  begin_left ys (b_here t) = b_here t
  begin_left ys (b_rule r b) = b_rule r b
  begin_left ys (b_skip v b) = b_skip v (begin_left ys b)

  pub begin_right : {xs ys : List ℕ} → Vanish G xs → Begin G a ys → Begin G a (xs ++ ys)
  begin_right v_nil b = b
  begin_right (v_cons r h k) b = b_skip (v_cons r h v_nil) (begin_right k b)

  begin_parts : (xs : List ℕ) {ys : List ℕ} → Begin G a (xs ++ ys) → Begin G a xs ⊎ (Vanish G xs × Begin G a ys)
  begin_parts [] b = inr (v_nil, b)
  begin_parts (x ∷ xs) (b_here t) = inl (b_here t)
  begin_parts (x ∷ xs) (b_rule r b) = inl (b_rule r b)
  begin_parts (x ∷ xs) {ys} (b_skip v b) = go (begin_parts xs b)
    where
      go : Begin G a xs ⊎ (Vanish G xs × Begin G a ys) → Begin G a (x ∷ xs) ⊎ (Vanish G (x ∷ xs) × Begin G a ys)
      go (inl c) = inl (b_skip v c)
      go (inr c) = inr (vanish_join v c.0, c.1)

  begin_back : {xs ys : List ℕ} → Step G xs ys → Begin G a ys → Begin G a xs
  begin_back (at α β {M = M} {γ = γ} r) b = go (begin_parts α b)
    where
      low : Begin G a γ ⊎ (Vanish G γ × Begin G a β) → Begin G a (M ∷ β)
      low (inl c) = b_rule r c
      low (inr c) = b_skip (v_cons r c.0 v_nil) c.1

      go : Begin G a α ⊎ (Vanish G α × Begin G a (γ ++ β)) → Begin G a (α ++ M ∷ β)
      go (inl c) = begin_left (M ∷ β) c
      go (inr c) = begin_right c.0 (low (begin_parts γ c.1))

  steps_begin_from : {xs ys : List ℕ} → Steps G xs ys → Begin G a ys → Begin G a xs
  steps_begin_from stop b = b
  steps_begin_from (then s t) b = begin_back s (steps_begin_from t b)

  pub begin_first : {xs : List ℕ} → Begin G a xs → First G a xs
  begin_first b = (begin_terminal b, begin_steps b)

  pub first_begin : {xs : List ℕ} → First G a xs → Begin G a xs
  first_begin f = steps_begin_from f.1.1 (b_here f.0)

-- ---- FOLLOW

-- a comes next where β and then the end stand: it begins β, or is the end mark and β vanishes
pub data Next (G : Grammar) (a : ℕ) (β : List ℕ) : Type 0 where
  n_first : Begin G a β → Next G a β
  n_end : Vanish G β → a ≡ 0 → Next G a β

pub data After (G : Grammar) (a : ℕ) : ℕ → Type 0 where
  a_start : a ≡ 0 → After G a G.start
  a_first : {p N M : ℕ} {γ : List ℕ} (α β : List ℕ) → Rule G p N γ → γ ≡ α ++ M ∷ β → Begin G a β → After G a M
  a_up : {p N M : ℕ} {γ : List ℕ} (α β : List ℕ) → Rule G p N γ → γ ≡ α ++ M ∷ β → Vanish G β → After G a N → After G a M

-- M in a concatenation stands in one part or the other
pub split : (xs ys α : List ℕ) (M : ℕ) (β : List ℕ) → xs ++ ys ≡ α ++ M ∷ β
    → ((δ : List ℕ) × (xs ≡ α ++ M ∷ δ) × (β ≡ δ ++ ys)) ⊎ ((δ : List ℕ) × (α ≡ xs ++ δ) × (ys ≡ δ ++ M ∷ β))
split [] ys α M β e = inr (α, refl, e)
split (x ∷ xs) ys [] M β e = inl (xs, cc, cc)
split (x ∷ xs) ys (y ∷ α) M β e = go (split xs ys α M β cc)
  where
    go : ((δ : List ℕ) × (xs ≡ α ++ M ∷ δ) × (β ≡ δ ++ ys)) ⊎ ((δ : List ℕ) × (α ≡ xs ++ δ) × (ys ≡ δ ++ M ∷ β))
        → ((δ : List ℕ) × (x ∷ xs ≡ y ∷ α ++ M ∷ δ) × (β ≡ δ ++ ys)) ⊎ ((δ : List ℕ) × (y ∷ α ≡ x ∷ xs ++ δ) × (ys ≡ δ ++ M ∷ β))
    go (inl q) = inl (q.0, cc, q.2)
    go (inr q) = inr (q.0, cc, q.2)

-- in a sentential form, what comes next after M follows M
abbrev Form : Grammar → ℕ → List ℕ → Type 0
Form G a xs = (α : List ℕ) (M : ℕ) (β : List ℕ) → xs ≡ α ++ M ∷ β → Next G a β → After G a M

module _ {G : Grammar} where
  next_back : {a : ℕ} {xs ys : List ℕ} → Step G xs ys → Next G a ys → Next G a xs
  next_back s (n_first b) = n_first (begin_back s b)
  next_back s (n_end v e) = n_end (vanish_back s v) e

  next_parts : {a : ℕ} (xs : List ℕ) {ys : List ℕ} → Next G a (xs ++ ys) → Begin G a xs ⊎ (Vanish G xs × Next G a ys)
  next_parts {a} xs {ys} (n_first b) = go (begin_parts xs b)
    where
      go : Begin G a xs ⊎ (Vanish G xs × Begin G a ys) → Begin G a xs ⊎ (Vanish G xs × Next G a ys)
      go (inl c) = inl c
      go (inr c) = inr (c.0, n_first c.1)
  next_parts xs (n_end v e) = let q = vanish_parts xs v in inr (q.0, n_end q.1 e)

  begin_nil : {a : ℕ} → Begin G a [] → ⊥
  begin_nil b = elim b [ ]

  form_start : (a : ℕ) → Form G a (G.start ∷ [])
  form_start a [] M [] e (n_first b) = absurd (begin_nil b)
  form_start a [] M [] e (n_end v z) = let m : G.start ≡ M = cc in rw (← m) (a_start z)
  form_start a [] M (b ∷ β) e n = never (cc)
  form_start a (y ∷ []) M β e n = never (cc)
  form_start a (y ∷ z ∷ α) M β e n = never (cc)

  form_step : {a : ℕ} {xs ys : List ℕ} → Step G xs ys → Form G a xs → Form G a ys
  form_step {a} (at δ ζ {M = N} {γ = γ} r) f α M β e n = go (split δ (γ ++ ζ) α M β e)
    where
      low : (θ : List ℕ) → α ≡ δ ++ θ → ((κ : List ℕ) × (γ ≡ θ ++ M ∷ κ) × (β ≡ κ ++ ζ)) ⊎ ((κ : List ℕ) × (θ ≡ γ ++ κ) × (ζ ≡ κ ++ M ∷ β)) → After G a M
      low θ i (inl q) = mid (next_parts q.0 (rw q.2 at n))
        where
          mid : Begin G a q.0 ⊎ (Vanish G q.0 × Next G a ζ) → After G a M
          mid (inl b) = a_first θ q.0 r q.1 b
          mid (inr b) = a_up θ q.0 r q.1 b.0 (f δ N ζ refl b.1)
      low θ i (inr q) = f (δ ++ N ∷ q.0) M β (rw (q.2, append_assoc)) n

      go : ((θ : List ℕ) × (δ ≡ α ++ M ∷ θ) × (β ≡ θ ++ (γ ++ ζ))) ⊎ ((θ : List ℕ) × (α ≡ δ ++ θ) × (γ ++ ζ ≡ θ ++ M ∷ β)) → After G a M
      go (inl q) = f α M (q.0 ++ N ∷ ζ) (rw (q.1, append_assoc)) (next_back (at q.0 ζ r) (rw q.2 at n))
      go (inr q) = low q.0 q.1 (split γ ζ q.0 M β q.2)

  steps_form : {a : ℕ} {xs ys : List ℕ} → Steps G xs ys → Form G a xs → Form G a ys
  steps_form stop f = f
  steps_form (then s t) f = steps_form t (form_step s f)

  pub follow_after : {a M : ℕ} → Follow G M a → After G a M
  follow_after {a} {M} (inside α β t s) = steps_form s (form_start a) α M (a ∷ β) refl (n_first (b_here t))
  follow_after {M = M} (ending α s) = steps_form s (form_start 0) α M [] refl (n_end v_nil refl)

-- a sentential form in which a comes next after M
record Shown (G : Grammar) (a M : ℕ) : Type 0 where
  before : List ℕ
  behind : List ℕ
  form : Steps G (G.start ∷ []) (before ++ M ∷ behind)
  next : Next G a behind

module _ {G : Grammar} where
  next_left : {a : ℕ} {xs : List ℕ} (ys : List ℕ) → Begin G a xs → Next G a (xs ++ ys)
  next_left ys b = n_first (begin_left ys b)

  next_right : {a : ℕ} {xs ys : List ℕ} → Vanish G xs → Next G a ys → Next G a (xs ++ ys)
  next_right v (n_first b) = n_first (begin_right v b)
  next_right v (n_end w e) = n_end (vanish_join v w) e

  pub expand_in : {p N : ℕ} {γ : List ℕ} (M : ℕ) (δ ζ α β : List ℕ) → Steps G (G.start ∷ []) (δ ++ N ∷ ζ) → Rule G p N γ → γ ≡ α ++ M ∷ β
      → Steps G (G.start ∷ []) (δ ++ α ++ M ∷ (β ++ ζ))
  expand_in M δ ζ α β s r e = simp append_assoc (simp (e, append_assoc) at (trans s (then (at δ ζ r) stop)))

  shown : ((p N : ℕ) (γ : List ℕ) → Rule G p N γ → Reachable G N) → {a M : ℕ} → After G a M → Shown G a M
  shown reach (a_start e) = record { before = []; behind = []; form = stop; next = n_end v_nil e }
  shown reach (a_first {p} {N} {M} {γ} α β r e b) =
      let q = reach p N γ r in
      record { before = q.0 ++ α; behind = β ++ q.1; form = expand_in M q.0 q.1 α β q.2 r e; next = next_left q.1 b }
  shown reach (a_up {M = M} α β r e v f) =
      let q = shown reach f in
      record { before = q.before ++ α; behind = β ++ q.behind; form = expand_in M q.before q.behind α β q.form r e; next = next_right v q.next }

  shown_follow : {a M : ℕ} (α : List ℕ) {β : List ℕ} → Steps G (G.start ∷ []) (α ++ M ∷ β) → Next G a β → Follow G M a
  shown_follow {M = M} α s (n_first b) =
      let q = begin_steps b in
      inside α q.0 (begin_terminal b) (trans s (simp (append_assoc, append-nil) at (steps_in (α ++ (M ∷ [])) [] q.1)))
  shown_follow {M = M} α s (n_end v e) =
      rw e (ending α (trans s (simp (append_assoc, append-nil) at (steps_in (α ++ (M ∷ [])) [] (vanish_steps {G = G} v)))))

  -- where every left side is reachable, the closure is FOLLOW
  pub after_follow : ((p N : ℕ) (γ : List ℕ) → Rule G p N γ → Reachable G N) → {a M : ℕ} → After G a M → Follow G M a
  after_follow reach f = let q = shown reach f in shown_follow q.before q.form q.next
