-- Stems by the closures, in a grammar where no two productions of a nonterminal share a predictor: one for each a in FIRST(M).
use Rattle.std.specs.Prelude.{◌≡◌, refl, ◌⊎◌, ℕ, ◌≤◌, ◌<◌, List, [], ◌∷◌, ◌++◌, length}
use Rattle.std.proofs.Common.{sym, ap, ◌∙◌, inl, inr, arith}
use Rattle.base.specs.Choose.{never}
use Rattle.grammar.specs.Grammar.{Grammar, Rule, Terminal}
use Rattle.grammar.specs.Rules.{rule_one}
use Rattle.sets.specs.Closures.{Vanish, v_nil, v_cons, vanish_parts, Begin, b_here, b_rule, b_skip, begin_left, begin_right, After, a_first, a_up, split}

-- a predicts a production with left side M and body γ
pub data Chosen (G : Grammar) (a M : ℕ) (γ : List ℕ) : Type 0 where
  by_begin : Begin G a γ → Chosen G a M γ
  by_after : Vanish G γ → After G a M → Chosen G a M γ

-- no two productions of a nonterminal share a predictor, and left sides are nonterminals
pub record Single (G : Grammar) : Type 0 where
  pub left : (p M : ℕ) (γ : List ℕ) → Rule G p M γ → G.t < M
  pub same : (a M p q : ℕ) (γ δ : List ℕ) → Rule G p M γ → Rule G q M δ → Chosen G a M γ → Chosen G a M δ → p ≡ q

pub data Path (G : Grammar) (a : ℕ) : ℕ → List ℕ → Type 0 where
  p_end : Terminal G a → Path G a a (a ∷ [])
  p_down : {p M x : ℕ} {γ s : List ℕ} (α β : List ℕ) → Rule G p M γ → γ ≡ α ++ x ∷ β → Vanish G α → Path G a x s → Path G a M (M ∷ s)

record Found (G : Grammar) (a : ℕ) (xs : List ℕ) : Type 0 where
  α : List ℕ
  x : ℕ
  β : List ℕ
  s : List ℕ
  is : xs ≡ α ++ x ∷ β
  front : Vanish G α
  stem : Path G a x s

-- ---- a stem for each a in FIRST(M)

module _ {G : Grammar} {a : ℕ} where
  pub path_begin : {M : ℕ} {s : List ℕ} → Path G a M s → Begin G a (M ∷ [])
  path_begin (p_end t) = b_here t
  path_begin (p_down α β r e v s) = b_rule r (rw e (begin_right v (begin_left β (path_begin s))))

  found : {xs : List ℕ} → Begin G a xs → Found G a xs
  found (b_here {xs = xs} t) = record { α = []; x = a; β = xs; s = a ∷ []; is = refl; front = v_nil; stem = p_end t }
  found (b_rule {M = M} {xs = xs} r b) =
      let q = found b in
      record { α = []; x = M; β = xs; s = M ∷ q.s; is = refl; front = v_nil; stem = p_down q.α q.β r q.is q.front q.stem }
  found (b_skip {x = y} (v_cons c h k) b) =
      let q = found b in
      record { α = y ∷ q.α; x = q.x; β = q.β; s = q.s; is = ap (λ (l : List ℕ). y ∷ l) q.is; front = v_cons c h q.front; stem = q.stem }

  pub begin_path : {M : ℕ} → Begin G a (M ∷ []) → (s : List ℕ) × Path G a M s
  begin_path {M} b = let q = found b in go q.α q.x q.β q.s q.is q.stem
    where
      go : (α : List ℕ) (x : ℕ) (β s : List ℕ) → M ∷ [] ≡ α ++ x ∷ β → Path G a x s → (s : List ℕ) × Path G a M s
      go [] x β s e h = let z : x ≡ M = cc in (s, rw z at h)
      go (y ∷ []) x β s e h = never (cc)
      go (y ∷ z ∷ α) x β s e h = never (cc)

-- ---- only one

module _ {G : Grammar} (one : Single G) where
  pub rule_body : {p q M N : ℕ} {γ δ : List ℕ} → p ≡ q → Rule G p M γ → Rule G q N δ → γ ≡ δ
  rule_body e r s = (rule_one (rw e at r) s).1

  -- a symbol that vanishes and is followed by a does not begin with a
  pub clash : {a x : ℕ} {s : List ℕ} → Path G a x s → Vanish G (x ∷ []) → After G a x → ⊥
  clash {a} (p_end t) (v_cons {p = q} {γ = δ} r' h k) f = omega (arith, t.1, one.left q a δ r')
  clash {a} {x = M} (p_down {p = p} {γ = γ} α β r e v s) (v_cons {p = q} {γ = δ} r' h k) f =
      let b : Begin G a γ = rw e (begin_right v (begin_left β (path_begin s))) in
      let z = rule_body (one.same a M p q γ δ r r' (by_begin b) (by_after h f)) r r' in
      let w = vanish_parts α (rw (← z, e) at h) in
      let y = vanish_parts (_ ∷ []) w.1 in
      clash s y.0 (a_up α β r e y.1 f)

  -- two ways to split one body
  differ : {a : ℕ} {p M : ℕ} {γ : List ℕ} → Rule G p M γ → (α : List ℕ) {x : ℕ} (β δ : List ℕ) {x' : ℕ} {s : List ℕ} (β' : List ℕ)
      → γ ≡ α ++ x ∷ β → β ≡ δ ++ x' ∷ β' → Vanish G (x ∷ δ) → Path G a x s → Begin G a (x' ∷ []) → ⊥
  differ r α {x} β δ β' e h v s b =
      let y = vanish_parts (x ∷ []) v in
      clash s y.0 (a_first α β r e (rw h (begin_right y.1 (begin_left β' b))))

  -- a symbol has one stem: of two symbols that are the same
  unique_from : {a M N : ℕ} {s s' : List ℕ} → Path G a M s → Path G a N s' → M ≡ N → s ≡ s'
  unique_from (p_end t) (p_end t') e₀ = refl
  unique_from (p_end t) (p_down {p = p} {M = N} {γ = γ} α β r e v s) e₀ = absurd (omega (arith, t.1, one.left p N γ r))
  unique_from (p_down {p = p} {M = M} {γ = γ} α β r e v s) (p_end t) e₀ = absurd (omega (arith, t.1, one.left p M γ r))
  unique_from {a} (p_down {p = p} {M = M} {x = x} {γ = γ} {s = s} α β r e v h)
      (p_down {p = q} {M = N} {x = y} {γ = δ} {s = s'} α' β' r' e' v' h') e₀ =
      go (split α (x ∷ β) α' y β' (sym e ∙ z ∙ e')) (λ i. unique_from h h' i)
    where
      b : Begin G a γ
      b = rw e (begin_right v (begin_left β (path_begin h)))

      b' : Begin G a δ
      b' = rw e' (begin_right v' (begin_left β' (path_begin h')))

      z : γ ≡ δ
      z = rule_body (one.same a M p q γ δ r (rw (← e₀) at r') (by_begin b) (by_begin b')) r r'

      low : (θ : List ℕ) → α' ≡ α ++ θ → x ∷ β ≡ θ ++ y ∷ β' → (x ≡ y → s ≡ s') → s ≡ s'
      low [] i k ih = ih (cc)
      low (w ∷ θ) i k ih =
          let m : x ≡ w = cc in
          let u : Vanish G (x ∷ θ) = rw m (vanish_parts α (rw i at v')).1 in
          absurd (differ r α β θ β' e (cc) u h (path_begin h'))

      go : ((θ : List ℕ) × (α ≡ α' ++ y ∷ θ) × (β' ≡ θ ++ (x ∷ β)))
          ⊎ ((θ : List ℕ) × (α' ≡ α ++ θ) × (x ∷ β ≡ θ ++ y ∷ β')) → (x ≡ y → s ≡ s') → M ∷ s ≡ N ∷ s'
      go (inl k) ih = absurd (differ r' α' β' k.0 β e' k.2 (vanish_parts α' (rw k.1 at v)).1 h' (path_begin h))
      go (inr k) ih = let i : s ≡ s' = low k.0 k.1 k.2 ih in cc

  pub unique : {a M : ℕ} {s s' : List ℕ} → Path G a M s → Path G a M s' → s ≡ s'
  unique h h' = unique_from h h' refl

-- ---- what a stem passes

-- x is on a stem, with the stem of x from there on
pub data On (x : ℕ) : List ℕ → List ℕ → Type 0 where
  here : {s : List ℕ} → On x (x ∷ s) (x ∷ s)
  below : {y : ℕ} {s u : List ℕ} → On x s u → On x (y ∷ s) u

on_length : {x : ℕ} {s u : List ℕ} → On x s u → length u ≤ length s
on_length here = omega arith
on_length (below o) = omega (arith, on_length o)

module _ {G : Grammar} {a : ℕ} where
  -- the rest of a stem is a stem
  pub on_path : {x M : ℕ} {s u : List ℕ} → On x s u → Path G a M s → Path G a x u
  on_path here (p_end t) = p_end t
  on_path here (p_down α β r e v s) = p_down α β r e v s
  on_path (below o) (p_end t) = elim o [ ]
  on_path (below o) (p_down α β r e v s) = on_path o s

module _ {G : Grammar} (one : Single G) {a : ℕ} where
  -- two stems agree from a shared symbol on
  pub agree : {x M N : ℕ} {s s' u u' : List ℕ} → Path G a M s → Path G a N s' → On x s u → On x s' u' → u ≡ u'
  agree h h' o o' = unique one (on_path o h) (on_path o' h')

  -- no symbol is on a stem twice
  pub once : {M : ℕ} {s u : List ℕ} → Path G a M (M ∷ s) → On M s u → ⊥
  once h o =
      let e = unique one h (on_path (below o) h) in
      omega (arith, ap length e, on_length o)
