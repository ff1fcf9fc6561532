-- Completeness: words to which no production has anything to add have all that is so.
use Rattle.std.specs.Prelude.{ℕ, ◌+◌, ◌%◌, ◌<◌, List, [], ◌∷◌, ◌++◌, get_or}
use Rattle.std.proofs.Common.{eq-eqb, arith}
use Rattle.base.specs.Choose.{choose}
use Rattle.base.specs.Bits.{Has, one_has, has_odd, has_high}
use Rattle.grammar.specs.Each.{Each, each_join, each_parts, each_head, each_tail, each_map}
use Rattle.grammar.specs.Grammar.{Grammar, Rule, Terminal}
use Rattle.grammar.specs.Derivation.{Step, at, Steps, stop, then, Productive, Reachable}
use Rattle.sets.specs.Closures.{Vanish, v_nil, v_cons, Begin, b_here, b_rule, b_skip, After, a_start, a_first, a_up}
use Rattle.sets.specs.Words.{follows, marks, leads, suffix, both, made}
use Rattle.sets.specs.Facts.{leads_here, leads_past}
use Rattle.sets.specs.Still.{Behind, Closed}

-- the words have what needs no production, and no production of G has anything to add
pub record Full (G : Grammar) (s : List ℕ) : Type 0 where
  pub closed : (p M : ℕ) (γ : List ℕ) → Rule G p M γ → Closed s M γ
  pub self : (a : ℕ) → Terminal G a → Has (get_or s a 0) a
  pub token : (a : ℕ) → Terminal G a → Has (get_or s (marks + a) 0) 0
  pub ends : Has (get_or s (follows + G.start) 0) 0
  pub root : Has (get_or s (marks + G.start) 0) 1

-- a begins the symbols, as the words say
data Starts (s : List ℕ) (a : ℕ) : List ℕ → Type 0 where
  here : {x : ℕ} {xs : List ℕ} → 0 < a → Has (get_or s x 0) a → Starts s a (x ∷ xs)
  past : {x : ℕ} {xs : List ℕ} → Has (get_or s x 0) 0 → Starts s a xs → Starts s a (x ∷ xs)

module _ (s : List ℕ) where
  suffix_null : {xs : List ℕ} → Each (λ x. Has (get_or s x 0) 0) xs → Has (suffix s xs) 0
  unfolding suffix
  suffix_null Each.nil = one_has 0
  suffix_null (Each.cons {x = x} {xs = xs} h e) = leads_past (get_or s x 0) (suffix s xs) 0 h (suffix_null e)

  suffix_first : {a : ℕ} {xs : List ℕ} → Starts s a xs → (0 < a) × Has (suffix s xs) a
  unfolding suffix
  suffix_first {a} (here {x = x} {xs = xs} l h) = (l, leads_here (get_or s x 0) (suffix s xs) a l h)
  suffix_first {a} (past {x = x} {xs = xs} h e) = let q = suffix_first e in (q.0, leads_past (get_or s x 0) (suffix s xs) a h q.1)

  made_all : {xs : List ℕ} → Each (λ x. Has (get_or s (marks + x) 0) 0) xs → Has (made s xs) 0
  unfolding made both choose
  made_all Each.nil = one_has 0
  made_all (Each.cons {x = x} {xs = xs} h e) = rw (eq-eqb (get_or s (marks + x) 0 % 2) 1 (has_odd _ h)) (made_all e)

  -- at a place of a body
  behind_at : {m : ℕ} (α : List ℕ) (x : ℕ) (β : List ℕ) → Behind s m (α ++ x ∷ β) → (a : ℕ) → Has (leads (suffix s β) (get_or s (follows + m) 0)) a → Has (get_or s (follows + x) 0) a
  behind_at [] x β (Behind.cons f r b) = f
  behind_at (y ∷ α) x β (Behind.cons f r b) = behind_at α x β b

  behind_reached : {m : ℕ} {xs : List ℕ} → Behind s m xs → Has (get_or s (marks + m) 0) 1 → Each (λ x. Has (get_or s (marks + x) 0) 1) xs
  behind_reached Behind.nil h = Each.nil
  behind_reached {m} (Behind.cons f r b) h = Each.cons (r 1 (has_high (get_or s (marks + m) 0) 1 (omega arith) h)) (behind_reached b h)

module _ {G : Grammar} {s : List ℕ} (full : Full G s) where
  vanish_all : {xs : List ℕ} → Vanish G xs → Each (λ x. Has (get_or s x 0) 0) xs
  vanish_all v_nil = Each.nil
  vanish_all (v_cons {p = p} {M = M} {γ = γ} r h k) = Each.cons ((full.closed p M γ r).first 0 (suffix_null s (vanish_all h))) (vanish_all k)

  pub full_null : {X : ℕ} → Vanish G (X ∷ []) → Has (get_or s X 0) 0
  full_null v = each_head (vanish_all v)

  starts_of : {a : ℕ} {xs : List ℕ} → Begin G a xs → Starts s a xs
  starts_of {a} (b_here t) = here (omega (arith, t.0)) (full.self a t)
  starts_of {a} (b_rule {p = p} {M = M} {γ = γ} r b) = let q = suffix_first s (starts_of b) in here q.0 ((full.closed p M γ r).first a q.1)
  starts_of (b_skip v b) = past (full_null v) (starts_of b)

  pub full_first : {X a : ℕ} → Begin G a (X ∷ []) → Has (get_or s X 0) a
  full_first {X} {a} b = go (starts_of b)
    where
      go : Starts s a (X ∷ []) → Has (get_or s X 0) a
      go (here l h) = h
      go (past h k) = elim k [ ]

  pub full_suffix_null : {xs : List ℕ} → Vanish G xs → Has (suffix s xs) 0
  full_suffix_null v = suffix_null s (vanish_all v)

  pub full_suffix_first : {a : ℕ} {xs : List ℕ} → Begin G a xs → (0 < a) × Has (suffix s xs) a
  full_suffix_first b = suffix_first s (starts_of b)

  pub full_follow : {a X : ℕ} → After G a X → Has (get_or s (follows + X) 0) a
  full_follow (a_start e) = rw e full.ends
  full_follow {a = a} (a_first {p = p} {N = M} {M = X} {γ = γ} α β r e b) =
      let q = full_suffix_first b in
      behind_at s α X β (rw e at (full.closed p M γ r).behind) a (leads_here (suffix s β) (get_or s (follows + M) 0) a q.0 q.1)
  full_follow {a = a} (a_up {p = p} {N = M} {M = X} {γ = γ} α β r e v f) =
      behind_at s α X β (rw e at (full.closed p M γ r).behind) a (leads_past (suffix s β) (get_or s (follows + M) 0) a (full_suffix_null v) (full_follow f))

  -- productive: back along the steps to the terminals
  made_back : {xs ys : List ℕ} → Step G xs ys → Each (λ x. Has (get_or s (marks + x) 0) 0) ys → Each (λ x. Has (get_or s (marks + x) 0) 0) xs
  made_back (at α β {p} {M} {γ} r) e =
      let q = each_parts α e in
      let k = each_parts γ q.1 in
      each_join q.0 (Each.cons ((full.closed p M γ r).makes 0 (made_all s k.0)) k.1)

  made_from : {xs ys : List ℕ} → Steps G xs ys → Each (λ x. Has (get_or s (marks + x) 0) 0) ys → Each (λ x. Has (get_or s (marks + x) 0) 0) xs
  made_from stop e = e
  made_from (then a t) e = made_back a (made_from t e)

  pub full_made : {X : ℕ} → Productive G X → Has (get_or s (marks + X) 0) 0
  full_made h = each_head (made_from h.2 (each_map full.token h.1))

  -- reachable: forth along the steps from the start
  reached_on : {xs ys : List ℕ} → Step G xs ys → Each (λ x. Has (get_or s (marks + x) 0) 1) xs → Each (λ x. Has (get_or s (marks + x) 0) 1) ys
  reached_on (at α β {p} {M} {γ} r) e =
      let q = each_parts α e in
      each_join q.0 (each_join (behind_reached s (full.closed p M γ r).behind (each_head q.1)) (each_tail q.1))

  reached_to : {xs ys : List ℕ} → Steps G xs ys → Each (λ x. Has (get_or s (marks + x) 0) 1) xs → Each (λ x. Has (get_or s (marks + x) 0) 1) ys
  reached_to stop e = e
  reached_to (then a t) e = reached_to t (reached_on a e)

  pub full_reached : {X : ℕ} → Reachable G X → Has (get_or s (marks + X) 0) 1
  full_reached h = each_head (each_parts h.0 (reached_to h.2 (Each.cons full.root Each.nil))).1
