-- Every parse ends, with a verdict.
use Rattle.std.specs.Prelude.{ℕ, zero, suc, ◌+◌, ◌≤◌, ◌<◌, ◌≡◌, refl, List, [], ◌∷◌, ◌++◌, length}
use Rattle.std.proofs.Common.{subst, arith}
use Rattle.std.proofs.Math.Logic.{by_cases}
use Rattle.std.proofs.Math.Decide.{ℕ_discrete, dec_lt}
use Rattle.base.specs.Bits.{has?, gather}
use Rattle.grammar.specs.Limits.{end_mark, columns}
use Rattle.grammar.specs.Each.{Each, each_tail}
use Rattle.grammar.specs.Grammar.{Grammar, Rule, Terminal}
use Rattle.grammar.specs.Prediction.{Predicts, by_first, by_follow, Prepared}
use Rattle.grammar.specs.Rows.{left_at, grammar_in, rows_of, head_of, rows_grammar}
use Rattle.grammar.specs.Forest.{Token, kinds}
use Rattle.grammar.specs.declared.Head.{Head}
use Rattle.sets.specs.Decidable.{analysed}
use Rattle.predictions.specs.Hits.{predictors, Hit}
use Rattle.predictions.specs.Verdict.{predictor_small, predicts_hit, hit_predicts}
use Rattle.plain.specs.Plain.{ahead, Expects, prediction, itself, end, Expected, Verdict, accepted, syntax, out_of_room, Runs, accepts, matches, expands, crowded, stuck, Parses}

-- ---- whether there is a prediction is decidable

any? : {P : ℕ → Type 0} → ((p : ℕ) → Dec (P p)) → (k : ℕ) → Dec ((p : ℕ) × (p < k) × P p)
any? d zero = no (λ h. omega (arith, h.1))
any? {P} d (suc k) =
    by_cases (any? d k) (λ h. yes (h.0, omega (arith, h.1), h.2))
    (λ n. by_cases (d k) (λ h. yes (k, omega arith, h))
    (λ m. no (λ h. by_cases (ℕ_discrete h.0 k) (λ e. m (subst P e h.2)) (λ o. n (h.0, omega (arith, h.1, o), h.2)))))

hit? : (rows s : List ℕ) (M a p : ℕ) → Dec (Hit rows s p M a)
hit? rows s M a p =
    by_cases (ℕ_discrete (left_at rows p) M)
    (λ e. by_cases (dec_lt a columns)
    (λ l. by_cases (has? (predictors rows s p) a) (λ h. yes (record { left = e; small = l; has = h })) (λ n. no (λ x. n x.has)))
    (λ n. no (λ x. n x.small)))
    (λ n. no (λ x. n x.left))

abbrev Decided : Grammar → Type 0
Decided G = Prepared G → (M a : ℕ) → Dec ((p : ℕ) × Predicts G M a p)

decided : (rows : List ℕ) (head : Head) → Decided (grammar_in rows head)
decided rows head g M a =
    let k = analysed (grammar_in rows head) g.formed in
    by_cases (any? (hit? rows k.0 M a) head.count)
    (λ h. yes (suc h.0, hit_predicts rows head k.0 k.1 g.formed g.useful h.1 h.2))
    (λ m. no (λ x. let q = predicts_hit rows head k.0 k.1 g.formed x.1 in m (q.0, q.2, q.3)))

module _ {G : Grammar} (g : Prepared G) where
  pub predicted? : (M a : ℕ) → Dec ((p : ℕ) × Predicts G M a p)
  predicted? = subst Decided (rows_grammar G g.formed) (decided (rows_of G.productions) (head_of G)) g

  -- ---- and so is what is expected

  not_expected : {M a : ℕ} {xs : List ℕ} → ((p : ℕ) × Predicts G M a p → ⊥) → (Terminal G M → M ≡ a → ⊥) → Expects G (M ∷ xs) a → ⊥
  not_expected n m (prediction {p = p} x) = n (p, x)
  not_expected n m (itself t) = m t refl

  at_end : {a : ℕ} → Expects G [] a → a ≡ end_mark
  at_end end = refl

  terminal? : (a : ℕ) → Dec (Terminal G a)
  terminal? a =
      by_cases (dec_lt 0 a) (λ l. by_cases (dec_lt G.t a) (λ m. no (λ x. omega (arith, x.1, m))) (λ m. yes (omega (arith, l), omega (arith, m))))
      (λ l. no (λ x. omega (arith, x.0, l)))

  expects? : (xs : List ℕ) (a : ℕ) → Dec (Expects G xs a)
  expects? [] a = by_cases (ℕ_discrete a end_mark) (λ e. yes (rw e end)) (λ n. no (λ h. n (at_end h)))
  expects? (M ∷ xs) a =
      by_cases (predicted? M a) (λ x. yes (prediction x.1))
      (λ n. by_cases (terminal? M)
      (λ t. by_cases (ℕ_discrete M a) (λ e. yes (subst (λ (b : ℕ). Expects G (M ∷ xs) b) e (itself t))) (λ m. no (not_expected n (λ _ e. m e))))
      (λ m. no (not_expected n (λ t _. m t))))

  lookahead_small : {xs : List ℕ} {a : ℕ} → Expects G xs a → a < columns
  lookahead_small (prediction x) = predictor_small g.formed.head.terminals.1 x
  lookahead_small (itself t) = omega (arith, t.1, g.formed.head.terminals.1)
  lookahead_small end = omega arith

  pub expected_some : (xs : List ℕ) → (e : ℕ) × Expected G xs e
  expected_some xs =
      let h = gather (λ a. Expects G xs a) (expects? xs) columns in
      (h.0, record { small = h.1.small; all = λ a x. h.1.all a (lookahead_small x) x; only = h.1.only })

  -- ---- the parse: an expansion brings the count nearer to S, or takes a symbol away

  a_rule : {M a p : ℕ} → Predicts G M a p → (γ : List ℕ) × Rule G p M γ
  a_rule (by_first {γ = γ} r f) = (γ, r)
  a_rule (by_follow {γ = γ} r n f) = (γ, r)

  -- so much room is not left
  abbrev Ending : ℕ → ℕ → Type 0
  Ending S r = (xs : List ℕ) (w : List Token) (c i : ℕ) → Each (Terminal G) (kinds w) → S < c + r → c ≤ S → (v : Verdict) × Runs G S xs w c i v

  expansion : {S M c i : ℕ} {xs : List ℕ} {w : List Token} (r p : ℕ) (γ : List ℕ) → Ending S r → Each (Terminal G) (kinds w) → S < c + suc r
      → ((v : Verdict) × Runs G S xs w (c + 0) i v) → Predicts G M (ahead w) p → Rule G p M γ → c + length γ ≤ S → (v : Verdict) × Runs G S (M ∷ xs) w c i v
  expansion r p [] h t l o x q m = (o.0, expands x q m o.1)
  expansion {c = c} {i} {xs} {w} r p (y ∷ γ) h t l o x q m =
      let k = h ((y ∷ γ) ++ xs) w (c + length (y ∷ γ)) i t (omega (arith, l)) m in
      (k.0, expands x q m k.1)

  matching : {S M c i : ℕ} {xs : List ℕ} (w : List Token) → Each (Terminal G) (kinds w) → Terminal G M → M ≡ ahead w
      → ((k : Token) (u : List Token) → w ≡ k ∷ u → (v : Verdict) × Runs G S xs u c (suc i) v) → (v : Verdict) × Runs G S (M ∷ xs) w c i v
  matching [] t m e h = absurd (omega (arith, m.0, e))
  matching (k ∷ u) t m e h = let o = h k u refl in (o.0, matches m e o.1)

  level : {S : ℕ} (r : ℕ) → Ending S r → Ending S (suc r)
  level r h [] [] c i t l m = (accepted c, accepts)
  level r h [] (k ∷ w) c i (Each.cons a t) l m =
      let e = expected_some [] in
      (syntax i e.0, stuck {w = k ∷ w} (λ x. let z = at_end x in omega (arith, a.0, z)) e.1)
  level {S} r h (M ∷ xs) w c i t l m =
      by_cases (predicted? M (ahead w))
      (λ x. let q = a_rule x.1 in
      by_cases (dec_lt S (c + length q.0)) (λ n. (out_of_room, crowded x.1 q.1 n))
      (λ n. expansion r x.0 q.0 h t l (level r h xs w (c + 0) i t (omega (arith, l)) (omega (arith, m))) x.1 q.1 (omega (arith, n))))
      (λ n. by_cases (terminal? M)
      (λ a. by_cases (ℕ_discrete M (ahead w))
      (λ e. matching w t a e (λ k u z. level r h xs u c (suc i) (each_tail (rw z at t)) l m))
      (λ o. let e = expected_some (M ∷ xs) in (syntax i e.0, stuck {w = w} (not_expected n (λ _ z. o z)) e.1)))
      (λ a. let e = expected_some (M ∷ xs) in (syntax i e.0, stuck {w = w} (not_expected n (λ z _. a z)) e.1)))

  ending : {S : ℕ} (r : ℕ) → Ending S r
  ending zero xs w c i t l m = absurd (omega (arith, l, m))
  ending {S} (suc r) xs w c i t l m = level r (ending r) xs w c i t l m

  -- the parse of a sentence has a verdict
  pub parses_some : (S : ℕ) (w : List Token) → 1 ≤ S → Each (Terminal G) (kinds w) → (v : Verdict) × Parses G S w v
  parses_some S w l t = ending S (G.start ∷ []) w 1 0 t (omega arith) l
