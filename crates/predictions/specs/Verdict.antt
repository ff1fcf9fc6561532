-- What the cells and the lowest nonterminal in conflict say of the grammar in the rows.
use Rattle.std.specs.Prelude.{ℕ, suc, ◌≤◌, ◌<◌, ◌≡◌, Some, None, List}
use Rattle.std.proofs.Common.{sym, arith}
use Rattle.std.proofs.Math.Logic.{by_cases}
use Rattle.std.proofs.Math.Decide.{dec_lt}
use Rattle.grammar.specs.Limits.{max_terminals, columns}
use Rattle.grammar.specs.Grammar.{Grammar, WellFormed}
use Rattle.grammar.specs.Derivation.{Useless, Lowest, inside, ending}
use Rattle.grammar.specs.Prediction.{Predicts, by_first, by_follow, Conflict, LL1}
use Rattle.grammar.specs.Rows.{left_at, grammar_in}
use Rattle.grammar.specs.RowRules.{body_at, rule_at, rule_row}
use Rattle.grammar.specs.Rules.{rule_left}
use Rattle.grammar.specs.declared.Head.{Head}
use Rattle.sets.specs.Known.{Known}
use Rattle.predictions.specs.Hits.{Hit, Clash, hit_exactly}
use Rattle.predictions.specs.Stems.{chosen_predicts, predicts_chosen}
use Rattle.predictions.specs.Paths.{Chosen}
use Rattle.predictions.specs.Listing.{Rowed, Low, none, some}

-- a predictor is a lookahead
pub predictor_small : {G : Grammar} {M a p : ℕ} → G.t ≤ max_terminals → Predicts G M a p → a < columns
predictor_small l (by_first r f) = omega (arith, f.0.1)
predictor_small l (by_follow r n (inside α β t s)) = omega (arith, t.1)
predictor_small l (by_follow r n (ending α s)) = omega arith

module _ (rows : List ℕ) (head : Head) (s : List ℕ) (known : Known (grammar_in rows head) s) (f : WellFormed (grammar_in rows head)) where
  abbrev G : Grammar
  G = grammar_in rows head

  -- left sides have rows
  pub rowed : Rowed rows head.t head.count
  unfolding grammar_in
  rowed p l = let m = rule_left f (rule_at rows head p l) in (m.0, omega (arith, m.1, f.head.nonterminals.1))

  pub predicts_hit : {M a q : ℕ} → Predicts (grammar_in rows head) M a q → (p : ℕ) × (q ≡ suc p) × (p < head.count) × Hit rows s p M a
  predicts_hit {M} {a} {q} h =
      let c = predicts_chosen h in
      let r = rule_row rows head c.1 in
      go r.row c.0 r.left r.body r.number r.low c.2
    where
      go : (p : ℕ) (γ : List ℕ) → M ≡ left_at rows p → γ ≡ body_at rows p → q ≡ suc p → p < head.count → Chosen G a M γ → (p : ℕ) × (q ≡ suc p) × (p < head.count) × Hit rows s p M a
      go p γ e b z l x =
          (p, z, l, record { left = sym e; small = predictor_small f.head.terminals.1 h; has = (hit_exactly rows head s known p a).1 (rw (e, b) at x) })

  module _ (useful : (M : ℕ) → Useless (grammar_in rows head) M → ⊥) where
    pub hit_predicts : {p M a : ℕ} → p < head.count → Hit rows s p M a → Predicts (grammar_in rows head) M a (suc p)
    hit_predicts {p} {M} {a} l h =
        rw h.left at (chosen_predicts f useful (rule_at rows head p l) ((hit_exactly rows head s known p a).0 h.has))

    clash_conflict : {M : ℕ} → Clash rows s head.count M → Conflict G M
    clash_conflict c =
        record {
          lookahead = c.lookahead;
          one = suc c.one;
          other = suc c.other;
          differ = λ e. omega (arith, c.before);
          predicted = hit_predicts (omega (arith, c.before, c.low)) c.hit;
          too = hit_predicts c.low c.too;
        }

    conflict_clash : {M : ℕ} → Conflict G M → Clash rows s head.count M
    conflict_clash {M} c = go (predicts_hit c.predicted) (predicts_hit c.too)
      where
        go : ((p : ℕ) × (c.one ≡ suc p) × (p < head.count) × Hit rows s p M c.lookahead) → ((p : ℕ) × (c.other ≡ suc p) × (p < head.count) × Hit rows s p M c.lookahead) → Clash rows s head.count M
        go (p, e, l, h) (q, d, m, k) =
            by_cases (dec_lt p q)
            (λ x. record { lookahead = c.lookahead; one = p; other = q; before = x; low = m; hit = h; too = k })
            (λ x. by_cases (dec_lt q p)
            (λ y. record { lookahead = c.lookahead; one = q; other = p; before = y; low = l; hit = k; too = h })
            (λ y. absurd (c.differ (omega arith))))

    -- reply 3's place, or LL(1)
    pub low_lowest : {M : ℕ} → Low rows s head.count (Some M) → Lowest (Conflict (grammar_in rows head)) M
    low_lowest (some n c g) = record { holds = clash_conflict c; first = λ N l x. g N l (conflict_clash x) }

    pub low_ll1 : Low rows s head.count None → LL1 (grammar_in rows head)
    low_ll1 (none g) M c = g M (conflict_clash c)
