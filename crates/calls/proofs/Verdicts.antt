-- The verdict of the plain parse, and the reply that it gives: parse and edit share it.
use Rattle.std.specs.Prelude.{ℕ, ◌≤◌, ◌≡◌, refl, ◌↔◌, List}
use Rattle.std.proofs.Common.{sym, ap, ◌∙◌, subst, arith}
use Rattle.grammar.specs.Grammar.{Grammar}
use Rattle.grammar.specs.Prediction.{Prepared}
use Rattle.grammar.specs.Forest.{Token}
use Rattle.plain.specs.Plain.{Verdict, accepted, syntax, out_of_room, Parses}
use Rattle.plain.specs.One.{runs_one}
use Rattle.plain.proofs.Exactly.{accepted_exactly}
use Rattle.plain.specs.Exactly.{Fitting}
use Rattle.plain.proofs.Viable.{place_longest}
use Rattle.plain.specs.Viable.{Longest}
use Rattle.replies.specs.Reply.{number_of}
use Rattle.replies.specs.declared.Counts.{Counts}
use Rattle.replies.specs.declared.Reply.{Reply}
use Rattle.replies.specs.declared.Reason.TheVariants as reasons
use Rattle.replies.specs.declared.Reply.TheVariants.{Accepted, Refused}
use Rattle.calls.specs.Order.{counts, Tried, refused, passed, Accepting, accepting}
use Rattle.calls.specs.Checks.{wrong_syntax, no_room, parsed}
use Rattle.calls.specs.Verdicts.{Answers, Decided, Alike, Answered, by_zero, by_nine, by_ten}

answers_one : {u u' : Verdict} {r : Reply} → Answers u r → Answers u' r → u ≡ u'
answers_one (Answers.yes e) (Answers.yes e') = ap accepted (sym e ∙ e')
answers_one Answers.nine Answers.nine = refl
answers_one Answers.ten Answers.ten = refl

-- then no check before the plain parse refused
pub decided_early : {r : Reply} → Decided r → (k : ℕ) → 1 ≤ k → k ≤ 8 → number_of r ≡ k → ⊥
decided_early (by_zero q) k l m e = omega (arith, q, e)
decided_early (by_nine q) k l m e = omega (arith, q, e)
decided_early (by_ten q) k l m e = omega (arith, q, e)

answers_alike : {u : Verdict} {r r' : Reply} → Answers u r → Answers u r' → Alike r r'
answers_alike (Answers.yes e) (Answers.yes e') = record { number = refl; place = refl; expected = refl; total = e ∙ sym e' }
answers_alike Answers.nine Answers.nine = record { number = refl; place = refl; expected = refl; total = refl }
answers_alike Answers.ten Answers.ten = record { number = refl; place = refl; expected = refl; total = refl }

module _ {G : Grammar} {S : ℕ} {w : List Token} where
  -- the last checks of a call whose total is the number of nodes
  pub parsed_answered : {B : Type 0} {P : Counts → B → Type 0} {before after : B} {r : Reply}
      → ((n : ℕ) (c : Counts) (v : B) → Parses G S w (accepted n) → P c v → c.total ≡ n)
      → Tried (parsed G S w) (λ _. Accepting counts P) before r after → Answered G S w r
  parsed_answered t (refused (wrong_syntax {i = i} {e = e} p)) = record { verdict = syntax i e; parses = p; answers = Answers.nine }
  parsed_answered t (refused (no_room p)) = record { verdict = out_of_room; parses = p; answers = Answers.ten }
  parsed_answered t (passed {x = n} p (accepting {x = c} {after = v} q)) = record { verdict = accepted n; parses = p; answers = Answers.yes (t n c v p q) }

  module _ (g : Prepared G) where
    -- the size of a tree is the count of the verdict
    pub accepted_size : {m n : ℕ} → Parses G S w (accepted m) → Parses G S w (accepted n) → m ≡ n
    accepted_size p q = let e = runs_one g p q in cc

    pub answered_exactly : {r : Reply} → Answered G S w r → (u : Verdict) → Parses G S w u ↔ Answers u r
    answered_exactly {r} a u = (
      λ p. subst (λ (v : Verdict). Answers v r) (runs_one g a.parses p) a.answers,
      λ b. subst (λ (v : Verdict). Parses G S w v) (answers_one a.answers b) a.parses,
    )

    pub answered_alike : {r r' : Reply} → Answered G S w r → Answered G S w r' → Alike r r'
    answered_alike {r} {r'} a b = answers_alike a.answers ((answered_exactly b a.verdict).0 a.parses)

    -- "With reply 9, its place equals the number of tokens in the longest beginning of the sentence that also begins
    -- some sentence of the language"
    pub answered_place : {r : Reply} → Answered G S w r → (i e : ℕ) → r ≡ Refused (reasons.Syntax i e) → Longest G w i
    answered_place {r} a i e q =
        let b : Answers (syntax i e) r = rw q Answers.nine in place_longest g i e ((answered_exactly a (syntax i e)).1 b)

    module _ (l : 1 ≤ S) {r : Reply} (a : Answered G S w r) where
      -- accepted, with the total n, exactly where the sentence has a derivation tree of n nodes that fits
      pub answered_fits : (n : ℕ) → ((c : Counts) × (r ≡ Accepted c) × (c.total ≡ n)) ↔ Fitting G S w n
      answered_fits n = (
        λ x. (accepted_exactly S w n l).0 ((answered_exactly a (accepted n)).1 (rw x.1 (Answers.yes x.2))),
        λ f. go ((answered_exactly a (accepted n)).0 ((accepted_exactly S w n l).1 f)),
      )
        where
          go : {r : Reply} → Answers (accepted n) r → (c : Counts) × (r ≡ Accepted c) × (c.total ≡ n)
          go (Answers.yes {c = c} e) = (c, refl, e)

      -- in document 01's numbers
      pub answered_zero : (number_of r ≡ 0) ↔ ((n : ℕ) × Fitting G S w n)
      answered_zero =
          (λ e. go a.verdict a.parses a.answers e, λ x. ap number_of ((answered_fits x.0).1 x.1).1)
        where
          go : {r : Reply} (u : Verdict) → Parses G S w u → Answers u r → number_of r ≡ 0 → (n : ℕ) × Fitting G S w n
          go u p (Answers.yes {n = n} q) e = (n, (accepted_exactly S w n l).0 p)
          go u p Answers.nine e = absurd (omega arith)
          go u p Answers.ten e = absurd (omega arith)
