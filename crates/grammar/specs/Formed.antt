-- A test that computes whether a grammar is within the limits, for grammars that are written out.
use Rattle.std.specs.Prelude.{◌≡◌, refl, Bool, true, false, ℕ, suc, ◌+◌, ◌≤◌, List, [], ◌∷◌, length, leb}
use Rattle.std.proofs.Common.{leb-true}
use Rattle.base.specs.Choose.{choose, never}
use Rattle.grammar.specs.Limits.{max_productions, max_body}
use Rattle.grammar.specs.Each.{Each}
use Rattle.grammar.specs.Grammar.{Production, Grammar, AllowedHead, Allowed, WellFormed}

unfoldable pub and : Bool → Bool → Bool
and a b = choose a (λ _. b) (λ _. false)

and_both : (a b : Bool) → and a b ≡ true → (a ≡ true) × (b ≡ true)
unfolding and choose
and_both true b e = (refl, e)
and_both false b e = never (cc)

unfoldable pub within : ℕ → ℕ → ℕ → Bool
within low high x = and (leb low x) (leb x high)

within_true : (low high x : ℕ) → within low high x ≡ true → (low ≤ x) × (x ≤ high)
unfolding within
within_true low high x e = let q = and_both (leb low x) (leb x high) e in (leb-true low x q.0, leb-true x high q.1)

unfoldable pub every : {A : Type 0} → (A → Bool) → List A → Bool
every test [] = true
every test (x ∷ xs) = and (test x) (every test xs)

every_true : {A : Type 0} {P : A → Type 0} (test : A → Bool) → ((x : A) → test x ≡ true → P x) → (xs : List A) → every test xs ≡ true → Each P xs
unfolding every
every_true test f [] e = Each.nil
every_true test f (x ∷ xs) e = let q = and_both (test x) (every test xs) e in Each.cons (f x q.0) (every_true test f xs q.1)

unfoldable pub allowed : ℕ → ℕ → Production → Bool
allowed t n P = and (within (suc t) (t + n) P.left) (and (leb (length P.body) max_body) (every (within 1 (t + n)) P.body))

allowed_true : (t n : ℕ) (P : Production) → allowed t n P ≡ true → Allowed t n P
unfolding allowed
allowed_true t n P e =
    let q = and_both (within (suc t) (t + n) P.left) _ e in
    let s = and_both (leb (length P.body) max_body) _ q.1 in
    record {
      left = within_true (suc t) (t + n) P.left q.0;
      short = leb-true (length P.body) max_body s.0;
      symbols = every_true (within 1 (t + n)) (λ x. within_true 1 (t + n) x) P.body s.1;
    }

pub formed_by : (G : Grammar) → AllowedHead G.t G.n G.start → length G.productions ≤ max_productions
    → every (allowed G.t G.n) G.productions ≡ true → WellFormed G
formed_by G h f e = record { head = h; few = f; each = every_true (allowed G.t G.n) (allowed_true G.t G.n) G.productions e }
