-- The laws that the proof of prepare cites: what each check on the way says of the call.
use Rattle.std.specs.Prelude.{ℕ, ◌≡◌, refl, Result, Err, List}
use Rattle.grammar.specs.Grammar.{Grammar}
use Rattle.tables.specs.Tables.{tables_size, Tables}
use Rattle.replies.specs.Reply.{no_counts}
use Rattle.replies.specs.declared.Reason.{Reason}
use Rattle.replies.specs.declared.Reason.TheVariants.{WrongTables}
use Rattle.replies.specs.declared.Reply.TheVariants.{Accepted, Refused}
use Rattle.calls.specs.Order.{Outcome, refused, passed, accepting, exactly}
use Rattle.calls.specs.Prepare.{prepare_with, prepare_call}
use Rattle.calls.proofs.CheckLaws.{given_passed}
use Rattle.calls.specs.CheckLaws.{Fit}
use Rattle.grammar.specs.declared.Head.{Head}
use Rattle.kindlesap.specs.declared.checks.Analysis.{Analysis}
use Rattle.kindlesap.specs.GrammarChecks.{Checks, checked_refused}

-- replies 1 to 3
pub prepare_3 : (size : ℕ) (tables : List ℕ) {image : List ℕ} {k : Analysis} {r : Result Head Reason} (p : Reason)
    → Checks image k r → r ≡ Err p
    → Outcome (prepare_call image size) tables (Refused p) tables
prepare_3 size tables p h e = checked_refused (prepare_with size) tables p h e

module _ {image : List ℕ} {G : Grammar} (f : Fit image G) (size : ℕ) (tables : List ℕ) where
  pub prepare_4 : (size ≡ tables_size → ⊥) → Outcome (prepare_call image size) tables (Refused WrongTables) tables
  prepare_4 n = given_passed (prepare_with size) f (refused (exactly n))

  pub prepare_done : (tables' : List ℕ) → size ≡ tables_size → Tables G tables'
      → Outcome (prepare_call image size) tables (Accepted no_counts) tables'
  prepare_done tables' e t = given_passed (prepare_with size) f (passed e (accepting (refl, t)))
