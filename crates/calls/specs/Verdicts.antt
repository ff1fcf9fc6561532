-- The reply that a verdict of the plain parse gives.
use Rattle.std.specs.Prelude.{ℕ, ◌≡◌, List}
use Rattle.grammar.specs.Grammar.{Grammar}
use Rattle.grammar.specs.Forest.{Token}
use Rattle.plain.specs.Plain.{Verdict, accepted, syntax, out_of_room, Parses}
use Rattle.replies.specs.Reply.{number_of, place_of, expected_of, counts_of}
use Rattle.replies.specs.declared.Counts.{Counts}
use Rattle.replies.specs.declared.Reply.{Reply}
use Rattle.replies.specs.declared.Reason.TheVariants as reasons
use Rattle.replies.specs.declared.Reply.TheVariants.{Accepted, Refused}

-- the reply that a verdict gives
pub data Answers : Verdict → Reply → Type 0 where
  yes : {n : ℕ} {c : Counts} → c.total ≡ n → Answers (accepted n) (Accepted c)
  nine : {i e : ℕ} → Answers (syntax i e) (Refused (reasons.Syntax i e))
  ten : Answers out_of_room (Refused reasons.NoRoom)

-- the reply is one of those
pub data Decided (r : Reply) : Type 0 where
  by_zero : number_of r ≡ 0 → Decided r
  by_nine : number_of r ≡ 9 → Decided r
  by_ten : number_of r ≡ 10 → Decided r

-- the same number, place, expected set and total
pub record Alike (r r' : Reply) : Type 0 where
  pub number : number_of r ≡ number_of r'
  pub place : place_of r ≡ place_of r'
  pub expected : expected_of r ≡ expected_of r'
  pub total : (counts_of r).total ≡ (counts_of r').total

-- the plain parse has a verdict, and this is its reply
pub record Answered (G : Grammar) (S : ℕ) (w : List Token) (r : Reply) : Type 0 where
  pub verdict : Verdict
  pub parses : Parses G S w verdict
  pub answers : Answers verdict r
