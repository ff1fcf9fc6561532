-- What the functions of this crate promise, for each case of their answers.
use Rattle.std.specs.Prelude.{ℕ, ◌*◌, ◌/◌, ◌%◌, ◌<◌, ◌≡◌, Result, Ok, Err, List, length}
use Rattle.std.proofs.Common.{inl, inr, arith}
use Rattle.base.specs.Bytes.{byte_at, Bytes}
use Rattle.grammar.specs.Grammar.{Grammar, TerminalOf}
use Rattle.plain.specs.Plain.{Verdict, syntax, out_of_room, Parses}
use Rattle.plain.specs.Tokens.{token_size, tokens_from, Sentence, Kinds, BadToken, sentence_of, bad_token}
use Rattle.plain.specs.Machine.{Done}
use Rattle.plain.specs.declared.BadToken as bad
use Rattle.plain.specs.declared.ParseError.{ParseError}
use Rattle.plain.specs.declared.ParseError.TheVariants.{Syntax, NoRoom}

-- m tokens of the kinds 1..t
pub record Counted (t : ℕ) (b : List ℕ) (m : ℕ) : Type 0 where
  pub long : length b ≡ token_size * m
  pub kinds : Kinds t b m
  pub sentence : Sentence t b (tokens_from b m 0)

abbrev pub Told : ℕ → List ℕ → Result ℕ bad.BadToken → Type 0
Told t b (Ok m) = Counted t b m
Told t b (Err e) = BadToken t b e.number

-- why a parse accepts nothing
abbrev pub verdict_of : ParseError → Verdict
verdict_of (Syntax k e) = syntax k e
verdict_of NoRoom = out_of_room

-- how a parse ended, with the nodes in w
abbrev pub Ran : Grammar → ℕ → List ℕ → ℕ → List ℕ → Result ℕ ParseError → Type 0
Ran G S b m w (Ok o) = Done G S b m o w
Ran G S b m w (Err e) = Parses G S (tokens_from b m 0) (verdict_of e)

-- ---- the ways through the tokens

module _ {t : ℕ} {b : List ℕ} {i : ℕ} (h : Kinds t b i) (f : Bytes b) where
  pub told_kind : i < length b / token_size → (TerminalOf t (byte_at b (token_size * i)) → ⊥) → BadToken t b i
  told_kind l n = bad_token t b i f (omega arith) h (inr n)

  -- a kind 0, or above t
  pub told_zero : {a : ℕ} → i < length b / token_size → a ≡ byte_at b (token_size * i) → a ≡ 0
      → Told t b (Err (record { number = i }))
  told_zero l q z = bad_token t b i f (omega arith) h (inr (λ w. omega (arith, w.0, q, z)))

  pub told_high : {a : ℕ} → i < length b / token_size → a ≡ byte_at b (token_size * i) → t < a
      → Told t b (Err (record { number = i }))
  told_high l q z = bad_token t b i f (omega arith) h (inr (λ w. omega (arith, w.1, q, z)))

  pub told_cut : i ≡ length b / token_size → (length b % token_size ≡ 0 → ⊥) → BadToken t b (length b / token_size)
  told_cut q n = rw (← q) (bad_token t b i f (omega arith) h (inl (omega arith)))

  pub told_good : i ≡ length b / token_size → length b % token_size ≡ 0 → Counted t b (length b / token_size)
  told_good q z =
      let l : length b ≡ token_size * i = omega arith in
      rw (← q) (record { long = l; kinds = h; sentence = sentence_of t b i f l h })
