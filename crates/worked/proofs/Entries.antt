-- The bytes of the reference grammar's tables at the places that document 01 names: its predictions and break points.
use Rattle.std.specs.Prelude.{ℕ, ◌+◌, ◌<◌, ◌≡◌, List, get_or}
use native.Mathlib.Omega.{arith}
use Rattle.grammar.specs.Reference.{reference}
use Rattle.tables.specs.Tables.{predictions_size, prediction_place, break_place, Tables}
use Rattle.tables.specs.One.{prediction_one, break_one}
use Rattle.worked.specs.Ready.{reference_prepared}
use Rattle.worked.specs.Entries.{cell, cell_is, entry, entry_is, prediction_byte, break_byte}

module _ {w : List ℕ} (t : Tables reference w) where
  pub prediction_byte_lem : (R a : ℕ) → R < 32 → a < 32 → get_or w (prediction_byte R a) 0 ≡ cell R a
  prediction_byte_lem R a l k =
      let q : prediction_place R a ≡ prediction_byte R a = omega arith in
      rw q at (prediction_one reference_prepared (t.prediction R a l k) (cell_is R a l k))

  pub break_byte_lem : (R Q a : ℕ) → R < 5 → Q < 5 → a < 32 → get_or w (break_byte R Q a) 0 ≡ entry (6 + R) (6 + Q) a
  unfolding reference
  break_byte_lem R Q a l m k =
      let q : predictions_size + break_place R Q a ≡ break_byte R Q a = omega arith in
      rw q at (break_one reference_prepared (t.break R Q a l m k) (entry_is (6 + R) (6 + Q) a (omega arith) (omega arith) k))

  -- beyond the five nonterminals
  pub other_byte : (R Q a : ℕ) → R < 32 → Q < 32 → a < 32 → (R < 5 → Q < 5 → ⊥) → get_or w (break_byte R Q a) 0 ≡ 0
  unfolding reference
  other_byte R Q a l m k n =
      let q : predictions_size + break_place R Q a ≡ break_byte R Q a = omega arith in
      rw q at (t.other R Q a l m k n)
