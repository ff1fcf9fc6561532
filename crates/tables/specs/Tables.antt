-- Meaning: the tables. Document 01, "Sets and tables".
use Rattle.std.specs.Prelude.{ℕ, ◌+◌, ◌*◌, ◌<◌, ◌≡◌, List, length, get_or}
use Rattle.grammar.specs.Limits.{max_nonterminals, columns}
use Rattle.grammar.specs.Grammar.{Grammar}
use Rattle.grammar.specs.Prediction.{Predicts, Break}

-- a row for each nonterminal that a grammar may have
abbrev pub table_rows : ℕ
table_rows = max_nonterminals

-- the break points of one row
abbrev pub row_size : ℕ
row_size = table_rows * columns

-- "The first 1,024 are predictions"; "The break points start at byte 1,024"
abbrev pub predictions_size : ℕ
predictions_size = table_rows * columns

abbrev pub breaks_size : ℕ
breaks_size = table_rows * row_size

-- "Tables are exactly 33,792 bytes"
abbrev pub tables_size : ℕ
tables_size = predictions_size + breaks_size

-- "row M (nonterminals counted from 0)"
abbrev pub row_symbol : Grammar → ℕ → ℕ
row_symbol G R = G.t + 1 + R

-- where the prediction of row R at lookahead a stands, and among the break points "entry (M×32+N)×32+a"
abbrev pub prediction_place : ℕ → ℕ → ℕ
prediction_place R a = R * columns + a

abbrev pub break_place : ℕ → ℕ → ℕ → ℕ
break_place R Q a = (R * table_rows + Q) * columns + a

-- "value 0 or the production"
pub data Prediction (G : Grammar) (M a : ℕ) : ℕ → Type 0 where
  some : {p : ℕ} → Predicts G M a p → Prediction G M a p
  none : ((p : ℕ) → Predicts G M a p → ⊥) → Prediction G M a 0

-- the bytes are the tables of G
pub record Tables (G : Grammar) (w : List ℕ) : Type 0 where
  pub size : length w ≡ tables_size
  pub prediction : (R a : ℕ) → R < table_rows → a < columns → Prediction G (row_symbol G R) a (get_or w (prediction_place R a) 0)
  pub break : (R Q a : ℕ) → R < G.n → Q < G.n → a < columns
      → Break G (row_symbol G R) (row_symbol G Q) a (get_or w (predictions_size + break_place R Q a) 0)
  -- "All other bytes are 0"
  pub other : (R Q a : ℕ) → R < table_rows → Q < table_rows → a < columns → (R < G.n → Q < G.n → ⊥)
      → get_or w (predictions_size + break_place R Q a) 0 ≡ 0
