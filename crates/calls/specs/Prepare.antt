-- Meaning: the call prepare.
use Rattle.std.specs.Prelude.{ℕ, ◌≡◌, List}
use Rattle.grammar.specs.Grammar.{Grammar}
use Rattle.tables.specs.Tables.{Tables}
use Rattle.replies.specs.Reply.{no_counts}
use Rattle.calls.specs.Order.{Call, accept, counts, ◌>>◌}
use Rattle.calls.specs.Checks.{given, tables_sized}

-- "prepare 1, 2, 3, 4", where `long` is the length of the tables; of the counts, "prepare none"
abbrev pub prepare_with : ℕ → Grammar → Call (List ℕ)
prepare_with long G = do
  tables_sized long  -- 4
  accept counts (λ c tables'. (c ≡ no_counts) × Tables G tables')

abbrev pub prepare_call : (image : List ℕ) (long : ℕ) → Call (List ℕ)
prepare_call image long = given image (prepare_with long)  -- 1, 2, 3
