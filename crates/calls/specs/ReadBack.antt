-- Meaning: the call read back.
use Rattle.std.specs.Prelude.{ℕ, ◌≡◌, List, ◌++◌, length, drop}
use Rattle.grammar.specs.Grammar.{Grammar}
use Rattle.grammar.specs.Forest.{Forest, size, yield}
use Rattle.plain.specs.Tokens.{token_bytes}
use Rattle.replies.specs.declared.Counts.{Counts}
use Rattle.calls.specs.Order.{Call, accept, counts, ◌>>=◌, ◌>>◌}
use Rattle.calls.specs.Checks.{given, area, tree_in, needed, output_for}

-- "read back has total"
abbrev pub read_counts : ℕ → Counts
read_counts n = record { total = n; kept = 0; made = 0; given_up = 0 }

-- the tokens of the tree: "Read back writes 5 bytes a token and nothing beyond"
pub record Returned (f : Forest) (output : List ℕ) (c : Counts) (output' : List ℕ) : Type 0 where
  pub counts : c ≡ read_counts (size f)
  pub bytes : output' ≡ token_bytes (yield f) ++ drop (needed f) output

-- "read back tries 1, 2, 3, 5, 11"
abbrev pub read_back_with : (tree output : List ℕ) → Grammar → Call (List ℕ)
read_back_with tree output G = do
  S ← area (length tree)  -- 5
  f ← tree_in G S tree  -- 5
  output_for f (length output)  -- 11
  accept counts (Returned f output)

abbrev pub read_back_call : (image tree output : List ℕ) → Call (List ℕ)
read_back_call image tree output = given image (read_back_with tree output)  -- 1, 2, 3
