-- The reference grammar. Document 01, "Reference book and marked examples".
use Rattle.std.specs.Prelude.{◌≡◌, refl, Result, Ok, ℕ, List, [], ◌∷◌}
use Rattle.std.proofs.Common.{arith}
use Rattle.base.specs.Choose.{choose}
use Rattle.grammar.specs.Grammar.{Grammar, WellFormed}
use Rattle.grammar.specs.Formed.{and, within, every, allowed, formed_by}
use Rattle.grammar.specs.Image.{Image}
use Rattle.grammar.specs.Outcome.{Reads, reads_good, reads_one}
use Rattle.grammar.specs.Rows.{rows_of, head_of}
use Rattle.grammar.specs.declared.Head.{Head}
use Rattle.grammar.specs.declared.BadRecord.{BadRecord}

-- "Terminals: 1 allow, 2 host, 3 comma, 4 except, 5 semicolon; nonterminals 6 Book, 7 Rule, 8 List, 9 Rest, 10 Bar; start 6"
unfoldable pub reference : Grammar
reference =
    record {
      t = 5;
      n = 5;
      start = 6;
      productions =
          record { left = 6; body = 7 ∷ 6 ∷ [] } ∷
          record { left = 6; body = [] } ∷
          record { left = 7; body = 1 ∷ 8 ∷ 10 ∷ 5 ∷ [] } ∷
          record { left = 8; body = 2 ∷ 9 ∷ [] } ∷
          record { left = 9; body = 3 ∷ 8 ∷ [] } ∷
          record { left = 9; body = [] } ∷
          record { left = 10; body = 4 ∷ 8 ∷ [] } ∷
          record { left = 10; body = [] } ∷ [];
    }

-- the 49 bytes
unfoldable pub reference_image : List ℕ
reference_image =
    0x47 ∷ 0x48 ∷ 0x05 ∷ 0x05 ∷ 0x06 ∷ 0x47 ∷ 0x50 ∷ 0x06 ∷ 0x02 ∷ 0x07 ∷ 0x06 ∷ 0x47 ∷ 0x50 ∷ 0x06 ∷ 0x00 ∷ 0x47 ∷ 0x50 ∷ 0x07 ∷ 0x04 ∷ 0x01 ∷ 0x08 ∷ 0x0a ∷ 0x05 ∷
    0x47 ∷ 0x50 ∷ 0x08 ∷ 0x02 ∷ 0x02 ∷ 0x09 ∷ 0x47 ∷ 0x50 ∷ 0x09 ∷ 0x02 ∷ 0x03 ∷ 0x08 ∷ 0x47 ∷ 0x50 ∷ 0x09 ∷ 0x00 ∷ 0x47 ∷ 0x50 ∷ 0x0a ∷ 0x02 ∷ 0x04 ∷ 0x08 ∷ 0x47 ∷ 0x50 ∷
    0x0a ∷ 0x00 ∷ []

reference_formed : WellFormed reference
unfolding reference every allowed within and choose
reference_formed = formed_by reference (omega arith) (omega arith) refl

-- the 49 bytes are the image of the reference grammar
pub reference_image_lem : Image reference_image reference
unfolding reference reference_image
reference_image_lem = record { formed = reference_formed; is = refl }

-- so that is what the reader gives
pub reference_read : (r : Result Head BadRecord) (w : List ℕ) → Reads reference_image r w → (r ≡ Ok (head_of reference)) × (w ≡ rows_of reference.productions)
reference_read r w h = reads_one h (reads_good reference reference_image_lem)
