-- The reference grammar's words, written out, and checked by computation: three sweeps from the beginning lead to them, and a sweep leaves them.
use Rattle.std.specs.Prelude.{ℕ, ◌≡◌, refl, false, List, [], ◌∷◌}
use Rattle.std.proofs.Common.{arith}
use Rattle.base.specs.Choose.{choose}
use Rattle.base.specs.Blocks.{zeros}
use Rattle.grammar.specs.Rows.{left_at, length_at, symbol_at, grammar_in}
use Rattle.grammar.specs.Reference.{reference}
use Rattle.grammar.specs.declared.Head.{Head}
use Rattle.sets.specs.Words.{leads, both, raised, stepped, turn, passed, closing, produced, produced_at, turned, swept, tokens, begun}
use Rattle.sets.specs.Growth.{Within, within_trans}
use Rattle.sets.specs.Still.{within_swept}
use Rattle.sets.specs.Rounds.{Settled, sound_swept, known_settled}
use Rattle.sets.specs.Known.{Known}

-- five terminals and five nonterminals, the start symbol, eight productions
abbrev pub head : Head
head = record { t = 5; n = 5; start = 6; count = 8 }

-- the productions, ten bytes each
unfoldable pub rows : List ℕ
rows = 6 ∷ 2 ∷ 7 ∷ 6 ∷ 0 ∷ 0 ∷ 0 ∷ 0 ∷ 0 ∷ 0 ∷ 6 ∷ 0 ∷ 0 ∷ 0 ∷ 0 ∷ 0 ∷ 0 ∷ 0 ∷ 0 ∷ 0 ∷ 7 ∷ 4 ∷ 1 ∷ 8 ∷ 10 ∷ 5 ∷ 0 ∷ 0 ∷ 0 ∷ 0 ∷ 8 ∷ 2 ∷ 2 ∷ 9 ∷ 0 ∷ 0 ∷ 0 ∷ 0 ∷ 0 ∷ 0 ∷ 9 ∷ 2 ∷ 3 ∷ 8 ∷ 0 ∷ 0 ∷ 0 ∷ 0 ∷ 0 ∷ 0 ∷ 9 ∷ 0 ∷ 0 ∷ 0 ∷ 0 ∷ 0 ∷ 0 ∷ 0 ∷ 0 ∷ 0 ∷ 10 ∷ 2 ∷ 4 ∷ 8 ∷ 0 ∷ 0 ∷ 0 ∷ 0 ∷ 0 ∷ 0 ∷ 10 ∷ 0 ∷ 0 ∷ 0 ∷ 0 ∷ 0 ∷ 0 ∷ 0 ∷ 0 ∷ 0 ∷ []

-- word X, then 64 + X, then 128 + X
unfoldable pub words : List ℕ
words = 0 ∷ 2 ∷ 4 ∷ 8 ∷ 16 ∷ 32 ∷ 3 ∷ 2 ∷ 4 ∷ 9 ∷ 17 ∷ 0 ∷ 0 ∷ 0 ∷ 0 ∷ 0 ∷ 0 ∷ 0 ∷ 0 ∷ 0 ∷ 0 ∷ 0 ∷ 0 ∷ 0 ∷ 0 ∷ 0 ∷ 0 ∷ 0 ∷ 0 ∷ 0 ∷ 0 ∷ 0 ∷ 0 ∷ 0 ∷ 0 ∷ 0 ∷ 0 ∷ 0 ∷ 0 ∷ 0 ∷ 0 ∷ 0 ∷ 0 ∷ 0 ∷ 0 ∷ 0 ∷ 0 ∷ 0 ∷ 0 ∷ 0 ∷ 0 ∷ 0 ∷ 0 ∷ 0 ∷ 0 ∷ 0 ∷ 0 ∷ 0 ∷ 0 ∷ 0 ∷ 0 ∷ 0 ∷ 0 ∷ 0 ∷ 0 ∷ 4 ∷ 56 ∷ 4 ∷ 4 ∷ 3 ∷ 1 ∷ 3 ∷ 48 ∷ 48 ∷ 32 ∷ 0 ∷ 0 ∷ 0 ∷ 0 ∷ 0 ∷ 0 ∷ 0 ∷ 0 ∷ 0 ∷ 0 ∷ 0 ∷ 0 ∷ 0 ∷ 0 ∷ 0 ∷ 0 ∷ 0 ∷ 0 ∷ 0 ∷ 0 ∷ 0 ∷ 0 ∷ 0 ∷ 0 ∷ 0 ∷ 0 ∷ 0 ∷ 0 ∷ 0 ∷ 0 ∷ 0 ∷ 0 ∷ 0 ∷ 0 ∷ 0 ∷ 0 ∷ 0 ∷ 0 ∷ 0 ∷ 0 ∷ 0 ∷ 0 ∷ 0 ∷ 0 ∷ 0 ∷ 0 ∷ 0 ∷ 0 ∷ 0 ∷ 0 ∷ 0 ∷ 0 ∷ 0 ∷ 0 ∷ 3 ∷ 3 ∷ 3 ∷ 3 ∷ 3 ∷ 3 ∷ 3 ∷ 3 ∷ 3 ∷ 3 ∷ 0 ∷ 0 ∷ 0 ∷ 0 ∷ 0 ∷ 0 ∷ 0 ∷ 0 ∷ 0 ∷ 0 ∷ 0 ∷ 0 ∷ 0 ∷ 0 ∷ 0 ∷ 0 ∷ 0 ∷ 0 ∷ 0 ∷ 0 ∷ 0 ∷ 0 ∷ 0 ∷ 0 ∷ 0 ∷ 0 ∷ 0 ∷ 0 ∷ 0 ∷ 0 ∷ 0 ∷ 0 ∷ 0 ∷ 0 ∷ 0 ∷ 0 ∷ 0 ∷ 0 ∷ 0 ∷ 0 ∷ 0 ∷ 0 ∷ 0 ∷ 0 ∷ 0 ∷ 0 ∷ 0 ∷ 0 ∷ 0 ∷ 0 ∷ 0 ∷ 0 ∷ 0 ∷ []

pub is_reference : grammar_in rows head ≡ reference
unfolding rows grammar_in reference left_at length_at symbol_at
is_reference = refl

abbrev sweep : List ℕ → List ℕ
sweep s = swept rows false 8 8 s

thrice : sweep (sweep (sweep (begun 5 6))) ≡ words
unfolding rows words swept produced_at produced closing passed turn stepped raised leads both turned tokens begun choose zeros left_at length_at symbol_at
thrice = refl

rest : sweep words ≡ words
unfolding rows words swept produced_at produced closing passed turn stepped raised leads both turned choose left_at length_at symbol_at
rest = refl

settled : Settled rows 8 (begun 5 6) words
settled =
    let w : Within (begun 5 6) (sweep (sweep (sweep (begun 5 6)))) =
    within_trans (within_swept rows false 8 8 (begun 5 6))
    (within_trans (within_swept rows false 8 8 (sweep (begun 5 6))) (within_swept rows false 8 8 (sweep (sweep (begun 5 6)))))
    in
    record {
      within = rw thrice at w;
      sound = λ H l h.
          rw thrice at
          (sound_swept rows H 8 l false 8 (omega arith)
          (sound_swept rows H 8 l false 8 (omega arith) (sound_swept rows H 8 l false 8 (omega arith) h)));
      closed = rest;
    }

pub known : Known (grammar_in rows head) words
known = known_settled rows head (omega arith) (omega arith) settled
