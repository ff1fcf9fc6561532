-- Model: what the code computes for the steps down the stems, the stems' symbols as bits, and the break points.
use Rattle.std.specs.Prelude.{ℕ, zero, suc, ◌+◌, ◌-◌, ◌*◌, ◌/◌, ◌%◌, ◌^◌, List, [], ◌∷◌, get_or, eqb, leb, Option, None, Some, unwrap_or}
use Rattle.std.specs.Int.Bits.{bit_or}
use Rattle.base.specs.Choose.{choose}
use Rattle.grammar.specs.Limits.{columns}
use Rattle.grammar.specs.Prediction.{no_break}
use Rattle.grammar.specs.Rows.{symbol_space}
use Rattle.grammar.specs.RowRules.{body_at}
use Rattle.sets.specs.Words.{follows}
use Rattle.predictions.specs.Hits.{hasb}
use Rattle.tables.specs.Tables.{break_place}

-- the first of the symbols that a begins
unfoldable pub lead : List ℕ → ℕ → List ℕ → Option ℕ
lead s a [] = None
lead s a (x ∷ xs) = choose (hasb (get_or s x 0) a) (λ _. Some x) (λ _. lead s a xs)

-- the symbol below that of row R on its stem to a, 0 where there is none; `cells` are the predictions
unfoldable pub step_of : List ℕ → List ℕ → List ℕ → ℕ → ℕ → ℕ
step_of rows s cells t i =
    choose (eqb (i % columns) 0) (λ _. 0)
    (λ _. choose (hasb (get_or s (t + 1 + i / columns) 0) (i % columns)) (λ _. unwrap_or (lead s (i % columns) (body_at rows (get_or cells i 0 - 1))) 0) (λ _. 0))

-- down from x, by the steps
unfoldable pub next : List ℕ → ℕ → ℕ → ℕ → ℕ
next steps t a x = get_or steps ((x - t - 1) * columns + a) 0 % symbol_space

-- the symbols from x down to a terminal, as bits, with those of acc; at most k
unfoldable pub stem_bits : List ℕ → ℕ → ℕ → ℕ → ℕ → ℕ → ℕ
stem_bits steps t a zero x acc = acc
stem_bits steps t a (suc k) x acc = choose (leb x t) (λ _. bit_or acc (2 ^ x)) (λ _. stem_bits steps t a k (next steps t a x) (bit_or acc (2 ^ x)))

unfoldable pub mask_of : List ℕ → ℕ → ℕ → ℕ
mask_of steps t i = stem_bits steps t (i % columns) symbol_space (t + 1 + i / columns) 0

-- the first from x down that is among the bits
unfoldable pub shared_from : List ℕ → ℕ → ℕ → ℕ → ℕ → ℕ → ℕ
shared_from steps t a mask zero x = 0
shared_from steps t a mask (suc k) x = choose (hasb mask x) (λ _. x) (λ _. shared_from steps t a mask k (next steps t a x))

-- the break point of M and N at a where a is in FIRST(N) and not in FIRST(M)
unfoldable pub behind_of : List ℕ → ℕ → ℕ → ℕ → ℕ
behind_of s M N a = choose (eqb (get_or s M 0 % 2) 1) (λ _. choose (hasb (get_or s (follows + M) 0) a) (λ _. N) (λ _. no_break)) (λ _. no_break)

-- the break point of M and N at a; `mask` has the symbols of N's stem
unfoldable pub point_of : List ℕ → List ℕ → ℕ → ℕ → ℕ → ℕ → ℕ → ℕ
point_of s steps t M N a mask =
    choose (eqb a 0) (λ _. 0)
    (λ _. choose (hasb (get_or s N 0) a)
    (λ _. choose (hasb (get_or s M 0) a) (λ _. shared_from steps t a mask symbol_space M) (λ _. behind_of s M N a))
    (λ _. 0))

-- of row R and cell i = Q×32 + a
unfoldable pub entry_of : List ℕ → List ℕ → List ℕ → ℕ → ℕ → ℕ → ℕ
entry_of s steps masks t R i = point_of s steps t (t + 1 + R) (t + 1 + i / columns) (i % columns) (get_or masks i 0)

-- ---- the same from break points that are at hand, w: a break point follows from those of the symbols below

-- the step of a cell
abbrev pub step_at : List ℕ → ℕ → ℕ
step_at steps i = get_or steps i 0 % symbol_space

-- of rows R and Q at a, where R's symbol is not on Q's stem
unfoldable pub down_of : List ℕ → ℕ → List ℕ → ℕ → ℕ → ℕ → ℕ
down_of steps t w R Q a =
    choose (leb (step_at steps (R * columns + a)) t) (λ _. step_at steps (R * columns + a))
    (λ _. get_or w (break_place (step_at steps (R * columns + a) - t - 1) Q a) 0)

-- of rows R and Q at a, where a is in FIRST of both
unfoldable pub meet_of : List ℕ → ℕ → List ℕ → ℕ → ℕ → ℕ → ℕ
meet_of steps t w R Q a =
    choose (eqb R Q) (λ _. t + 1 + R)
    (λ _. choose (leb (step_at steps (Q * columns + a)) t) (λ _. down_of steps t w R Q a)
    (λ _. choose (eqb (get_or w (break_place R (step_at steps (Q * columns + a) - t - 1) a) 0) (t + 1 + R)) (λ _. t + 1 + R) (λ _. down_of steps t w R Q a)))

-- of row R and cell i = Q×32 + a
unfoldable pub implied_of : List ℕ → List ℕ → ℕ → List ℕ → ℕ → ℕ → ℕ
implied_of s steps t w R i =
    choose (eqb (step_at steps i) 0) (λ _. 0)
    (λ _. choose (eqb (step_at steps (R * columns + i % columns)) 0) (λ _. behind_of s (t + 1 + R) (t + 1 + i / columns) (i % columns))
    (λ _. meet_of steps t w R (i / columns) (i % columns)))
