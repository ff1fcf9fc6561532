-- What the reader of images promises, and that only one outcome satisfies it.
use Rattle.std.specs.Prelude.{◌≡◌, refl, true, Result, Ok, Err, None, ℕ, List, [], ◌∷◌, ◌++◌, length}
use Rattle.std.proofs.Common.{ap, ◌∙◌, append-nil, arith}
use Rattle.std.specs.Result.{MatchResult, is_err}
use Rattle.base.specs.Choose.{never}
use Rattle.base.specs.Blocks.{zeros}
use Rattle.grammar.specs.Grammar.{Grammar}
use Rattle.grammar.specs.Image.{image_of, Image, Bad, bad_head}
use Rattle.grammar.specs.Images.{image_one, good_not_bad, bad_one}
use Rattle.grammar.specs.Rows.{rows_size, rows_of, head_of}
use Rattle.grammar.specs.Reading.{Reading, read_so_far, HeadRead, head_none}
use Rattle.grammar.specs.declared.Head.{Head}
use Rattle.grammar.specs.declared.BadRecord.{BadRecord}

-- the answer and the rows: the image's grammar, or the offset of the first bad record and zeros
pub data Reads (bytes : List ℕ) : Result Head BadRecord → List ℕ → Type 0 where
  reads_good : (G : Grammar) → Image bytes G → Reads bytes (Ok (head_of G)) (rows_of G.productions)
  reads_bad : {k : ℕ} → Bad bytes k → Reads bytes (Err (record { offset = k })) (zeros rows_size)

abbrev good : Grammar → Result Head BadRecord
good G = Ok (head_of G)

abbrev at_offset : ℕ → Result Head BadRecord
at_offset k = Err (record { offset = k })

-- for every image there is one outcome at most
pub reads_one : {bytes : List ℕ} {r r' : Result Head BadRecord} {w w' : List ℕ} → Reads bytes r w → Reads bytes r' w' → (r ≡ r') × (w ≡ w')
reads_one (reads_good G i) (reads_good H j) =
    let e = image_one i j in
    (ap (λ (K : Grammar). good K) e, ap (λ (K : Grammar). rows_of K.productions) e)
reads_one (reads_good G i) (reads_bad b) = absurd (good_not_bad i b)
reads_one (reads_bad b) (reads_good G i) = absurd (good_not_bad i b)
reads_one (reads_bad b) (reads_bad c) = (ap at_offset (bad_one b c), refl)

-- ---- the reader's ends

pub reads_headless : (bytes w : List ℕ) → HeadRead bytes None → w ≡ zeros rows_size → Reads bytes (Err (record { offset = 0 })) w
reads_headless bytes w (head_none h) z = rw z (reads_bad (bad_head h))

module _ (bytes : List ℕ) (t n s : ℕ) (rest rows : List ℕ) (count offset : ℕ) (r : Reading bytes t n s rest rows count offset) where
  empty : (b : List ℕ) → length b ≡ 0 → b ≡ []
  empty [] e = refl
  empty (x ∷ b) e = absurd (omega arith)

  pub reads_end : length rest ≡ 0 → Reads bytes (Ok (record { t = t; n = n; start = s; count = count })) rows
  reads_end e =
      let i : Image bytes (read_so_far t n s r.got) =
      record { formed = r.begins.formed; is = r.begins.is ∙ ap (λ (u : List ℕ). image_of (read_so_far t n s r.got) ++ u) (empty rest e) ∙ append-nil (image_of (read_so_far t n s r.got)) }
      in
      rw (r.laid, r.counted) (reads_good (read_so_far t n s r.got) i)

-- what the reader of the productions answers, and the rows with zeros where that is no grammar
pub reads_cleared : (bytes w v : List ℕ) (r : Result Head BadRecord) → MatchResult r (λ h. Reads bytes r w) (λ e. Bad bytes e.offset) → is_err r ≡ true
    → v ≡ zeros rows_size → Reads bytes r v
reads_cleared bytes w v (Ok h) m e z = never (cc)
reads_cleared bytes w v (Err b) m e z = rw z (reads_bad m)
