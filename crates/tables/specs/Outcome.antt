-- What is laid down are the tables of the grammar in the rows.
use Prim.Native.Nat.{ℕ, ◌+◌, ◌*◌, ◌/◌, ◌%◌, ◌≤◌, ◌<◌}
use Rattle.std.specs.Prelude.{◌≡◌, Bool, false, List, drop, None}
use Rattle.std.proofs.Math.Path.{refl, sym}
use Rattle.std.proofs.Common.{◌∙◌}
use Rattle.std.proofs.Math.Logic.{by_cases}
use Rattle.std.proofs.Math.Decide.{dec_lt}
use Rattle.std.proofs.Math.ListN.{length, get_or, length-drop}
use Rattle.std.proofs.Math.Seq.{get_or-drop}
use native.Mathlib.Omega.{arith}
use Rattle.base.specs.Tells.{Tells, tells_no}
use Rattle.grammar.specs.Limits.{max_terminals, max_nonterminals, columns}
use Rattle.grammar.specs.Grammar.{Grammar}
use Rattle.grammar.specs.Prediction.{Prepared, Break, not_first}
use Rattle.grammar.specs.Rows.{grammar_in}
use Rattle.grammar.specs.declared.Head.{Head}
use Rattle.sets.specs.Known.{Known}
use Rattle.predictions.specs.Listing.{Cell, empty, full, Listed}
use Rattle.predictions.specs.Verdict.{predicts_hit, hit_predicts}
use Rattle.tables.specs.Tables.{predictions_size, tables_size, break_place, prediction_place, Prediction, some, none, Tables}
use Rattle.tables.specs.Cells.{step_of, mask_of, entry_of, implied_of}
use Rattle.tables.specs.Points.{point}
use Rattle.tables.specs.Implied.{told_break, right_told}
use Rattle.tables.specs.One.{prediction_one, break_one}
use Rattle.tables.specs.Grid.{Grid}
use Rattle.tables.specs.Writing.{Laid, mask_cell, entry_cell}

-- what the writer needs to know
pub record Ready (rows : List ℕ) (head : Head) (s cells : List ℕ) : Type 0 where
  pub known : Known (grammar_in rows head) s
  pub prepared : Prepared (grammar_in rows head)
  pub listed : Listed rows s head.t head.count cells None

module _ (rows : List ℕ) (head : Head) (s cells : List ℕ) (ready : Ready rows head s cells) where
  abbrev G : Grammar
  G = grammar_in rows head

  pub ready_few : (head.t ≤ max_terminals) × (head.n ≤ max_nonterminals)
  unfolding grammar_in
  ready_few = (ready.prepared.formed.head.terminals.1, ready.prepared.formed.head.nonterminals.1)

  pub cell_prediction : {M a v : ℕ} → Cell rows s head.count M a v → Prediction G M a v
  cell_prediction (empty f) = none (λ q h. let x = predicts_hit rows head s ready.known ready.prepared.formed h in f x.0 x.2 x.3)
  cell_prediction (full l h) = some (hit_predicts rows head s ready.known ready.prepared.formed ready.prepared.useful l h)

  -- no other lookahead begins anything
  beyond : (M N a : ℕ) → head.t + 1 ≤ a → Break G M N a 0
  unfolding grammar_in
  beyond M N a l = not_first (λ h. omega (arith, h.0.1))

  module _ (f : ℕ → ℕ → ℕ) (w : List ℕ) where
    laid_tables : ((R Q a : ℕ) → R < head.n → Q < head.n → a < head.t + 1 → Break G (head.t + 1 + R) (head.t + 1 + Q) a (f R (Q * columns + a))) → Laid cells f head.n (head.t + 1) w
        → Tables (grammar_in rows head) w
    unfolding grammar_in
    laid_tables right laid =
        record {
          size = laid.long;
          prediction = λ R a x y. rw (laid.front (prediction_place R a) (omega arith)) (cell_prediction (ready.listed.cell R a x y));
          break = λ R Q a x y z. rw (← get_or-drop predictions_size w (break_place R Q a) 0)
              (by_cases (dec_lt a (head.t + 1)) (λ l. rw (laid.back.done R Q a x y l) (right R Q a x y l))
              (λ l. rw (laid.back.other R Q a (omega (arith, ready_few.1)) (omega (arith, ready_few.1)) z (λ _ _. l)) (beyond (head.t + 1 + R) (head.t + 1 + Q) a (omega arith))));
          other = λ R Q a x y z h. sym (get_or-drop predictions_size w (break_place R Q a) 0) ∙ laid.back.other R Q a x y z (λ i j _. h i j);
        }

    tables_laid : ((R Q a : ℕ) → R < head.n → Q < head.n → a < head.t + 1 → get_or (drop predictions_size w) (break_place R Q a) 0 ≡ f R (Q * columns + a)) → Tables (grammar_in rows head) w
        → Laid cells f head.n (head.t + 1) w
    unfolding grammar_in
    tables_laid is h =
        record {
          long = h.size;
          front = λ i l.
              let q : prediction_place (i / columns) (i % columns) ≡ i = omega arith in
              rw q at (prediction_one ready.prepared (h.prediction (i / columns) (i % columns) (omega arith) (omega arith))
              (cell_prediction (ready.listed.cell (i / columns) (i % columns) (omega arith) (omega arith))));
          back = record {
            long = length-drop predictions_size w ∙ omega (arith, h.size);
            done = is;
            other = λ R Q a x y z g. get_or-drop predictions_size w (break_place R Q a) 0
                ∙ by_cases (dec_lt R head.n)
                (λ i. by_cases (dec_lt Q head.n)
                (λ j. break_one ready.prepared (h.break R Q a i j z) (beyond (head.t + 1 + R) (head.t + 1 + Q) a (omega (arith, g i j))))
                (λ j. h.other R Q a x y z (λ _ k. j k)))
                (λ i. h.other R Q a x y z (λ k _. i k));
          };
        }

  module _ (st₀ steps : List ℕ) (fs : Grid 0 (step_of rows s cells head.t) (head.t + 1) head.n head.n 0 st₀ steps) where
    module _ (m₀ masks : List ℕ) (fm : Grid 0 (mask_of steps head.t) (head.t + 1) head.n head.n 0 m₀ masks) where
      break_at : (R Q a : ℕ) → R < head.n → Q < head.n → a < head.t + 1 → Break G (head.t + 1 + R) (head.t + 1 + Q) a (entry_of s steps masks head.t R (Q * columns + a))
      break_at R Q a x y l =
          let few = ready_few in
          let c : a < columns = omega (arith, few.0) in
          let e = fm.done Q a y l ∙ sym (mask_cell steps head.t Q a _ c refl) in
          rw (← entry_cell s steps masks head.t R Q a _ c refl)
          (point rows head s ready.known ready.prepared cells ready.listed steps fs.done (head.t + 1 + R) (head.t + 1 + Q) a (get_or masks (Q * columns + a) 0) (omega (arith, few.0, few.1)) (omega (arith, few.0, few.1)) c e)

      pub tables_from : (w : List ℕ) → Laid cells (entry_of s steps masks head.t) head.n (head.t + 1) w → Tables (grammar_in rows head) w
      tables_from w laid = laid_tables (entry_of s steps masks head.t) w break_at laid

    module _ (w : List ℕ) where
      abbrev b : List ℕ
      b = drop predictions_size w

      implied_right : Laid cells (implied_of s steps head.t b) head.n (head.t + 1) w → (R Q a : ℕ) → R < head.n → Q < head.n → a < head.t + 1 → Break G (head.t + 1 + R) (head.t + 1 + Q) a (implied_of s steps head.t b R (Q * columns + a))
      implied_right laid R Q a x y l =
          rw (laid.back.done R Q a x y l) at
          (told_break rows head s ready.known ready.prepared cells ready.listed steps fs.done b a l (λ R' Q' x' y'. laid.back.done R' Q' a x' y' l) R Q x y)

      right_implied : Tables (grammar_in rows head) w → (R Q a : ℕ) → R < head.n → Q < head.n → a < head.t + 1 → get_or b (break_place R Q a) 0 ≡ implied_of s steps head.t b R (Q * columns + a)
      unfolding grammar_in
      right_implied h R Q a x y l =
          right_told rows head s ready.known ready.prepared cells ready.listed steps fs.done b a l
          (λ R' Q' x' y'. rw (get_or-drop predictions_size w (break_place R' Q' a) 0) (h.break R' Q' a x' y' (omega (arith, ready_few.0)))) R Q x y

      -- the tables are the bytes that are laid so and imply themselves
      pub told_tables : (r : Bool) → Tells (Laid cells (implied_of s steps head.t (drop predictions_size w)) head.n (head.t + 1) w) r → Tells (Tables (grammar_in rows head) w) r
      told_tables r u =
          record {
            yes = λ e. laid_tables (implied_of s steps head.t b) w (implied_right (u.yes e)) (u.yes e);
            no = λ e h. u.no e (tables_laid (implied_of s steps head.t b) w (right_implied h) h);
          }

-- bytes of another length are no tables
pub told_longer : (G : Grammar) (w : List ℕ) → (length w ≡ tables_size → ⊥) → Tells (Tables G w) false
told_longer G w n = tells_no (λ h. n h.size)
