-- The laws that the proofs of the calls cite: what the check of an image says of the grammar in the rows.
use Rattle.std.specs.Prelude.{ℕ, zero, suc, ◌+◌, ◌≤◌, ◌<◌, ◌≡◌, refl, Some, None, Result, Ok, Err, List, length}
use Rattle.std.proofs.Common.{ap, arith}
use Rattle.std.specs.Result.{MatchResult, IsErrAnd}
use Rattle.base.specs.Choose.{never}
use Rattle.base.specs.Blocks.{length_zeros}
use Rattle.grammar.specs.Limits.{max_terminals, max_nonterminals, max_productions}
use Rattle.grammar.specs.Grammar.{Grammar, WellFormed}
use Rattle.grammar.specs.Derivation.{Useless}
use Rattle.grammar.specs.Image.{Image}
use Rattle.grammar.specs.Rows.{rows_size, symbol_space, productions_from, grammar_in, head_of, rows_of, rows_grammar, start_small}
use Rattle.grammar.specs.Outcome.{Reads, reads_good, reads_bad}
use Rattle.grammar.specs.declared.Head.{Head}
use Rattle.grammar.specs.declared.BadRecord.{BadRecord}
use Rattle.sets.specs.Known.{Known}
use Rattle.predictions.specs.Idle.{Idle, idle_lowest, idle_useful}
use Rattle.predictions.specs.Listing.{Listed, Rowed}
use Rattle.predictions.specs.Verdict.{rowed, low_lowest, low_ll1}
use Rattle.tables.specs.Outcome.{Ready}
use Rattle.replies.specs.declared.Reason.{Reason}
use Rattle.replies.specs.declared.Reason.TheVariants as reasons
use Rattle.replies.specs.declared.Reply.TheVariants.{Refused}
use Rattle.calls.specs.Order.{Call, Outcome}
use Rattle.calls.specs.Checks.{given}
use Rattle.calls.proofs.CheckLaws.{given_refused}
use Rattle.calls.specs.CheckLaws.{Fit, Unfit, bad_image, useless, conflict}
use Rattle.editing.specs.Editing.{mapped_ok}
use Rattle.kindlesap.specs.declared.checks.Analysis.{Analysis}

-- what replies 1 to 3 say of an image: its grammar in the rows, with its words and its cells, or the reason
pub data Checks (image : List ℕ) (k : Analysis) : Result Head Reason → Type 0 where
  fits : {h : Head} → Image image (grammar_in k.rows h) → Ready k.rows h k.sets k.cells → Checks image k (Ok h)
  unfit : {p : Reason} → Unfit image p → Checks image k (Err p)

-- ---- on the way

-- k productions are read from the rows
length_productions : (rows : List ℕ) (k p : ℕ) → length (productions_from rows k p) ≡ k
length_productions rows zero p = refl
length_productions rows (suc k) p = ap suc (length_productions rows k (p + 1))

-- `map_err` kept what was read
pub got_good : {image rows : List ℕ} (r : Result Head BadRecord) → Reads image r rows → (Q : BadRecord → Reason → Type 0)
    {s : Result Head Reason} (h : Head) → MatchResult r (λ y. s ≡ Ok y) (λ e. IsErrAnd s (Q e)) → s ≡ Ok h
    → Image image (grammar_in rows h)
got_good {image} r u Q h k e = go u (mapped_ok Q r h k e)
  where
    go : {rows : List ℕ} {r : Result Head BadRecord} → Reads image r rows → r ≡ Ok h → Image image (grammar_in rows h)
    go (reads_good G i) e =
        let q : head_of G ≡ h = cc in
        let j : Image image (grammar_in (rows_of G.productions) (head_of G)) = rw (rows_grammar G i.formed) i in
        rw (← q) j
    go (reads_bad b) e = never (cc)

pub check_bad : {image rows : List ℕ} {a : Analysis} {r : Result Head BadRecord} (bad : BadRecord) → Reads image r rows → r ≡ Err bad
    → Checks image a (Err (reasons.BadGrammar bad.offset))
check_bad bad (reads_good G i) e = never (cc)
check_bad bad (reads_bad {k = j} b) e =
    let m : BadRecord = record { offset = j } in
    let q : m ≡ bad = cc in
    rw (← q) (unfit (bad_image b))

-- the rows are zeros then
pub bad_sized : {image rows : List ℕ} {r : Result Head BadRecord} (bad : BadRecord) → Reads image r rows → r ≡ Err bad
    → length rows ≡ rows_size
bad_sized bad (reads_good G i) e = never (cc)
bad_sized bad (reads_bad b) e = length_zeros rows_size

module _ {image : List ℕ} (rows : List ℕ) (h : Head) (good : Image image (grammar_in rows h)) where
  f : WellFormed (grammar_in rows h)
  f = good.formed

  pub bounds : (h.t ≤ max_terminals) × (h.n ≤ max_nonterminals) × (h.start < symbol_space) × (h.count ≤ max_productions)
  unfolding grammar_in
  bounds =
      (f.head.terminals.1, f.head.nonterminals.1, start_small rows h f, omega (arith, f.few, length_productions rows h.count 0))

  module _ (s : List ℕ) (k : Known (grammar_in rows h) s) where
    pub have_rows : Rowed rows h.t h.count
    have_rows = rowed rows h s k f

    pub check_useless : {a : Analysis} (r : ℕ) → Idle s h.t h.n (Some r) → Checks image a (Err (reasons.UselessSymbol r))
    unfolding grammar_in
    check_useless r i = unfit (useless good (idle_lowest k f i))

    module _ (idle : Idle s h.t h.n None) (cells : List ℕ) where
      no_useless : (M : ℕ) → Useless (grammar_in rows h) M → ⊥
      unfolding grammar_in
      no_useless = idle_useful k f idle

      pub check_conflict : {a : Analysis} (low : ℕ) → Listed rows s h.t h.count cells (Some low) → Checks image a (Err (reasons.NotLl1 low))
      check_conflict low listed =
          unfit (conflict good no_useless (low_lowest rows h s k f no_useless listed.conflict))

      pub check_fits : Listed rows s h.t h.count cells None → Checks image (record { rows = rows; sets = s; cells = cells }) (Ok h)
      check_fits listed =
          fits good (record {
            known = k;
            prepared = record { formed = f; useful = no_useless; ll1 = low_ll1 rows h s k f no_useless listed.conflict };
            listed = listed;
          })

-- ---- from the check's answer

module _ {image : List ℕ} {k : Analysis} where
  pub checked_ready : {r : Result Head Reason} (h : Head) → Checks image k r → r ≡ Ok h → Ready k.rows h k.sets k.cells
  checked_ready h (fits {h = j} i y) e = let q : j ≡ h = cc in rw q at y
  checked_ready h (unfit u) e = never (cc)

  pub checked_fit : {r : Result Head Reason} (h : Head) → Checks image k r → r ≡ Ok h → Fit image (grammar_in k.rows h)
  checked_fit h (fits {h = j} i y) e =
      let q : j ≡ h = cc in
      let f : Fit image (grammar_in k.rows j) = record { reads = i; prepared = y.prepared } in
      rw q at f
  checked_fit h (unfit u) e = never (cc)

  -- a call refuses with the check's reason
  pub checked_refused : {B : Type 0} {r : Result Head Reason} (next : Grammar → Call B) (before : B) (p : Reason)
      → Checks image k r → r ≡ Err p → Outcome (given image next) before (Refused p) before
  checked_refused next before p (fits i y) e = never (cc)
  checked_refused next before p (unfit {p = q} u) e = let z : q ≡ p = cc in given_refused next (rw z at u)
