-- What the checks of edit say, and what an alteration says of the rest of the call.
use Rattle.std.specs.Prelude.{ℕ, ◌-◌, ◌*◌, ◌≤◌, ◌<◌, ◌≡◌, refl, Result, Ok, Err, List, length, Option, Some, None}
use Rattle.std.proofs.Common.{ap, ◌∙◌, arith}
use Rattle.std.specs.Result.{MatchResult, IsErrAnd}
use Rattle.std.specs.Option.{is_some, ok_or}
use Rattle.std.proofs.lemmas.Result.{err_from_is_err_and}
use Rattle.base.specs.Bytes.{get16}
use Rattle.base.specs.Tells.{Tells, tells_yes, tells_no}
use Rattle.base.specs.Choose.{never}
use Rattle.grammar.specs.Grammar.{Grammar}
use Rattle.grammar.specs.Forest.{Forest, size, yield}
use Rattle.trees.specs.Area.{max_slots, work_areas, tokens_place, Valid}
use Rattle.walks.specs.Reading.{valid_one, valid_header}
use Rattle.walks.specs.Closing.{Reads}
use Rattle.edits.specs.Keeping.{Edit}
use Rattle.altering.specs.Outcome.{Alters, AltersTree, Few}
use Rattle.altering.specs.Treed.{Treed, treed, untreed}
use Rattle.altering.specs.declared.Altered.{Altered}
use Rattle.plain.specs.declared.ParseError.{ParseError}
use Rattle.plain.specs.declared.ParseError.TheVariants as errors
use Rattle.replies.specs.declared.Counts.{Counts}
use Rattle.replies.specs.declared.Reason.{Reason}
use Rattle.replies.specs.declared.Reason.TheVariants as reasons
use Rattle.replies.specs.declared.Reply.TheVariants.{Accepted, Refused}
use Rattle.replies.specs.Reply.{reply_of}
use Rattle.calls.specs.Order.{Outcome, refused, passed, accepting}
use Rattle.calls.specs.Checks.{wrong_syntax, no_room}
use Rattle.calls.specs.Edit.{renew_call}
use Rattle.calls.proofs.CallsUnique.{altered_parses}

-- ---- replies 5 and 6: the old tree

-- the walk tells whether an area is a valid tree
pub tells_tree : {G : Grammar} {S : ℕ} {b w : List ℕ} (r : Option ℕ) → Reads G S b w r → Tells (Valid G S b) (is_some r)
tells_tree (Some n) h = tells_yes (treed n h refl).valid
tells_tree None h = tells_no (untreed h refl)

-- the area is a valid tree or not; if it is, its nodes are listed in the work area, which had `room` bytes, or that is
-- too short
pub data Finds (G : Grammar) (S : ℕ) (tree : List ℕ) (room : ℕ) (work : List ℕ) : Result ℕ Reason → Type 0 where
  finds_tree : {o : ℕ} → Treed G S tree work o → work_areas * length tree ≤ room → room ≡ length work
      → Finds G S tree room work (Ok o)
  finds_none : (Valid G S tree → ⊥) → Finds G S tree room work (Err reasons.WrongTree)
  finds_short : Valid G S tree → room < work_areas * length tree → Finds G S tree room work (Err (reasons.ShortWork (work_areas * length tree)))

module _ {G : Grammar} {S : ℕ} {tree : List ℕ} {room : ℕ} {work : List ℕ} where
  pub walk_found : (r : Option ℕ) → Reads G S tree work r → work_areas * length tree ≤ room → room ≡ length work
      → Finds G S tree room work (ok_or r reasons.WrongTree)
  walk_found (Some o) h l m = finds_tree (treed o h refl) l m
  walk_found None h l m = finds_none (untreed h refl)

  -- the work area is too short
  pub short : (need : ℕ) → need ≡ work_areas * length tree → Valid G S tree → room < need
      → Finds G S tree room work (Err (reasons.ShortWork need))
  short need e v l = rw e (finds_short v (omega (arith, e, l)))

  pub found_tree : {r : Result ℕ Reason} (o : ℕ) → Finds G S tree room work r → r ≡ Ok o
      → Treed G S tree work o × (work_areas * length tree ≤ room) × (work_areas * length tree ≤ length work)
  found_tree o (finds_tree {o = p} h l m) e = let q : p ≡ o = cc in (rw q at h, l, omega (arith, l, m))
  found_tree o (finds_none n) e = never (cc)
  found_tree o (finds_short v l) e = never (cc)

  -- the area is no valid tree
  pub found_none : {r : Result ℕ Reason} → Finds G S tree room work r → r ≡ Err reasons.WrongTree → Valid G S tree → ⊥
  found_none (finds_tree h l m) e = never (cc)
  found_none (finds_none n) e = n
  found_none (finds_short v l) e = never (cc)

  -- the area is a valid tree, and the work area was too short for it
  pub found_short : {r : Result ℕ Reason} {need : ℕ} → Finds G S tree room work r → r ≡ Err (reasons.ShortWork need)
      → Valid G S tree × (room < work_areas * length tree)
  found_short (finds_tree h l m) e = never (cc)
  found_short (finds_none n) e = never (cc)
  found_short (finds_short v l) e = (v, l)

-- ---- reply 8: the range

-- the header counts the tokens of a valid tree
pub tokens_counted : {G : Grammar} {S : ℕ} {b : List ℕ} (v : Valid G S b) (k : ℕ) → k ≡ get16 b tokens_place
    → k ≡ length (yield v.tree)
tokens_counted v k e = let y = (valid_header v).tokens in omega (arith, e, y)

-- ---- replies 9 and 10, and the new tree

-- what `map_err` gave came from the same value, or from the error of which it was made
pub mapped_ok : {T E D : Type 0} (Q : E → D → Type 0) (r : Result T E) {s : Result T D} (x : T)
    → MatchResult r (λ y. s ≡ Ok y) (λ e. IsErrAnd s (Q e)) → s ≡ Ok x → r ≡ Ok x
mapped_ok Q (Ok y) x h q = cc
mapped_ok Q (Err e) x h q = absurd (rw q at h)

pub mapped_err : {T E D : Type 0} (Q : E → D → Type 0) (r : Result T E) {s : Result T D} (d : D)
    → MatchResult r (λ y. s ≡ Ok y) (λ e. IsErrAnd s (Q e)) → s ≡ Err d → (e : E) × (r ≡ Err e) × Q e d
mapped_err Q (Ok y) d h q = absurd (cc)
mapped_err Q (Err e) d h q = (e, refl, rw q at h)

-- what a `?` returned of an error
pub thrown : {T E : Type 0} {d : E} (r : Result T E) → IsErrAnd r (λ y. y ≡ d) → r ≡ Err d
thrown r h = let p = err_from_is_err_and r h in rw p.2 at p.1

abbrev pub edit_counts : ℕ → ℕ → ℕ → ℕ → Counts
edit_counts total kept made up = record { total = total; kept = kept; made = made; given_up = up }

abbrev pub reason_of : ParseError → Reason
reason_of (errors.Syntax i x) = reasons.Syntax i x
reason_of errors.NoRoom = reasons.NoRoom

-- whichever valid tree the area is, the rest of the call ends so
pub record Renews (G : Grammar) (S : ℕ) (e : Edit) (tree : List ℕ) (r : Result Counts Reason) (tree' : List ℕ) : Type 0 where
  pub all : (v : Valid G S tree) → Outcome (renew_call G S e v.tree) tree (reply_of r) tree'

module _ {G : Grammar} {S : ℕ} {e : Edit} {tree : List ℕ} {r : Result Altered ParseError} {tree' : List ℕ}
    (a : AltersTree G S e tree r tree') where
  pub renews_refused : (x : ParseError) → r ≡ Err x → Renews G S e tree (Err (reason_of x)) tree'
  renews_refused x q = record { all = λ v. go (a.all v) q }
    where
      go : {old : Forest} {r : Result Altered ParseError} {b : List ℕ} → Alters G S e tree old r b → r ≡ Err x
          → Outcome (renew_call G S e old) tree (Refused (reason_of x)) b
      go (Alters.altered new y u) q = never (cc)
      go (Alters.wrong_syntax {i = i} {x = z} p) q =
          let s : x ≡ errors.Syntax i z = cc in
          rw s (refused (wrong_syntax p))
      go (Alters.no_room p) q =
          let s : x ≡ errors.NoRoom = cc in
          rw s (refused (no_room p))

  pub renews_no_room : r ≡ Err errors.NoRoom → Renews G S e tree (Err reasons.NoRoom) tree'
  renews_no_room q = renews_refused errors.NoRoom q

  pub renews_altered : (nodes : ℕ) (m : Altered) (counts : Counts) (work : List ℕ) → Treed G S tree work nodes → r ≡ Ok m
      → counts ≡ edit_counts m.total m.kept (m.total - m.kept) (nodes - m.kept) → Renews G S e tree (Ok counts) tree'
  renews_altered nodes m counts work h q f =
      rw f (record { all = λ v. go v.some (h.count ∙ ap size (valid_one h.valid v)) (a.all v) q })
    where
      go : {old : Forest} {r : Result Altered ParseError} {b : List ℕ} → 1 ≤ S → nodes ≡ size old → Alters G S e tree old r b
          → r ≡ Ok m
          → Outcome (renew_call G S e old) tree (Accepted (edit_counts m.total m.kept (m.total - m.kept) (nodes - m.kept))) b
      go l c (Alters.altered {kept = k} new y u) q =
          let n : Altered = record { total = size new; kept = k } in
          let z : n ≡ m = cc in
          rw (← z, c) (passed (altered_parses l y) (accepting (record { new = new; altered = y; total = refl; area = u })))
      go l c (Alters.wrong_syntax p) q = never (cc)
      go l c (Alters.no_room p) q = never (cc)

-- the numbers of an alteration
pub few_fit : {o : ℕ} {r : Result Altered ParseError} (m : Altered) → Few o r → o ≤ max_slots → r ≡ Ok m
    → (m.kept ≤ o) × (m.kept ≤ m.total) × (o ≤ max_slots) × (m.total ≤ max_slots)
few_fit m (Few.altered {k = k} {r = j} a b c) l e =
    let n : Altered = record { total = k; kept = j } in
    let z : n ≡ m = cc in
    rw (← z) (b, a, l, c)
few_fit m Few.wrong_syntax l e = never (cc)
few_fit m Few.no_room l e = never (cc)
