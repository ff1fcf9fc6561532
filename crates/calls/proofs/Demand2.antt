-- Demand 2 at the calls: prepare accepts exactly the grammars that it should; with the right tables and lengths parse
-- accepts exactly the sentences that have a tree which fits, and stores it.
use Rattle.std.specs.Prelude.{ℕ, ◌*◌, ◌≤◌, ◌≡◌, refl, ◌↔◌, List, [], length}
use Rattle.std.proofs.Common.{sym, ap, ◌∙◌, subst, arith}
use Rattle.grammar.specs.Grammar.{Grammar}
use Rattle.grammar.specs.Prediction.{Prepared}
use Rattle.grammar.specs.Image.{Image}
use Rattle.grammar.specs.Images.{image_one}
use Rattle.grammar.specs.Forest.{Token}
use Rattle.tables.specs.Tables.{tables_size, Tables}
use Rattle.tables.specs.One.{tables_one}
use Rattle.trees.specs.Area.{work_areas, Valid}
use Rattle.plain.specs.Plain.{Verdict, Parses}
use Rattle.plain.specs.Exactly.{Fitting}
use Rattle.plain.specs.Tokens.{Sentence}
use Rattle.replies.specs.Reply.{word_size, number_of}
use Rattle.replies.specs.declared.Counts.{Counts}
use Rattle.replies.specs.declared.Reply.{Reply}
use Rattle.replies.specs.declared.Reason.TheVariants as reasons
use Rattle.replies.specs.declared.Reply.TheVariants.{Accepted, Refused}
use Rattle.calls.specs.Order.{Outcome, Called}
use Rattle.calls.specs.Checks.{Sized}
use Rattle.calls.specs.Prepare.{prepare_with, prepare_call}
use Rattle.calls.specs.Parse.{parse_counts, Storage, store_call, parse_with, parse_call}
use Rattle.calls.proofs.OrderLaws.{zero_exactly, one_outcome, any_before, require_single, exactly_numbered, placed_numbered, passes, goes_by, has_passed, has_counts, is_accepted}
use Rattle.calls.specs.OrderLaws.{SaysZero}
use Rattle.calls.proofs.CheckLaws.{area_single, sentence_single, given_rest, given_by}
use Rattle.calls.specs.CheckLaws.{Fit}
use Rattle.calls.proofs.CallsUnique.{parse_settled, stored_parses}
use Rattle.calls.proofs.Verdicts.{decided_early, answered_exactly, answered_place, answered_fits, answered_zero, parsed_answered, accepted_size}
use Rattle.calls.specs.Verdicts.{Answers, Decided, by_zero, by_nine, Answered}
use Rattle.calls.specs.Demand2.{FitImage, ParseReached, ParseStores, ParseStops}

-- ---- prepare

module _ {image : List ℕ} {long : ℕ} {tables tables' : List ℕ} {r : Reply}
    (h : Outcome (prepare_call image long) tables r tables') where
  prepare_good : number_of r ≡ 0 → FitImage image
  prepare_good e =
      let (G, f, _) = given_by (prepare_with long) (λ k a b x. omega (arith, e, a, x)) h in record { grammar = G; fit = f }

  -- demand 2: "A grammar is prepared exactly when it is well formed, has no useless nonterminal and is LL(1)"
  pub prepare_exactly : long ≡ tables_size → (number_of r ≡ 0) ↔ FitImage image
  prepare_exactly l =
      (prepare_good, λ g. let (c, e, _) = has_counts (passes require_single l (given_rest (prepare_with long) g.fit h)) in ap number_of e)

  -- demand 2: "its tables are the ones defined": what reply 4 of parse and edit calls the grammar's tables is what
  -- prepare writes
  pub prepare_tables : {G : Grammar} → number_of r ≡ 0 → Image image G → (b : List ℕ) → Tables G b ↔ (b ≡ tables')
  prepare_tables {G} e i b =
      let g = prepare_good e in
      let p : Prepared G = subst Prepared (image_one g.fit.reads i) g.fit.prepared in
      let o = (has_passed e (given_rest (prepare_with long) (record { reads = i; prepared = p }) h)).2 in
      let t : Tables G tables' = (has_counts o).2.1 in
      (λ u. tables_one p u t, λ q. rw q t)

-- of the exported call
pub prepare_called : {image tables tables' slice slice' : List ℕ} → length tables ≡ tables_size
    → word_size ≤ length slice → Called (prepare_call image (length tables)) tables [] slice tables' [] slice'
    → SaysZero slice' ↔ FitImage image
prepare_called l k h = zero_exactly k h (prepare_exactly h.ends.outcome l)

-- ---- parse

-- the plain parse then decides
pub store_answered : {G : Grammar} {S : ℕ} {w : List Token} {tree tree' : List ℕ} {r : Reply} → Prepared G → 1 ≤ S
    → Outcome (store_call G S w) tree r tree' → Answered G S w r
store_answered g l h =
    parsed_answered (λ n c v p q. ap (λ (x : Counts). x.total) q.counts ∙ accepted_size g (stored_parses l q.stored) p) h

store_storage : {G : Grammar} {S : ℕ} {w : List Token} {tree tree' : List ℕ} {r : Reply} (c : Counts) → r ≡ Accepted c
    → Outcome (store_call G S w) tree r tree' → Storage G S w c tree'
store_storage c e h = is_accepted e (has_passed (ap number_of e) h).2

module _ {image tables tokens : List ℕ} {room long : ℕ} {tree : List ℕ} where
  pub parse_reached : {r : Reply} {tree' : List ℕ} → Decided r
      → Outcome (parse_call image tables tokens room long) tree r tree'
      → ParseReached image tables tokens room long tree r tree'
  parse_reached d h =
      let n = decided_early d in
      let (G, f, o) = given_by (parse_with tables tokens room long) (λ k a b. n k a (omega arith)) h in
      let (_, t, o₄) = goes_by exactly_numbered (n 4 (omega arith) (omega arith)) o in
      let (S, z, o₅) = goes_by exactly_numbered (n 5 (omega arith) (omega arith)) o₄ in
      let (_, l, o₆) = goes_by exactly_numbered (n 6 (omega arith) (omega arith)) o₅ in
      let (w, s, o₇) = goes_by (placed_numbered (λ k. refl)) (n 7 (omega arith) (omega arith)) o₆ in
      record { grammar = G; fit = f; right = t; slots = S; sized = z; enough = l; sentence = w; spelt = s; last = o₇ }

  -- an accepted reply holds counts
  pub parse_accepted : {r : Reply} {tree' : List ℕ} → Outcome (parse_call image tables tokens room long) tree r tree'
      → number_of r ≡ 0 → (c : Counts) × (r ≡ Accepted c)
  parse_accepted h e = let (c, q, _) = has_counts (has_passed e (parse_reached (by_zero e) h).last).2 in (c, q)

  -- demand 2: "that tree is stored"
  pub parse_stores : (c : Counts) (tree' : List ℕ)
      → Outcome (parse_call image tables tokens room long) tree (Accepted c) tree'
      → ParseStores image tables tokens room long tree c tree'
  parse_stores c tree' h =
      let x = parse_reached (by_zero refl) h in record { reached = x; storage = store_storage c refl x.last }

  -- "With reply 9, its place equals the number of tokens in the longest beginning of the sentence that also begins some
  -- sentence of the language"
  pub parse_stops : (i e : ℕ) (tree' : List ℕ)
      → Outcome (parse_call image tables tokens room long) tree (Refused (reasons.Syntax i e)) tree'
      → ParseStops image tables tokens room long tree i e tree'
  parse_stops i e tree' h =
      let x = parse_reached (by_nine refl) h in
      record { reached = x; longest = answered_place x.fit.prepared (store_answered x.fit.prepared x.sized.some x.last) i e refl }

  -- "and ignores the area's earlier contents": two areas, whatever they held, have the same reply, and where it is
  -- accepted the same bytes
  pub parse_ignores : (other : List ℕ) (r s : Reply) (tree' other' : List ℕ)
      → Outcome (parse_call image tables tokens room long) tree r tree'
      → Outcome (parse_call image tables tokens room long) other s other'
      → (r ≡ s) × (number_of r ≡ 0 → tree' ≡ other')
  parse_ignores other r s tree' other' h k =
      let (v, o, q) = any_before (parse_call image tables tokens room long) tree other r tree' h in
      let e = one_outcome (parse_call image tables tokens room long) (parse_settled image tables tokens room long) other r s v other' o k in
      (e.0, λ n. sym (q n) ∙ e.1)

-- the area is a valid tree then
abbrev pub stores_valid : {image tables tokens : List ℕ} {room long : ℕ} {tree : List ℕ} {c : Counts} {tree' : List ℕ}
    (x : ParseStores image tables tokens room long tree c tree')
    → Valid x.reached.grammar x.reached.slots tree'
stores_valid x =
    record { some = x.reached.sized.some; few = x.reached.sized.few; tree = x.storage.tree; derives = x.storage.stored.derives; area = x.storage.area }

-- with the right tables, lengths and tokens
module _ {G : Grammar} {S : ℕ} {w : List Token} {image tables tokens : List ℕ} {room long : ℕ} (f : Fit image G)
    (t : Tables G tables) (z : Sized S long) (l : work_areas * long ≤ room)
    (s : Sentence G.t tokens w) {tree tree' : List ℕ} {r : Reply} (h : Outcome (parse_call image tables tokens room long) tree r tree') where
  parse_last : Outcome (store_call G S w) tree r tree'
  parse_last =
      passes sentence_single s (passes require_single l (passes area_single z (passes require_single t (given_rest (parse_with tables tokens room long) f h))))

  pub parse_answered : Answered G S w r
  parse_answered = store_answered f.prepared z.some parse_last

  -- parse's reply, place, expected set and total are those of the plain parse
  pub parse_plain : (u : Verdict) → Parses G S w u ↔ Answers u r
  parse_plain = answered_exactly f.prepared parse_answered

  -- demand 2: "A sentence is accepted exactly when it has a derivation tree that fits the slots"
  pub parse_exactly : (n : ℕ) → (r ≡ Accepted (parse_counts n)) ↔ Fitting G S w n
  parse_exactly n =
      let (there, back) = answered_fits f.prepared z.some parse_answered n in
      (λ e. there (parse_counts n, e, refl), λ x. let (c, e, q) = back x in let y = (store_storage c e parse_last).counts in e ∙ ap Accepted (y ∙ ap parse_counts (sym (ap (λ (x : Counts). x.total) y) ∙ q)))

-- of the exported call
pub parse_called : {G : Grammar} {S : ℕ} {w : List Token}
    {image tables tokens tree work tree' work' slice slice' : List ℕ} → Fit image G → Tables G tables
    → Sized S (length tree)
    → work_areas * length tree ≤ length work → Sentence G.t tokens w → word_size ≤ length slice
    → Called (parse_call image tables tokens (length work) (length tree)) tree work slice tree' work' slice'
    → SaysZero slice' ↔ ((n : ℕ) × Fitting G S w n)
parse_called f t z l s k h =
    zero_exactly k h (answered_zero f.prepared z.some (parse_answered f t z l s h.ends.outcome))
