-- The laws that the proof of parse cites: an accepted sentence's node list is its derivation tree in preorder, and is
-- laid out so; what each check on the way says of the call.
use Rattle.std.specs.Prelude.{ℕ, zero, suc, ◌+◌, ◌*◌, ◌/◌, ◌≤◌, ◌<◌, ◌≡◌, refl, Result, Ok, Err, length}
use Rattle.std.proofs.Common.{sym, ap, ◌∙◌, arith}
use Rattle.std.specs.Result.{MatchResult, IsErrAnd}
use mathlib.Core.List.{List, [], ◌∷◌, Memᴰ}
use Rattle.grammar.specs.Each.{Each}
use Rattle.grammar.specs.Grammar.{Grammar}
use Rattle.grammar.specs.Prediction.{Prepared}
use Rattle.grammar.specs.Forest.{Token, Forest, size, Derives}
use Rattle.grammar.specs.Rows.{grammar_in}
use Rattle.grammar.specs.declared.Head.{Head}
use Rattle.tables.specs.Tables.{Tables}
use Rattle.trees.specs.Area.{work_areas, Distinct, Area}
use Rattle.trees.specs.Nodes.{Node, preorder, lists_forest, build, Formed, build_preorder, derives_formed, Fed, fed_preorder, leaves_of, leaves_yield}
use Rattle.trees.specs.Coded.{nodes_from, length_nodes, arity_in}
use Rattle.trees.specs.Spread.{slots_of, Spread, slots_build, size_build}
use Rattle.plain.proofs.Exactly.{accepted_exactly}
use Rattle.plain.specs.Tokens.{token_size, tokens_from, BadToken}
use Rattle.plain.specs.Text.{parse_size}
use Rattle.plain.specs.Machine.{Ground, Numbered, Done}
use Rattle.plain.specs.Plain.{Parses}
use Rattle.plain.specs.Outcome.{Counted, Told, Ran, verdict_of}
use Rattle.plain.specs.declared.BadToken as bad
use Rattle.plain.specs.declared.ParseError.{ParseError}
use Rattle.plain.specs.declared.ParseError.TheVariants as errors
use Rattle.editing.specs.Editing.{mapped_ok, reason_of}
use Rattle.altering.specs.Outcome.{tokens_in}
use Rattle.altering.specs.Treed.{arity_rows}
use Rattle.replies.specs.declared.Reply.{Reply}
use Rattle.replies.specs.declared.Reason.{Reason}
use Rattle.replies.specs.declared.Reason.TheVariants as reasons
use Rattle.replies.specs.declared.Reply.TheVariants.{Accepted, Refused}
use Rattle.calls.specs.Order.{Outcome, refused, passed, accepting, exactly, at}
use Rattle.calls.specs.Checks.{Sized, area, wrong_syntax, no_room}
use Rattle.calls.specs.Parse.{up_from, Stored, parse_counts, store_call, parse_with, parse_call}
use Rattle.calls.proofs.CheckLaws.{given_passed}
use Rattle.calls.specs.CheckLaws.{Fit}
use Rattle.kindlesap.specs.declared.checks.Analysis.{Analysis}
use Rattle.kindlesap.specs.GrammarChecks.{Checks, checked_refused}

-- ---- slots 1, 2, ..

numbered_slots : {s : ℕ} {es : List Node} → Numbered s es → slots_of es ≡ up_from s (length es)
numbered_slots Numbered.nil = refl
numbered_slots {s} (Numbered.cons {es = es} e h) = rw e (ap (λ (u : List ℕ). s ∷ u) (numbered_slots h))

above_from : (s n x : ℕ) → Memᴰ x (up_from s n) → s ≤ x
above_from s zero x m = elim m [ ]
above_from s (suc n) x (mathlib.Core.List.Memᴰ.head e) = omega (arith, e)
above_from s (suc n) x (mathlib.Core.List.Memᴰ.tail m) = omega (arith, above_from (s + 1) n x m)

distinct_from : (s n : ℕ) → Distinct (up_from s n)
distinct_from s zero = Distinct.nil
distinct_from s (suc n) =
    let f : Memᴰ s (up_from (s + 1) n) → ⊥ = λ m. omega (arith, above_from (s + 1) n s m) in Distinct.cons f (distinct_from (s + 1) n)

within_from : (S s n : ℕ) → 1 ≤ s → s + n ≤ S + 1 → Each (λ x. (1 ≤ x) × (x ≤ S)) (up_from s n)
within_from S s zero l m = Each.nil
within_from S s (suc n) l m =
    let w : (1 ≤ s) × (s ≤ S) = (l, omega arith) in Each.cons w (within_from S (s + 1) n (omega arith) (omega arith))

pub spread_from : (S : ℕ) (es : List Node) → Numbered 1 es → length es ≤ S → Spread S es
spread_from S es h l =
    let e = numbered_slots h in
    record { once = rw e (distinct_from 1 (length es)); within = rw e (within_from S 1 (length es) (omega arith) (omega arith)) }

-- ---- an accepted sentence

module _ (rows : List ℕ) (head : Head) (S : ℕ) (b : List ℕ) (m o : ℕ) (w : List ℕ) (l : 1 ≤ S)
    (d : Done (grammar_in rows head) S b m o w) where
  abbrev G : Grammar
  G = grammar_in rows head

  abbrev es : List Node
  es = nodes_from w o 0

  pub fits_slots : o ≤ S
  fits_slots = ((accepted_exactly {G = G} S (tokens_from b m 0) o l).0 d.parses).fits

  forest : (f : Forest) × Derives G (G.start ∷ []) f × (preorder f ≡ es)
  forest = lists_forest d.lists

  formed : Formed (arity_in rows) forest.0
  formed = derives_formed (arity_in rows) (arity_rows rows head) forest.1

  built : build (arity_in rows) es ≡ forest.0
  built = rw forest.2 at (build_preorder formed)

  pub done_fed : Fed (arity_in rows) es
  done_fed = rw forest.2 at (fed_preorder formed)

  pub done_spread : Spread S es
  done_spread = spread_from S es d.numbered (omega (arith, length_nodes w o 0, fits_slots))

  sized : size forest.0 ≡ o
  sized = rw built at (size_build (arity_in rows) es) ∙ length_nodes w o 0

  done_stored : Stored G S (tokens_from b m 0) forest.0
  done_stored =
      record {
        derives = forest.1;
        yields = sym (leaves_yield formed) ∙ ap leaves_of forest.2 ∙ d.leaves;
        fits = omega (arith, sized, fits_slots);
        order =
            rw built at (slots_build (arity_in rows) es) ∙ numbered_slots d.numbered ∙ ap (up_from 1) (length_nodes w o 0 ∙ sym sized);
      }

  pub store_done : (tree tree' : List ℕ) → Area S (build (arity_in rows) es) tree'
      → Outcome (store_call G S (tokens_from b m 0)) tree (Accepted (parse_counts o)) tree'
  store_done tree tree' a =
      passed d.parses (accepting (record { tree = forest.0; stored = done_stored; counts = ap parse_counts (sym sized); area = rw built at a }))

-- ---- replies 9 and 10

pub store_refused : {G : Grammar} {S : ℕ} {w : List Token} (e : ParseError) (tree : List ℕ) → Parses G S w (verdict_of e)
    → Outcome (store_call G S w) tree (Refused (reason_of e)) tree
store_refused (errors.Syntax i x) tree u = refused (wrong_syntax u)
store_refused errors.NoRoom tree u = refused (no_room u)

-- the work area holds the nodes, the tokens that a parse looks at, and the stack
pub room_for : (S long room : ℕ) → Sized S long → work_areas * long ≤ room → parse_size S (S + 1) ≤ room
room_for S long room z l = omega (arith, z.long, l)

-- good tokens fill their bytes
pub counted : {t : ℕ} {b : List ℕ} {m : ℕ} → Counted t b m → Counted t b (length b / token_size)
counted {b = b} {m = m} c = let q : m ≡ length b / token_size = omega (arith, c.long) in rw q at c

-- `map_err` kept the tokens that were counted, or the nodes that were parsed
pub tokens_good : {t : ℕ} {b : List ℕ} (r : Result ℕ bad.BadToken) → Told t b r → (Q : bad.BadToken → Reason → Type 0)
    {s : Result ℕ Reason} (m : ℕ) → MatchResult r (λ y. s ≡ Ok y) (λ e. IsErrAnd s (Q e)) → s ≡ Ok m → Counted t b m
tokens_good r h Q m k e = rw (mapped_ok Q r m k e) at h

pub ran_done : {G : Grammar} {S : ℕ} {b : List ℕ} {m : ℕ} {w : List ℕ} (r : Result ℕ ParseError) → Ran G S b m w r
    → (Q : ParseError → Reason → Type 0) {s : Result ℕ Reason} (o : ℕ) → MatchResult r (λ y. s ≡ Ok y) (λ e. IsErrAnd s (Q e)) → s ≡ Ok o
    → Done G S b m o w
ran_done r h Q o k e = rw (mapped_ok Q r o k e) at h

-- ---- for each check: the outcome of the call where it refuses, and the rest of the call where it passes

-- replies 1 to 3
pub parse_3 : (tables tokens : List ℕ) (room long : ℕ) (tree : List ℕ) {image : List ℕ}
    {k : Analysis} {r : Result Head Reason} (p : Reason) → Checks image k r → r ≡ Err p
    → Outcome (parse_call image tables tokens room long) tree (Refused p) tree
parse_3 tables tokens room long tree p h e = checked_refused (parse_with tables tokens room long) tree p h e

module _ {image : List ℕ} {G : Grammar} (f : Fit image G) (tables tokens : List ℕ) (room long : ℕ) (tree : List ℕ) where
  by_3 : {r : Reply} {tree' : List ℕ} → Outcome (parse_with tables tokens room long G) tree r tree'
      → Outcome (parse_call image tables tokens room long) tree r tree'
  by_3 o = given_passed (parse_with tables tokens room long) f o

  pub parse_4 : (Tables G tables → ⊥)
      → Outcome (parse_call image tables tokens room long) tree (Refused reasons.WrongTables) tree
  parse_4 n = by_3 (refused (exactly n))

  module _ (t : Tables G tables) where
    pub parse_5 : (p : Reason) → (p ≡ reasons.WrongTree) × (area long).Fail reasons.WrongTree
        → Outcome (parse_call image tables tokens room long) tree (Refused p) tree
    parse_5 p n = rw n.0 (by_3 (passed t (refused n.1)))

    module _ (S : ℕ) (z : Sized S long) where
      pub parse_6 : (need : ℕ) → need ≡ work_areas * long → room < need
          → Outcome (parse_call image tables tokens room long) tree (Refused (reasons.ShortWork need)) tree
      parse_6 need e l = rw e (by_3 (passed t (passed z (refused (exactly (λ m. omega (arith, e, l, m)))))))

      module _ (l : work_areas * long ≤ room) where
        pub parse_7 : {k : ℕ} → BadToken G.t tokens k
            → Outcome (parse_call image tables tokens room long) tree (Refused (reasons.BadToken k)) tree
        parse_7 b = by_3 (passed t (passed z (passed l (refused (at b)))))

        pub parse_rest : {m : ℕ} → Counted G.t tokens m
            → (reply : Reply) (tree' : List ℕ) → Outcome (store_call G S (tokens_in tokens)) tree reply tree'
            → Outcome (parse_call image tables tokens room long) tree reply tree'
        parse_rest c reply tree' o = by_3 (passed t (passed z (passed l (passed (counted c).sentence o))))

-- what a parse is given, from the checks before it
pub grounded : (rows : List ℕ) (head : Head) (tables b : List ℕ) {m : ℕ} → Prepared (grammar_in rows head)
    → Tables (grammar_in rows head) tables → Counted head.t b m → Ground rows head tables b (length b / token_size)
grounded rows head tables b p h u =
    let c = counted u in record { prepared = p; tables = h; long = c.long; kinds = c.kinds }
