-- Demand 3 at the calls: an edit's reply is that of a plain parse of the new sentence, and of the call parse; an
-- accepted one stores that sentence's tree, with its slots by the rule and its counts.
use Rattle.std.specs.Prelude.{ℕ, ◌+◌, ◌*◌, ◌≤◌, ◌<◌, ◌≡◌, refl, ◌↔◌, List, [], ◌∷◌, length}
use Rattle.std.proofs.Common.{sym, ◌∙◌, subst, arith}
use Rattle.grammar.specs.Each.{Each, each_join, each_take, each_drop}
use Rattle.grammar.specs.Grammar.{Grammar}
use Rattle.grammar.specs.Prediction.{Prepared}
use Rattle.grammar.specs.Images.{image_one}
use Rattle.grammar.specs.Forest.{Token, Forest, size, yield, Derives}
use Rattle.tables.specs.Tables.{Tables}
use Rattle.trees.specs.Area.{work_areas, slot_at, top, Valid}
use Rattle.plain.specs.Plain.{Verdict, Parses}
use Rattle.plain.specs.Traced.{Same, terminals}
use Rattle.plain.proofs.Exactly.{tree_one}
use Rattle.plain.specs.Exactly.{Fitting}
use Rattle.plain.specs.Viable.{Longest}
use Rattle.plain.specs.Tokens.{token_bytes, Sentence, Good, good_of, good_kinds, good_tags, good_linked, sentence_one}
use Rattle.edits.specs.Keeping.{Edit, edit_of, edited, Node, Keeps}
use Rattle.edits.specs.Places.{tree_size}
use Rattle.edits.specs.Edited.{Trees, altered_trees}
use Rattle.edits.specs.Before.{before_keeps}
use Rattle.edits.specs.Untouched.{Written, untouched, untouched_top}
use Rattle.edits.specs.KeptSlots.{keeps_exactly}
use Rattle.edits.specs.Giving.{kept_made, holding_held}
use Rattle.edits.specs.Counts.{kept_given_up}
use Rattle.replies.specs.Reply.{word_size, number_of}
use Rattle.replies.specs.declared.Counts.{Counts}
use Rattle.replies.specs.declared.Reply.{Reply}
use Rattle.replies.specs.declared.Reason.TheVariants as reasons
use Rattle.replies.specs.declared.Reply.TheVariants.{Accepted, Refused}
use Rattle.calls.specs.Order.{Outcome, Called}
use Rattle.calls.specs.Checks.{AreaHolds}
use Rattle.calls.specs.Parse.{parse_call}
use Rattle.calls.specs.Edit.{Renewal, renew_call, edit_with, edit_call}
use Rattle.calls.proofs.OrderLaws.{zero_exactly, require_single, exactly_numbered, placed_numbered, passes, goes_by, has_passed, has_counts, is_accepted}
use Rattle.calls.specs.OrderLaws.{SaysZero}
use Rattle.calls.proofs.CheckLaws.{valid_of, valid_sized, valid_holds, area_single, tree_single, sentence_single, given_rest, given_by}
use Rattle.calls.specs.CheckLaws.{Fit}
use Rattle.calls.proofs.CallsUnique.{altered_parses}
use Rattle.calls.proofs.Verdicts.{decided_early, answered_exactly, answered_alike, answered_place, answered_fits, answered_zero, parsed_answered, accepted_size}
use Rattle.calls.specs.Verdicts.{Answers, Decided, by_zero, by_nine, Alike, Answered}
use Rattle.calls.proofs.Demand2.{parse_stores, parse_answered}
use Rattle.calls.specs.Demand2.{ParseStores}
use Rattle.calls.specs.Demand3.{EditReached, Renewed}

-- ---- what edit has found

pub edit_reached : {image tables tokens : List ℕ} {place removed room : ℕ} {tree : List ℕ} {r : Reply}
    {tree' : List ℕ} → Decided r
    → Outcome (edit_call image tables tokens place removed room tree) tree r tree'
    → EditReached image tables tokens place removed room tree r tree'
edit_reached {tables = tables} {tokens} {place} {removed} {room} {tree} d h =
    let n = decided_early d in
    let (G, f, o) = given_by (edit_with tables tokens place removed room tree) (λ k a b. n k a (omega arith)) h in
    let (_, t, o₄) = goes_by exactly_numbered (n 4 (omega arith) (omega arith)) o in
    let (S, z, o₅) = goes_by exactly_numbered (n 5 (omega arith) (omega arith)) o₄ in
    let (old, v, o₅') = goes_by exactly_numbered (n 5 (omega arith) (omega arith)) o₅ in
    let (_, l, o₆) = goes_by exactly_numbered (n 6 (omega arith) (omega arith)) o₅' in
    let (w, s, o₇) = goes_by (placed_numbered (λ k. refl)) (n 7 (omega arith) (omega arith)) o₆ in
    let (_, m, o₈) = goes_by exactly_numbered (n 8 (omega arith) (omega arith)) o₇ in
    record { grammar = G; fit = f; right = t; slots = S; old = valid_of z v; enough = l; inserted = w; spelt = s; within = m; last = o₈ }

-- the plain parse of the new sentence then decides
renew_answered : {G : Grammar} {S : ℕ} {e : Edit} {old : Forest} {tree tree' : List ℕ} {r : Reply} → Prepared G
    → 1 ≤ S → Outcome (renew_call G S e old) tree r tree' → Answered G S (edited e (yield old)) r
renew_answered g l h = parsed_answered (λ n c v p q. q.total ∙ accepted_size g (altered_parses l q.altered) p) h

-- "With reply 9, its place equals the number of tokens in the longest beginning of the sentence that also begins some
-- sentence of the language"
pub edit_stops : {image tables tokens : List ℕ} {place removed room : ℕ} {tree : List ℕ} (i e : ℕ) (tree' : List ℕ)
    → Outcome (edit_call image tables tokens place removed room tree) tree (Refused (reasons.Syntax i e)) tree'
    → (x : EditReached image tables tokens place removed room tree (Refused (reasons.Syntax i e)) tree') × Longest x.grammar (edited (edit_of place removed x.inserted) (yield x.old.tree)) i
edit_stops i e tree' h =
    let x = edit_reached (by_nine refl) h in
    (x, answered_place x.fit.prepared (renew_answered x.fit.prepared x.old.some x.last) i e refl)

-- ---- after an accepted edit

-- an accepted reply holds counts
pub edit_accepted : {image tables tokens : List ℕ} {place removed room : ℕ} {tree : List ℕ} {r : Reply} {tree' : List ℕ}
    → Outcome (edit_call image tables tokens place removed room tree) tree r tree' → number_of r ≡ 0
    → (c : Counts) × (r ≡ Accepted c)
edit_accepted h e = let (c, q, _) = has_counts (has_passed e (edit_reached (by_zero e) h).last).2 in (c, q)

module _ {G : Grammar} {S : ℕ} {e : Edit} {old : Forest} {c : Counts} {tree' : List ℕ}
    (x : Renewal G S e old c tree') where
  adds_new : c.kept + c.made ≡ c.total
  adds_new =
      let a = x.altered in omega (arith, x.total, a.kept_count, a.made_count, kept_made a.held, a.holding.long)

  adds_old : {tree : List ℕ} → Prepared G → AreaHolds G S tree old → c.kept + c.given_up ≡ size old
  adds_old g v =
      let a = x.altered in omega (arith, a.kept_count, kept_given_up v.area (holding_held g a.derives v.area a.holding) a.holding a.given_up)

pub edit_renews : {image tables tokens : List ℕ} {place removed room : ℕ} {tree : List ℕ} (c : Counts) (tree' : List ℕ)
    → Outcome (edit_call image tables tokens place removed room tree) tree (Accepted c) tree'
    → Renewed image tree place removed tokens c tree'
edit_renews {place = place} {removed} {tree = tree} c tree' h =
    let y = edit_reached (by_zero refl) h in
    let x : Renewal y.grammar y.slots (edit_of place removed y.inserted) y.old.tree c tree' = is_accepted refl (has_passed refl y.last).2 in
    record {
      grammar = y.grammar;
      fit = y.fit;
      slots = y.slots;
      old = y.old;
      new = record { some = y.old.some; few = y.old.few; tree = x.new; derives = x.altered.derives; area = x.area };
      inserted = y.inserted;
      spelt = y.spelt;
      within = y.within;
      yields = x.altered.yields;
      slotted = x.altered;
      total = x.total;
      kept_and_made = adds_new x;
      kept_and_given_up = adds_old x y.fit.prepared (valid_holds y.old);
    }

-- ---- which slots it keeps

module _ {image tree tokens tree' : List ℕ} {place removed : ℕ} {c : Counts}
    (h : Renewed image tree place removed tokens c tree') where
  abbrev the_edit : Edit
  the_edit = edit_of place removed h.inserted

  both_trees : Trees h.grammar the_edit h.old.tree h.new.tree
  both_trees = altered_trees h.fit.prepared h.old.derives h.within h.slotted

  -- demand 3: "a node keeps its slot exactly by document 01's rule": it has the old node's slot, and the old node is
  -- not given up
  pub edit_keeps : {a' q' m' t' a q m t : ℕ} {f' f : Forest} → Node h.new.tree a' q' m' t' f'
      → Node h.old.tree a q m t f
      → Keeps the_edit h.old.tree h.new.tree a' a ↔ ((top f' ≡ top f) × ((b' : ℕ) × Keeps the_edit h.old.tree h.new.tree b' a))
  edit_keeps n o = keeps_exactly both_trees h.slotted h.old.area h.new.area n o

  -- every node that starts before the place keeps its slot, and its number
  pub edit_before : {a q m t : ℕ} {f : Forest} → Node h.old.tree a q m t f → t < place
      → Keeps the_edit h.old.tree h.new.tree a a
  edit_before o l = before_keeps both_trees o l

  -- a kept node that starts after the removed run
  module _ {a' q' m' t' a q m t : ℕ} {f' f : Forest} (k : Keeps the_edit h.old.tree h.new.tree a' a)
      (n : Node h.new.tree a' q' m' t' f') (o : Node h.old.tree a q m t f)
      (l : place + removed ≤ t) where
    -- in its own slot only the parent and the next sibling may change
    pub edit_top : Written tree f × Written tree' f
    edit_top = untouched_top both_trees h.slotted h.old.area h.new.area k n o l

    -- "below such a subtree's top no byte changes"
    pub edit_untouched : {d q₁ m₁ t₁ : ℕ} {f₁ : Forest} → 0 < d → d < tree_size f
        → Node h.old.tree (a + d) q₁ m₁ t₁ f₁ → slot_at tree' (top f₁) ≡ slot_at tree (top f₁)
    edit_untouched i j x = untouched both_trees h.slotted h.old.area h.new.area k n o l i j x

-- ---- the plain parse of the new sentence decides

-- a valid tree's sentence has bytes
valid_spelt : {G : Grammar} {S : ℕ} {b : List ℕ} (v : Valid G S b)
    → Sentence G.t (token_bytes (yield v.tree)) (yield v.tree)
valid_spelt v = record { is = refl; kinds = terminals v.derives; tags = good_linked v.area.linked }

-- with the right tables, a valid tree, good tokens and a run inside the old sentence
module _ {G : Grammar} {S : ℕ} {w : List Token} {image tables tokens tree : List ℕ} (place removed : ℕ)
    (f : Fit image G) (t : Tables G tables) (v : Valid G S tree) (s : Sentence G.t tokens w)
    (o : place + removed ≤ length (yield v.tree)) where
  abbrev sentence : List Token
  sentence = edited (edit_of place removed w) (yield v.tree)

  -- the new sentence has bytes
  pub sentence_bytes : Sentence G.t (token_bytes sentence) sentence
  sentence_bytes =
      let k = valid_spelt v in
      let old : Each (Good G.t) (yield v.tree) = good_of (yield v.tree) k.kinds k.tags in
      let new : Each (Good G.t) sentence =
      each_join (each_take place (yield v.tree) old) (each_join (good_of w s.kinds s.tags) (each_drop (place + removed) (yield v.tree) old)) in
      record { is = refl; kinds = good_kinds sentence new; tags = good_tags sentence new }

  module _ {room : ℕ} (l : work_areas * length tree ≤ room) {r : Reply} {tree' : List ℕ}
      (h : Outcome (edit_call image tables tokens place removed room tree) tree r tree') where
    edit_answered : Answered G S sentence r
    edit_answered =
        let a = passes area_single (valid_sized v) (passes require_single t (given_rest (edit_with tables tokens place removed room tree) f h)) in
        let b = passes require_single l (passes (tree_single (valid_sized v)) (valid_holds v) a) in
        renew_answered f.prepared v.some (passes require_single o (passes sentence_single s b))

    -- an edit's reply, place, expected set and total are those of the plain parse of the new sentence into as many
    -- slots
    pub edit_plain : (u : Verdict) → Parses G S sentence u ↔ Answers u r
    edit_plain = answered_exactly f.prepared edit_answered

    -- accepted with total n exactly if the new sentence has a derivation tree of n nodes that fits
    pub edit_exactly : (n : ℕ) → ((c : Counts) × (r ≡ Accepted c) × (c.total ≡ n)) ↔ Fitting G S sentence n
    edit_exactly = answered_fits f.prepared v.some edit_answered

    pub edit_zero : (number_of r ≡ 0) ↔ ((n : ℕ) × Fitting G S sentence n)
    edit_zero = answered_zero f.prepared v.some edit_answered

    -- parse of the new sentence's bytes, into any area of that length, has the same number, place, expected set and
    -- total
    pub edit_as_parse : {bytes area area' : List ℕ} {room' : ℕ} {r' : Reply} → work_areas * length tree ≤ room'
        → Sentence G.t bytes sentence
        → Outcome (parse_call image tables bytes room' (length tree)) area r' area' → Alike r r'
    edit_as_parse m k p = answered_alike f.prepared edit_answered (parse_answered f t (valid_sized v) m k p)

  -- of the exported call
  pub edit_called : {work tree' work' slice slice' : List ℕ} → work_areas * length tree ≤ length work
      → word_size ≤ length slice
      → Called (edit_call image tables tokens place removed (length work) tree) tree work slice tree' work' slice'
      → SaysZero slice' ↔ ((n : ℕ) × Fitting G S sentence n)
  edit_called l k h = zero_exactly k h (edit_zero l h.ends.outcome)

record Spelt (G : Grammar) (bytes : List ℕ) (f : Forest) : Type 0 where
  spelt : Sentence G.t bytes (yield f)
  derives : Derives G (G.start ∷ []) f

-- derivation trees of the same bytes are the same but for their slots
same_trees : {image tables tree tokens tree' bytes area area' : List ℕ} {place removed room long : ℕ} {c d : Counts}
    (x : Renewed image tree place removed tokens c tree')
    → (y : ParseStores image tables bytes room long area d area') → bytes ≡ token_bytes (yield x.new.tree)
    → Same x.new.tree y.storage.tree
same_trees {bytes = bytes} x y e =
    let q : x.grammar ≡ y.reached.grammar = image_one x.fit.reads y.reached.fit.reads in
    let z : Spelt x.grammar bytes y.storage.tree = subst (λ (G : Grammar). Spelt G bytes y.storage.tree) (sym q) (record { spelt = rw (← y.storage.stored.yields) at y.reached.spelt; derives = y.storage.stored.derives }) in
    let w = sentence_one (rw (← e) at (valid_spelt x.new)) z.spelt in
    tree_one x.fit.prepared (record { tree = x.new.tree; derives = x.new.derives; yields = refl }) (record { tree = y.storage.tree; derives = z.derives; yields = sym w })

-- the tree that an accepted edit stores is the one that parse makes of the new sentence's bytes, in any area of that
-- length and with work enough: parse is accepted with the same
-- total, and its tree has the same nodes, symbols, productions and tags, the slots aside
pub edit_same : {image tables tokens : List ℕ} {place removed room room' : ℕ} {tree tree' bytes area area' : List ℕ}
    (c : Counts) (r' : Reply)
    (h : Outcome (edit_call image tables tokens place removed room tree) tree (Accepted c) tree')
    → work_areas * length tree ≤ room'
    → bytes ≡ token_bytes (yield (edit_renews c tree' h).new.tree)
    → Outcome (parse_call image tables bytes room' (length tree)) area r' area'
    → (d : Counts) × (y : ParseStores image tables bytes room' (length tree) area d area') × (r' ≡ Accepted d) × (d.total ≡ c.total) × Same (edit_renews c tree' h).new.tree y.storage.tree
edit_same {image} {tables} {room' = room'} {tree} {tree'} {bytes} {area} {area'} c r' h m e p =
    let x = edit_renews c tree' h in
    let y = edit_reached (by_zero refl) h in
    let t : Tables x.grammar tables = subst (λ (G : Grammar). Tables G tables) (image_one y.fit.reads x.fit.reads) y.right in
    let w : List Token = yield x.new.tree in
    let s : Sentence x.grammar.t bytes w = subst (λ (b : List ℕ). Sentence x.grammar.t b w) (sym e) (valid_spelt x.new) in
    let a = parse_answered x.fit t (valid_sized x.old) m s p in
    let f : Fitting x.grammar x.slots w (size x.new.tree) =
    record { tree = record { tree = x.new.tree; derives = x.new.derives; yields = refl }; nodes = refl; fits = x.slotted.fits } in
    let (d, q, z) = (answered_fits x.fit.prepared x.old.some a (size x.new.tree)).1 f in
    let o : Outcome (parse_call image tables bytes room' (length tree)) area (Accepted d) area' = subst (λ (r : Reply). Outcome (parse_call image tables bytes room' (length tree)) area r area') q p in
    let v = parse_stores d area' o in
    (d, v, q, z ∙ sym x.total, same_trees x v e)
