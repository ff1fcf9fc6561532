-- Across calls: what parse has stored, read back returns; after an edit it returns the old tokens with the run
-- replaced.
-- Demand 2: "that tree is stored; reading it back gives the same tokens and tags".
use Rattle.std.specs.Prelude.{ℕ, ◌+◌, ◌*◌, ◌≤◌, ◌≡◌, refl, List, ◌++◌, length, take, drop}
use Rattle.std.proofs.Common.{sym, ap, ◌∙◌, append-nil, take-append-drop, drop_of_length-le, take_at, drop_at, length-take-le, arith}
use Rattle.base.specs.Bytes.{get16}
use Rattle.grammar.specs.Grammar.{Grammar}
use Rattle.grammar.specs.Forest.{Token, Forest, size, yield}
use Rattle.trees.specs.Area.{tokens_place, Valid}
use Rattle.walks.specs.Reading.{valid_header}
use Rattle.plain.specs.Tokens.{token_size, token_bytes, length_token_bytes, token_bytes_append}
use Rattle.edits.specs.Keeping.{edit_of, edited}
use Rattle.replies.specs.declared.Counts.{Counts}
use Rattle.replies.specs.declared.Reply.{Reply}
use Rattle.replies.specs.declared.Reply.TheVariants.{Accepted}
use Rattle.calls.specs.Order.{Outcome, passed, accepting}
use Rattle.calls.specs.Checks.{needed}
use Rattle.calls.specs.Parse.{parse_call}
use Rattle.calls.specs.Edit.{edit_call}
use Rattle.calls.specs.ReadBack.{read_counts, read_back_with, read_back_call}
use Rattle.calls.proofs.OrderLaws.{one_outcome}
use Rattle.calls.proofs.CheckLaws.{valid_sized, valid_holds, given_passed}
use Rattle.calls.specs.CheckLaws.{Fit}
use Rattle.calls.proofs.CallsUnique.{read_back_settled}
use Rattle.calls.proofs.Demand2.{parse_stores, stores_valid}
use Rattle.calls.proofs.Demand3.{edit_renews}
use Rattle.calls.specs.Demand3.{Renewed}
use Rattle.calls.specs.RoundTrips.{replaced}

-- read back of an area gives one reply and output
pub read_back_one : {image tree output : List ℕ} (r s : Reply) (v w : List ℕ)
    → Outcome (read_back_call image tree output) output r v → Outcome (read_back_call image tree output) output s w
    → (r ≡ s) × (v ≡ w)
read_back_one {image} {tree} {output} r s v w h k =
    one_outcome (read_back_call image tree output) (read_back_settled image tree output) output r s v w h k

-- of a valid tree, and a long enough output: its tokens
pub reads_tree : {image tree : List ℕ} {G : Grammar} {S : ℕ} → Fit image G → (v : Valid G S tree) (output : List ℕ)
    → needed v.tree ≤ length output
    → Outcome (read_back_call image tree output) output (Accepted (read_counts (size v.tree))) (token_bytes (yield v.tree) ++ drop (needed v.tree) output)
reads_tree {tree = tree} f v output l =
    given_passed (read_back_with tree output) f (passed (valid_sized v) (passed (valid_holds v) (passed l (accepting (record { counts = refl; bytes = refl })))))

-- ---- parse, then read back

module _ {image tables tokens : List ℕ} {room long : ℕ} {tree tree' : List ℕ} (c : Counts)
    (h : Outcome (parse_call image tables tokens room long) tree (Accepted c) tree')
    (output : List ℕ) (l : length tokens ≤ length output) where
  -- for every accepted parse, read back of the stored tree is accepted with that total and gives the same token bytes
  pub parse_read_back : Outcome (read_back_call image tree' output) output (Accepted (read_counts c.total))
      (tokens ++ drop (length tokens) output)
  parse_read_back =
      let x = parse_stores c tree' h in
      let f = x.storage.tree in
      let b : token_bytes (yield f) ≡ tokens = ap token_bytes x.storage.stored.yields ∙ sym x.reached.spelt.is in
      let n : needed f ≡ length tokens = sym (length_token_bytes (yield f)) ∙ ap length b in
      let u : size f ≡ c.total = sym (ap (λ (y : Counts). y.total) x.storage.counts) in
      rw (u, b, n) at (reads_tree x.reached.fit (stores_valid x) output (omega (arith, n, l)))

  -- and nothing else
  pub parse_read_back_one : (r : Reply) (output' : List ℕ) → Outcome (read_back_call image tree' output) output r output'
      → (r ≡ Accepted (read_counts c.total)) × (output' ≡ tokens ++ drop (length tokens) output)
  parse_read_back_one r output' k = read_back_one r _ output' _ k parse_read_back

-- ---- edit, then read back

module _ (w : List Token) (k : ℕ) (l : k ≤ length w) where
  parted : token_bytes w ≡ token_bytes (take k w) ++ token_bytes (drop k w)
  parted = ap token_bytes (sym (take-append-drop k w)) ∙ token_bytes_append (take k w) (drop k w)

  counted : length (token_bytes (take k w)) ≡ token_size * k
  counted = omega (arith, length_token_bytes (take k w), length-take-le k w l)

  take_bytes : take (token_size * k) (token_bytes w) ≡ token_bytes (take k w)
  take_bytes = rw parted (take_at (token_bytes (take k w)) (token_bytes (drop k w)) (token_size * k) counted)

  drop_bytes : drop (token_size * k) (token_bytes w) ≡ token_bytes (drop k w)
  drop_bytes = rw parted (drop_at (token_bytes (take k w)) (token_bytes (drop k w)) (token_size * k) counted)

-- they are the bytes of the new sentence
replaced_bytes : (place removed : ℕ) (w ins : List Token) → place + removed ≤ length w
    → replaced (token_bytes w) place removed (token_bytes ins) ≡ token_bytes (edited (edit_of place removed ins) w)
replaced_bytes place removed w ins l =
    rw (take_bytes w place (omega arith), drop_bytes w (place + removed) l, token_bytes_append (take place w) (ins ++ drop (place + removed) w), token_bytes_append ins (drop (place + removed) w))

-- where read back gave the old tree's tokens, into an output of just their length
module _ {image tables tokens : List ℕ} {place removed room : ℕ} {tree tree' : List ℕ} (c : Counts)
    (h : Outcome (edit_call image tables tokens place removed room tree) tree (Accepted c) tree')
    {before old : List ℕ} (r₀ : Reply) (back : Outcome (read_back_call image tree before) before r₀ old) (whole : length before ≡ token_size * get16 tree tokens_place) (output : List ℕ)
    (l : length (replaced old place removed tokens) ≤ length output) where
  abbrev x : Renewed image tree place removed tokens c tree'
  x = edit_renews c tree' h

  old_bytes : old ≡ token_bytes (yield x.old.tree)
  old_bytes =
      let f : Forest = x.old.tree in
      let n : needed f ≡ length before = let y = (valid_header x.old).tokens in omega (arith, y, whole) in
      (read_back_one r₀ _ old _ back (reads_tree x.fit x.old before (omega (arith, n)))).1
      ∙ rw (n, drop_of_length-le before {i = length before} (omega arith), append-nil (token_bytes (yield f)))

  new_bytes : replaced old place removed tokens ≡ token_bytes (yield x.new.tree)
  new_bytes =
      ap (λ (b : List ℕ). replaced b place removed tokens) old_bytes ∙ ap (replaced (token_bytes (yield x.old.tree)) place removed) x.spelt.is
      ∙ replaced_bytes place removed (yield x.old.tree) x.inserted x.within ∙ ap token_bytes (sym x.yields)

  -- read back of the new tree gives the same tokens with the run replaced
  pub edit_read_back : Outcome (read_back_call image tree' output) output (Accepted (read_counts c.total))
      (replaced old place removed tokens ++ drop (length (replaced old place removed tokens)) output)
  edit_read_back =
      let f : Forest = x.new.tree in
      let k : needed f ≡ length (replaced old place removed tokens) = sym (ap length new_bytes ∙ length_token_bytes (yield f)) in
      rw (← x.total, ← new_bytes, k) at (reads_tree x.fit x.new output (omega (arith, k, l)))

  -- and nothing else
  pub edit_read_back_one : (r : Reply) (output' : List ℕ) → Outcome (read_back_call image tree' output) output r output'
      → (r ≡ Accepted (read_counts c.total)) × (output' ≡ replaced old place removed tokens ++ drop (length (replaced old place removed tokens)) output)
  edit_read_back_one r output' k = read_back_one r _ output' _ k edit_read_back
