-- No second outcome: each call's checks find one thing or refuse with one reason, and one thing only is accepted; so
-- each exported call leaves one thing only in every buffer.
use Rattle.std.specs.Prelude.{ℕ, ◌≤◌, ◌≡◌, refl, List, [], length}
use Rattle.std.proofs.Common.{sym, ap, ◌∙◌, subst}
use Rattle.grammar.specs.Grammar.{Grammar}
use Rattle.grammar.specs.Prediction.{Prepared}
use Rattle.grammar.specs.Forest.{Token, Forest, size, yield, Tree}
use Rattle.tables.specs.One.{tables_one}
use Rattle.trees.specs.Area.{Area}
use Rattle.trees.specs.AreaOne.{area_one}
use Rattle.plain.specs.Plain.{accepted, Parses}
use Rattle.plain.specs.Traced.{Same}
use Rattle.plain.specs.Alike.{same_slots, same_size}
use Rattle.plain.proofs.Exactly.{accepted_exactly, tree_one}
use Rattle.edits.specs.Keeping.{Edit, edited, Altered}
use Rattle.edits.specs.Uniqueness.{altered_one}
use Rattle.replies.specs.declared.Counts.{Counts}
use Rattle.calls.specs.Order.{Called}
use Rattle.calls.specs.Checks.{AreaHolds}
use Rattle.calls.proofs.OrderLaws.{called_one, require_single}
use Rattle.calls.specs.OrderLaws.{Settled}
use Rattle.calls.proofs.CheckLaws.{area_single, tree_single, sentence_single, parsed_single, given_settled}
use Rattle.calls.specs.Prepare.{prepare_with, prepare_call}
use Rattle.calls.specs.Parse.{up_from, Stored, parse_counts, Storage, store_call, parse_with, parse_call}
use Rattle.calls.specs.Edit.{Renewal, renew_call, edit_with, edit_call}
use Rattle.calls.specs.ReadBack.{read_back_with, read_back_call}

pub prepare_settled : (image : List ℕ) (long : ℕ) → Settled (prepare_call image long)
prepare_settled image long =
    given_settled (prepare_with long) (λ G g. (require_single, λ _ l c d v w h k. (h.0 ∙ sym k.0, tables_one g h.1 k.1)))

-- ---- parse

module _ {G : Grammar} {S : ℕ} {w : List Token} where
  -- a stored tree is one of the sentence's
  abbrev pub stored_tree : {f : Forest} → Stored G S w f → Tree G G.start w
  stored_tree {f} h = record { tree = f; derives = h.derives; yields = h.yields }

  -- then the plain parse accepts it
  pub stored_parses : {f : Forest} → 1 ≤ S → Stored G S w f → Parses G S w (accepted (size f))
  stored_parses {f} l h =
      (accepted_exactly S w (size f) l).1 (record { tree = stored_tree h; nodes = refl; fits = h.fits })

  module _ (g : Prepared G) where
    -- and a sentence is stored in one way only
    pub stored_one : {f f' : Forest} → Stored G S w f → Stored G S w f' → f ≡ f'
    stored_one {f} {f'} h k =
        let s : Same f f' = tree_one g (stored_tree h) (stored_tree k) in
        same_slots s (h.order ∙ ap (up_from 1) (same_size s) ∙ sym k.order)

    storage_one : (c d : Counts) (v v' : List ℕ) → Storage G S w c v → Storage G S w d v' → (c ≡ d) × (v ≡ v')
    storage_one c d v v' h k =
        let e = stored_one h.stored k.stored in
        (h.counts ∙ ap (λ f. parse_counts (size f)) e ∙ sym k.counts, area_one S k.tree v v' (subst (λ f. Area S f v) e h.area) k.area)

    pub store_settled : Settled (store_call G S w)
    store_settled = (parsed_single g, λ n p. storage_one)

pub parse_settled : (image tables tokens : List ℕ) (room long : ℕ) → Settled (parse_call image tables tokens room long)
parse_settled image tables tokens room long =
    given_settled (parse_with tables tokens room long) (λ G g. (require_single, λ _ t. (area_single, λ S z. (require_single, λ _ l. (sentence_single, λ w s. store_settled g)))))

-- ---- edit

module _ {G : Grammar} {S : ℕ} {e : Edit} {old : Forest} where
  -- the plain parse accepts the sentence of the new tree
  pub altered_parses : {new : Forest} {kept made up : ℕ} → 1 ≤ S → Altered G S e old new kept made up
      → Parses G S (edited e (yield old)) (accepted (size new))
  altered_parses {new} l h =
      (accepted_exactly S (edited e (yield old)) (size new) l).1 (record { tree = record { tree = new; derives = h.derives; yields = h.yields }; nodes = refl; fits = h.fits })

  module _ (g : Prepared G) {tree : List ℕ} (o : AreaHolds G S tree old) where
    renewal_one : (c d : Counts) (v v' : List ℕ) → Renewal G S e old c v → Renewal G S e old d v' → (c ≡ d) × (v ≡ v')
    renewal_one c d v v' h k =
        let q = altered_one g o.derives h.altered k.altered in
        let t : c.total ≡ d.total = h.total ∙ ap size q.0 ∙ sym k.total in
        (rw (t, q.1, q.2, q.3), area_one S k.new v v' (subst (λ f. Area S f v) q.0 h.area) k.area)

    pub renew_settled : Settled (renew_call G S e old)
    renew_settled = (parsed_single g, λ n p. renewal_one)

pub edit_settled : (image tables tokens : List ℕ) (place removed room : ℕ) (tree : List ℕ)
    → Settled (edit_call image tables tokens place removed room tree)
edit_settled image tables tokens place removed room tree =
    given_settled (edit_with tables tokens place removed room tree) (λ G g. (require_single, λ _ t. (area_single, λ S z. (tree_single z, λ old o. (require_single, λ _ l. (sentence_single, λ w s. (require_single, λ _ i. renew_settled g o)))))))

-- ---- read back

pub read_back_settled : (image tree output : List ℕ) → Settled (read_back_call image tree output)
read_back_settled image tree output =
    given_settled (read_back_with tree output) (λ G g. (area_single, λ S z. (tree_single z, λ f h. (require_single, λ _ l c d v w p q. (p.counts ∙ sym q.counts, p.bytes ∙ sym q.bytes)))))

-- ---- the exported calls

module _ {image slice slice' slice'' : List ℕ} where
  pub prepare_called_one : {tables tables' tables'' : List ℕ}
      → Called (prepare_call image (length tables)) tables [] slice tables' [] slice'
      → Called (prepare_call image (length tables)) tables [] slice tables'' [] slice''
      → (tables' ≡ tables'') × (slice' ≡ slice'')
  prepare_called_one {tables} h k =
      let e = called_one (prepare_call image (length tables)) (prepare_settled image (length tables)) h k in
      (e.0, e.2)

  pub parse_called_one : {tables tokens tree work tree' tree'' work' work'' : List ℕ}
      → Called (parse_call image tables tokens (length work) (length tree)) tree work slice tree' work' slice'
      → Called (parse_call image tables tokens (length work) (length tree)) tree work slice tree'' work'' slice''
      → (tree' ≡ tree'') × (work' ≡ work'') × (slice' ≡ slice'')
  parse_called_one {tables} {tokens} {tree} {work} h k =
      called_one (parse_call image tables tokens (length work) (length tree)) (parse_settled image tables tokens (length work) (length tree)) h k

  pub edit_called_one : {tables tree tokens work tree' tree'' work' work'' : List ℕ} (place removed : ℕ)
      → Called (edit_call image tables tokens place removed (length work) tree) tree work slice tree' work' slice'
      → Called (edit_call image tables tokens place removed (length work) tree) tree work slice tree'' work'' slice''
      → (tree' ≡ tree'') × (work' ≡ work'') × (slice' ≡ slice'')
  edit_called_one {tables} {tree} {tokens} {work} place removed h k =
      called_one (edit_call image tables tokens place removed (length work) tree) (edit_settled image tables tokens place removed (length work) tree) h k

  pub read_back_called_one : {tree output output' output'' : List ℕ}
      → Called (read_back_call image tree output) output [] slice output' [] slice'
      → Called (read_back_call image tree output) output [] slice output'' [] slice''
      → (output' ≡ output'') × (slice' ≡ slice'')
  read_back_called_one {tree} {output} h k =
      let e = called_one (read_back_call image tree output) (read_back_settled image tree output) h k in
      (e.0, e.2)
