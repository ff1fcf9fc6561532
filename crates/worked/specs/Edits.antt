-- What a row says of an edit is found by computing.
use Rattle.std.specs.Prelude.{ℕ, zero, suc, ◌+◌, ◌*◌, ◌≤◌, ◌<◌, ◌≡◌, refl, Bool, true, ◌&&◌, List, [], ◌∷◌, ◌++◌, length, take, drop, leb}
use Rattle.std.proofs.Common.{sym, ap, ◌∙◌, subst, leb-true, arith}
use Rattle.std.proofs.Math.Option.{some}
use Rattle.base.specs.Choose.{never}
use Rattle.grammar.specs.Each.{Each, each_join, each_take, each_drop}
use Rattle.grammar.specs.Grammar.{TerminalOf}
use Rattle.grammar.specs.Forest.{Token, kinds, Forest, size, yield, Tree}
use Rattle.grammar.specs.Trees.{kinds_append}
use Rattle.grammar.specs.Reference.{reference}
use Rattle.trees.specs.Area.{work_areas, tag_space, slots, Area, Valid}
use Rattle.trees.specs.Nodes.{Node, leaf_node, inner_node, preorder, build}
use Rattle.plain.specs.Plain.{syntax, Parses}
use Rattle.plain.specs.Alike.{same_slots}
use Rattle.plain.proofs.Exactly.{tree_one}
use Rattle.plain.specs.Tokens.{Tagged, token_bytes, Sentence, good_linked}
use Rattle.edits.specs.Keeping.{Edit, edit_of, edited, Holding, kept_of, made_of, GivenUp, Altered}
use Rattle.edits.specs.Giving.{holding_held, given_spread}
use Rattle.replies.specs.declared.Reply.{Reply}
use Rattle.replies.specs.declared.Reason.TheVariants.{BeyondTokens, Syntax}
use Rattle.replies.specs.declared.Reply.TheVariants.{Accepted, Refused}
use Rattle.calls.specs.Order.{Call, ◌>>◌, Outcome, refused, passed, accepting, exactly}
use Rattle.calls.specs.Checks.{range, wrong_syntax}
use Rattle.calls.specs.Edit.{renew_call, edit_with}
use Rattle.calls.proofs.CheckLaws.{valid_sized, valid_holds, given_passed}
use Rattle.calls.proofs.CallsUnique.{altered_parses}
use Rattle.worked.specs.Ready.{reference_prepared, reference_fit}
use Rattle.worked.specs.Entries.{reference_tables, reference_tables_lem}
use Rattle.worked.specs.Run.{body, run, run_right}
use Rattle.worked.specs.Match.{both_true, held, held_right}
use Rattle.worked.specs.Laid.{laid}
use Rattle.worked.specs.EditRows.{Cell, kept, made, cells_of, slots_in, OldTree, InSlots, Row, new_kinds, left_by, Setting, Replies, Remade}
use Rattle.worked.specs.Alter.{grows, grows_derives, gives, gives_given, given_up_between, given_up_right}

-- ---- tokens and trees, written out but for the tags

-- the first token's tag, and the tokens behind it
abbrev tag_of : List Token → ℕ
tag_of [] = 0
tag_of (k ∷ w) = k.tag

abbrev tail_of : List Token → List Token
tail_of [] = []
tail_of (k ∷ w) = w

-- tokens of these kinds with the tags of w
unfoldable pub spelled : List ℕ → List Token → List Token
spelled [] w = []
spelled (k ∷ ks) w = record { kind = k; tag = tag_of w } ∷ spelled ks (tail_of w)

spelled_is : (ks : List ℕ) (w : List Token) → kinds w ≡ ks → spelled ks w ≡ w
unfolding spelled
spelled_is [] [] e = refl
spelled_is [] (k ∷ w) e = never (cc)
spelled_is (a ∷ ks) [] e = never (cc)
spelled_is (a ∷ ks) (k ∷ w) e =
    let q : kinds w ≡ ks = cc in
    let z : k.kind ≡ a = cc in
    rw (spelled_is ks w q, ← z)

pub kinds_spelled : (ks : List ℕ) (w : List Token) → kinds (spelled ks w) ≡ ks
unfolding spelled
kinds_spelled [] w = refl
kinds_spelled (k ∷ ks) w = ap (λ (ls : List ℕ). k ∷ ls) (kinds_spelled ks (tail_of w))

-- tags that are not given are 0
pub spelled_tags : (ks : List ℕ) → Each Tagged (spelled ks [])
unfolding spelled
spelled_tags [] = Each.nil
spelled_tags (k ∷ ks) = let l : 0 < tag_space = omega arith in Each.cons l (spelled_tags ks)

-- kinds 1..5 make a sentence
unfoldable pub spoken : List ℕ → Bool
spoken [] = true
spoken (k ∷ ks) = leb 1 k && (leb k 5 && spoken ks)

spoken_right : (ks : List ℕ) → spoken ks ≡ true → Each (TerminalOf reference.t) ks
unfolding spoken reference
spoken_right [] e = Each.nil
spoken_right (k ∷ ks) e =
    let u = both_true _ _ e in
    let v = both_true _ _ u.1 in
    Each.cons (leb-true 1 k u.0, leb-true k 5 v.0) (spoken_right ks v.1)

pub spelled_sentence : (ks : List ℕ) → spoken ks ≡ true → Sentence reference.t (token_bytes (spelled ks [])) (spelled ks [])
spelled_sentence ks e = record { is = refl; kinds = rw (kinds_spelled ks []) (spoken_right ks e); tags = spelled_tags ks }

-- the nodes of cells, the leaves with the tags of w
unfoldable pub noded : List Token → List Cell → List Node
noded w [] = []
noded w (kept s x zero ∷ cs) = leaf_node s x (tag_of w) ∷ noded (tail_of w) cs
noded w (kept s x (suc p) ∷ cs) = inner_node s x (suc p) ∷ noded w cs
noded w (made s x zero ∷ cs) = leaf_node s x (tag_of w) ∷ noded (tail_of w) cs
noded w (made s x (suc p) ∷ cs) = inner_node s x (suc p) ∷ noded w cs

unfoldable pub planted : List Token → List Cell → Forest
planted w cs = build (λ p. length (body p)) (noded w cs)

-- ---- what is computed of an edit

pub record Facts : Type 0 where
  pub old_derives : Bool
  pub old_yields : List Token
  pub old_slots : List ℕ
  pub in_range : Bool
  pub derives : Bool
  pub yields : List Token
  pub fits : Bool
  pub given : Bool
  pub order : List ℕ
  pub total : ℕ
  pub kept : ℕ
  pub made : ℕ
  pub up : ℕ
  pub cells : List Cell

unfoldable pub facts : ℕ → Edit → Forest → Forest → Facts
facts S e old new =
    let hs : List ℕ = held e old new in
    record {
      old_derives = grows (reference.start ∷ []) old;
      old_yields = yield old;
      old_slots = slots old;
      in_range = leb (e.place + e.removed) (length (yield old));
      derives = grows (reference.start ∷ []) new;
      yields = yield new;
      fits = leb (size new) S;
      given = gives hs 1 hs (slots new);
      order = slots new;
      total = size new;
      kept = kept_of hs;
      made = made_of hs;
      up = given_up_between hs (slots old);
      cells = cells_of hs (preorder new);
    }

-- what they are to be by a row, where w is the old sentence and w' the new one
abbrev pub right : Row → (w w' : List Token) → Facts
right r w w' =
    record {
      old_derives = true;
      old_yields = w;
      old_slots = r.old.slots;
      in_range = true;
      derives = true;
      yields = w';
      fits = true;
      given = true;
      order = slots_in r.nodes;
      total = r.total;
      kept = r.kept;
      made = r.made;
      up = r.up;
      cells = r.nodes;
    }

-- of the old tree's nodes and a row, whatever the tags
abbrev pub Found : Row → List Cell → Type 0
Found r olds = (w u : List Token)
    → go (spelled r.old.sentence w) (edit_of r.place r.removed (spelled r.inserted u))
  where
    go : List Token → Edit → Type 0
    go w e = facts r.old.S e (planted w olds) (planted (edited e w) r.nodes) ≡ right r w (edited e w)

-- ---- it is right

abbrev pub valid : {o : OldTree} {new : List ℕ} (x : Setting o new) → Valid reference o.S x.tree
valid x = record { some = x.some; few = x.few; tree = x.old; derives = x.placed.derives; area = x.area }

-- the call passes its checks up to reply 7, and this is left of it
module _ {o : OldTree} {new : List ℕ} (x : Setting o new) (place removed : ℕ) where
  abbrev rest : Call (List ℕ)
  rest = do
    range x.old place removed  -- 8
    renew_call reference o.S (edit_of place removed x.inserted) x.old  -- 9, 10

  replied : {r : Reply} {tree' : List ℕ} → Outcome rest x.tree r tree' → Replies x place removed r tree'
  replied h =
      let v = valid x in
      let next = edit_with reference_tables x.tokens place removed (length x.work) x.tree in
      let sized = passed (valid_sized v) (passed (valid_holds v) (passed x.long (passed x.spelt h))) in
      record { outcome = given_passed next reference_fit (passed reference_tables_lem sized); cleared = refl }

-- sentence and slots determine the tree
in_slots_one : {w : List Token} {ss : List ℕ} {f f' : Forest} → InSlots w ss f → InSlots w ss f' → f ≡ f'
in_slots_one {w} h k = same_slots (tree_one reference_prepared (tree_of h) (tree_of k)) (h.order ∙ sym k.order)
  where
    tree_of : {ss : List ℕ} {f : Forest} → InSlots w ss f → Tree reference reference.start w
    tree_of {f = f} h = record { tree = f; derives = h.derives; yields = h.yields }

-- the old tree is the row's
placed_found : (r : Row) (olds : List Cell) → Found r olds → (w u : List Token)
    → InSlots (spelled r.old.sentence w) r.old.slots (planted (spelled r.old.sentence w) olds)
unfolding facts
placed_found r olds found w u =
    let O : Forest = planted (spelled r.old.sentence w) olds in
    let h = found w u in
    record {
      derives = grows_derives (reference.start ∷ []) O (ap (λ (f : Facts). f.old_derives) h);
      yields = ap (λ (f : Facts). f.old_yields) h;
      order = ap (λ (f : Facts). f.old_slots) h;
    }

-- an edit whose new tree is known
module _ {o : OldTree} {new : List ℕ} (x : Setting o new) {place removed : ℕ} {N : Forest} {k m u : ℕ}
    (a : Altered reference o.S (edit_of place removed x.inserted) x.old N k m u) where
  -- it has an area
  altered_laid : (b : List ℕ) × Area o.S N b
  altered_laid =
      let w : List Token = yield x.old in
      let h = holding_held reference_prepared a.derives x.area a.holding in
      let q = given_spread h (omega (arith, a.holding.long, a.fits)) a.given in
      let g : Each Tagged w = good_linked x.area.linked in
      let t : Each Tagged (edited (edit_of place removed x.inserted) w) =
      each_join (each_take place w g) (each_join x.spelt.tags (each_drop (place + removed) w g)) in
      laid o.S N q.0 q.1 (subst (λ (v : List Token). Each Tagged v) (sym a.yields) t)

  -- and the call leaves it
  accepts : (b : List ℕ) → place + removed ≤ length (yield x.old) → Area o.S N b
      → Replies x place removed (Accepted (record { total = size N; kept = k; made = m; given_up = u })) b
  accepts b i c =
      let p = altered_parses x.some a in
      replied x place removed (passed i (passed p (accepting (record { new = N; altered = a; total = refl; area = c }))))

pub edit_says : (r : Row) (olds : List Cell) → Found r olds → (x : Setting r.old r.inserted) → Remade r x
unfolding facts
edit_says r olds found x =
    let S : ℕ = r.old.S in
    let W : List Token = spelled r.old.sentence x.sentence in
    let U : List Token = spelled r.inserted x.inserted in
    let e : Edit = edit_of r.place r.removed U in
    let O : Forest = planted W olds in
    let N : Forest = planted (edited e W) r.nodes in
    let h : facts S e O N ≡ right r W (edited e W) = found x.sentence x.inserted in
    let t : InSlots W r.old.slots O = placed_found r olds found x.sentence x.inserted in
    let v : W ≡ x.sentence = spelled_is r.old.sentence x.sentence x.sentence_kinds in
    let q : O ≡ x.old = in_slots_one (subst (λ (w : List Token). InSlots w r.old.slots O) v t) x.placed in
    let p : U ≡ x.inserted = spelled_is r.inserted x.inserted x.inserted_kinds in
    let hs : List ℕ = held e O N in
    let z : Holding e O N hs = held_right reference_prepared t.derives in
    let l : r.place + r.removed ≤ length (yield O) =
    leb-true (r.place + r.removed) (length (yield O)) (ap (λ (f : Facts). f.in_range) h) in
    let i : r.place + r.removed ≤ length (yield x.old) =
    subst (λ (o : Forest). r.place + r.removed ≤ length (yield o)) q l in
    let g : GivenUp hs (slots O) r.up =
    subst (λ (c : ℕ). GivenUp hs (slots O) c) (ap (λ (f : Facts). f.up) h) (given_up_right hs (slots O)) in
    let a : Altered reference S (edit_of r.place r.removed x.inserted) x.old N r.kept r.made r.up =
    record {
      derives = grows_derives (reference.start ∷ []) N (ap (λ (f : Facts). f.derives) h);
      yields = ap (λ (f : Facts). f.yields) h ∙ ap (edited e) (sym t.yields) ∙ ap (λ (o : Forest). edited e (yield o)) q
          ∙ ap (λ (u : List Token). edited (edit_of r.place r.removed u) (yield x.old)) p;
      fits = leb-true (size N) S (ap (λ (f : Facts). f.fits) h);
      held = hs;
      holding = subst (λ (u : List Token). Holding (edit_of r.place r.removed u) x.old N hs) p
          (subst (λ (o : Forest). Holding e o N hs) q z);
      given = gives_given hs 1 hs (slots N) (ap (λ (f : Facts). f.given) h);
      kept_count = sym (ap (λ (f : Facts). f.kept) h);
      made_count = sym (ap (λ (f : Facts). f.made) h);
      given_up = subst (λ (o : Forest). GivenUp hs (slots o) r.up) q g;
    } in
    let c : (b : List ℕ) × Area S N b = altered_laid x a in
    let n : size N ≡ r.total = ap (λ (f : Facts). f.total) h in
    record {
      tree = N;
      altered = a;
      nodes = ap (λ (f : Facts). f.cells) h;
      order = ap (λ (f : Facts). f.order) h;
      bytes = c.0;
      area = c.1;
      outcome = subst
          (λ (t : ℕ). Replies x r.place r.removed (Accepted (record { total = t; kept = r.kept; made = r.made; given_up = r.up })) c.0)
          n (accepts x a c.0 i c.1);
    }

-- ---- the new sentence

kinds_take : (n : ℕ) (w : List Token) → kinds (take n w) ≡ take n (kinds w)
kinds_take zero w = refl
kinds_take (suc n) [] = refl
kinds_take (suc n) (k ∷ w) = rw (kinds_take n w)

kinds_drop : (n : ℕ) (w : List Token) → kinds (drop n w) ≡ drop n (kinds w)
kinds_drop zero w = refl
kinds_drop (suc n) [] = refl
kinds_drop (suc n) (k ∷ w) = kinds_drop n w

length_kinds : (w : List Token) → length (kinds w) ≡ length w
length_kinds [] = refl
length_kinds (k ∷ w) = ap suc (length_kinds w)

module _ {o : OldTree} {new : List ℕ} (x : Setting o new) where
  old_kinds : kinds (yield x.old) ≡ o.sentence
  old_kinds = ap kinds x.placed.yields ∙ x.sentence_kinds

  pub old_length : length (yield x.old) ≡ length o.sentence
  old_length = sym (length_kinds (yield x.old)) ∙ ap length old_kinds

  pub edited_kinds : (place removed : ℕ)
      → kinds (edited (edit_of place removed x.inserted) (yield x.old)) ≡ new_kinds place removed o.sentence new
  edited_kinds place removed =
      let w = yield x.old in
      rw (
        kinds_append (take place w) (x.inserted ++ drop (place + removed) w),
        kinds_append x.inserted (drop (place + removed) w),
        kinds_take place w,
        kinds_drop (place + removed) w,
        old_kinds,
        x.inserted_kinds,
      )

-- ---- what one edit leaves, another starts from

-- the tree that a row's edit leaves, with any tokens of these kinds and work enough
abbrev pub left_setting : {r : Row} {x : Setting r.old r.inserted} (m : Remade r x) {new tree tokens : List ℕ} {u : List Token}
    (work : List ℕ) → Area r.old.S m.tree tree → kinds u ≡ new → Sentence reference.t tokens u
    → work_areas * length tree ≤ length work → Setting (left_by r) new
left_setting {r} {x} m {tree = tree} {tokens} {u} work a e s l =
    record {
      some = x.some;
      few = x.few;
      sentence = yield m.tree;
      sentence_kinds = ap kinds m.altered.yields ∙ edited_kinds x r.place r.removed;
      old = m.tree;
      placed = record { derives = m.altered.derives; yields = refl; order = m.order };
      tree = tree;
      area = a;
      inserted = u;
      inserted_kinds = e;
      tokens = tokens;
      spelt = s;
      work = work;
      long = l;
    }

-- ---- edits that are refused

-- the plain parse of the new sentence is refused
pub syntax_says : (fuel : ℕ) (o : OldTree) (place removed i e : ℕ) (new : List ℕ) → place + removed ≤ length o.sentence
    → run fuel o.S (6 ∷ []) (new_kinds place removed o.sentence new) 1 0 ≡ some (syntax i e)
    → (x : Setting o new) → Replies x place removed (Refused (Syntax i e)) x.tree
unfolding reference
syntax_says fuel o place removed i e new l h x =
    let w : List Token = edited (edit_of place removed x.inserted) (yield x.old) in
    let p : Parses reference o.S w (syntax i e) =
    run_right fuel o.S (6 ∷ []) w 1 0 (syntax i e) (rw (edited_kinds x place removed) h) in
    replied x place removed (passed (omega (arith, l, old_length x)) (refused (wrong_syntax p)))

-- place and removed run beyond the tokens
pub beyond_says : (o : OldTree) (place removed : ℕ) (new : List ℕ) → length o.sentence < place + removed
    → (x : Setting o new) → Replies x place removed (Refused (BeyondTokens (length o.sentence))) x.tree
beyond_says o place removed new l x =
    subst (λ (n : ℕ). Replies x place removed (Refused (BeyondTokens n)) x.tree) (old_length x)
    (replied x place removed (refused (exactly (λ m. omega (arith, l, m, old_length x)))))
