-- How the walk goes on: the nodes written so far and the frames that wait make up the whole walk, and a turn visits the first of the frames.
use Rattle.std.specs.Prelude.{ℕ, ◌≤◌, ◌<◌, ◌≡◌, refl, List, [], ◌∷◌, ◌++◌, length}
use Rattle.std.proofs.Common.{sym, ap, subst, ◌∙◌, append_assoc, append-nil, arith}
use Rattle.base.specs.Choose.{never}
use Rattle.base.specs.Bytes.{byte_at}
use Rattle.grammar.specs.Each.{Each, each_head, each_tail}
use Rattle.grammar.specs.Grammar.{Grammar}
use Rattle.trees.specs.Area.{Distinct}
use Rattle.trees.specs.Nodes.{Node}
use Rattle.trees.specs.Spread.{slots_of}
use Rattle.walks.specs.Frames.{Frame, Within, Stands, Walks, stands_one, stands_some, stands_slot}
use Rattle.walks.specs.Marks.{Marked, marked_twice}

-- siblings wait in the frame
pub record Waits (f : Frame) : Type 0 where
  pub some : f.symbols ≡ [] → ⊥

-- a frame before others, unless no siblings wait in it
pub data Kept (f : Frame) (fs : List Frame) : List Frame → Type 0 where
  left : f.slot ≡ 0 → f.symbols ≡ [] → Kept f fs fs
  kept : Waits f → Kept f fs (f ∷ fs)

-- a visit of the first sibling of f, which is the node e, with the frames that then wait
pub record Turn (G : Grammar) (S : ℕ) (b : List ℕ) (f : Frame) (fs : List Frame) (e : Node) (hs : List Frame) : Type 0 where
  pub within : Within S f.slot
  pub below : Frame
  pub behind : Frame
  pub stands : Stands G b f e below behind
  pub gs : List Frame
  pub later : Kept behind fs gs
  pub sooner : Kept below gs hs

-- nothing is the walk of these frames
pub record Stuck (G : Grammar) (S : ℕ) (b : List ℕ) (fs : List Frame) : Type 0 where
  pub no : (es : List Node) → Walks G S b fs es → ⊥

-- the rest of a walk
pub record Rest (G : Grammar) (S : ℕ) (b : List ℕ) (es : List Node) (fs : List Frame) (hs : List Node) : Type 0 where
  pub nodes : List Node
  pub is : hs ≡ es ++ nodes
  pub walks : Walks G S b fs nodes

-- after the nodes es the walk of `start` is that of fs
pub record Going (G : Grammar) (S : ℕ) (b : List ℕ) (start : List Frame) (es : List Node) (fs : List Frame) : Type 0 where
  pub on : (hs : List Node) → Walks G S b fs hs → Walks G S b start (es ++ hs)
  pub only : (hs : List Node) → Walks G S b start hs → Rest G S b es fs hs
  pub waits : Each Waits fs

-- no walk of `start` has so few nodes in slots of their own
pub record Lost (G : Grammar) (S : ℕ) (b : List ℕ) (start : List Frame) : Type 0 where
  pub no : (es : List Node) → Walks G S b start es → Distinct (slots_of es) → length es ≤ S → ⊥

kept_wait : {f : Frame} {fs gs : List Frame} → Kept f fs gs → Each Waits fs → Each Waits gs
kept_wait (Kept.left z y) e = e
kept_wait (Kept.kept k) e = Each.cons k e

module _ {G : Grammar} {S : ℕ} {b : List ℕ} where
  -- a frame in which no siblings wait may stand anywhere
  module _ (fs : List Frame) (v : Frame) (z : v.slot ≡ 0) (y : v.symbols ≡ []) where
    insert : {gs : List Frame} {es : List Node} → Walks G S b gs es → (us : List Frame) → gs ≡ us ++ fs → Walks G S b (us ++ (v ∷ fs)) es
    insert Walks.nil [] q = Walks.none z y (subst (λ (l : List Frame). Walks G S b l []) q Walks.nil)
    insert Walks.nil (u ∷ us) q = never (cc)
    insert {es = es} (Walks.none i j h) [] q = Walks.none z y (subst (λ (l : List Frame). Walks G S b l es) q (Walks.none i j h))
    insert (Walks.none {f = f} {fs = gs} i j h) (u ∷ us) q =
        let e : f ≡ u = cc in
        let o : gs ≡ us ++ fs = cc in
        Walks.none (rw e at i) (rw e at j) (insert h us o)
    insert {es = es} (Walks.visit w s h) [] q = Walks.none z y (subst (λ (l : List Frame). Walks G S b l es) q (Walks.visit w s h))
    insert (Walks.visit {f = f} {u = m} {v = k} {fs = gs} w s h) (u ∷ us) q =
        let e : f ≡ u = cc in
        let o : m ∷ k ∷ gs ≡ m ∷ k ∷ (us ++ fs) = cc in
        Walks.visit (rw e at w) (rw e at s) (insert h (m ∷ k ∷ us) o)

    remove : {gs : List Frame} {es : List Node} → Walks G S b gs es → (us : List Frame) → gs ≡ us ++ (v ∷ fs) → Walks G S b (us ++ fs) es
    remove Walks.nil [] q = never (cc)
    remove Walks.nil (u ∷ us) q = never (cc)
    remove (Walks.none {fs = gs} i j h) [] q = let o : gs ≡ fs = cc in rw o at h
    remove (Walks.none {f = f} {fs = gs} i j h) (u ∷ us) q =
        let e : f ≡ u = cc in
        let o : gs ≡ us ++ (v ∷ fs) = cc in
        Walks.none (rw e at i) (rw e at j) (remove h us o)
    remove (Walks.visit {f = f} w s h) [] q =
        let e : f ≡ v = cc in
        let l : Within S v.slot = rw e at w in
        absurd (omega (arith, l.0, z))
    remove (Walks.visit {f = f} {u = m} {v = k} {fs = gs} w s h) (u ∷ us) q =
        let e : f ≡ u = cc in
        let o : m ∷ k ∷ gs ≡ m ∷ k ∷ (us ++ (v ∷ fs)) = cc in
        Walks.visit (rw e at w) (rw e at s) (remove h (m ∷ k ∷ us) o)

  -- the frames kept walk as all would
  kept_walks : {u v : Frame} {fs gs hs : List Frame} {es : List Node} → Kept v fs gs → Kept u gs hs → Walks G S b hs es → Walks G S b (u ∷ v ∷ fs) es
  kept_walks {u} {v} {fs} (Kept.left z y) (Kept.left z' y') h = Walks.none z' y' (Walks.none z y h)
  kept_walks {u} {v} {fs} (Kept.left z y) (Kept.kept k) h = insert fs v z y h (u ∷ []) refl
  kept_walks (Kept.kept k) (Kept.left z y) h = Walks.none z y h
  kept_walks (Kept.kept k) (Kept.kept k') h = h

  walks_kept : {u v : Frame} {fs gs hs : List Frame} {es : List Node} → Kept v fs gs → Kept u gs hs → Walks G S b (u ∷ v ∷ fs) es → Walks G S b hs es
  walks_kept {u} {v} {fs} (Kept.left z y) (Kept.left z' y') h = remove fs v z y (remove (v ∷ fs) u z' y' h [] refl) [] refl
  walks_kept {u} {v} {fs} (Kept.left z y) (Kept.kept k) h = remove fs v z y h (u ∷ []) refl
  walks_kept {u} {v} {fs} (Kept.kept k) (Kept.left z y) h = remove (v ∷ fs) u z y h [] refl
  walks_kept (Kept.kept k) (Kept.kept k') h = h

  -- ---- the walk's beginning, its turns and its ends

  pub going_start : (f : Frame) → Waits f → Going G S b (f ∷ []) [] (f ∷ [])
  going_start f w = record { on = λ hs h. h; only = λ hs h. record { nodes = hs; is = refl; walks = h }; waits = Each.cons w Each.nil }

  -- a walk that goes on with a frame whose first sibling stands visits that node
  opened : {f u v : Frame} {fs : List Frame} {e : Node} {es : List Node} → Stands G b f e u v → Within S f.slot → Walks G S b (f ∷ fs) es → Rest G S b (e ∷ []) (u ∷ v ∷ fs) es
  opened s l (Walks.none z y h) = absurd (omega (arith, l.0, z))
  opened {u} {v} {fs = fs} s l (Walks.visit {es = es} w s' h) =
      let q = stands_one s' s in
      record { nodes = es; is = ap (λ (x : Node). x ∷ es) q.node; walks = rw (q.under, q.behind) at h }

  pub going_turn : {start fs hs : List Frame} {f : Frame} (es : List Node) (e : Node) → Turn G S b f fs e hs → Going G S b start es (f ∷ fs) → Going G S b start (es ++ (e ∷ [])) hs
  going_turn {start} {fs} {hs} {f} es e t g =
      record {
        on = λ xs h. rw (append_assoc es (e ∷ []) xs) (g.on (e ∷ xs) (Walks.visit t.within t.stands (kept_walks t.later t.sooner h)));
        only = λ xs h. back xs (g.only xs h);
        waits = kept_wait t.sooner (kept_wait t.later (each_tail g.waits));
      }
    where
      back : (xs : List Node) → Rest G S b es (f ∷ fs) xs → Rest G S b (es ++ (e ∷ [])) hs xs
      back xs r =
          let o = opened t.stands t.within r.walks in
          record { nodes = o.nodes; is = r.is ∙ ap (λ (l : List Node). es ++ l) o.is ∙ sym (append_assoc es (e ∷ []) o.nodes); walks = walks_kept t.later t.sooner o.walks }

  pub going_end : {start : List Frame} (es : List Node) → Going G S b start es [] → Walks G S b start es
  going_end es g = rw (append-nil es) at (g.on [] Walks.nil)

  -- where a slot out of range or one that was visited waits
  module _ {start fs : List Frame} {f : Frame} (es : List Node) (g : Going G S b start es (f ∷ fs)) where
    pub lost_stuck : Stuck G S b (f ∷ fs) → Lost G S b start
    lost_stuck s = record { no = λ hs h d l. let r = g.only hs h in s.no r.nodes r.walks }

    pub lost_over : S < f.slot → Lost G S b start
    lost_over z = lost_stuck (record { no = λ hs h. go h })
      where
        go : {hs : List Node} → Walks G S b (f ∷ fs) hs → ⊥
        go (Walks.none i j h) = omega (arith, i, z)
        go (Walks.visit w s h) = omega (arith, w.1, z)

    pub lost_marked : (m : List ℕ) → Marked m es → (byte_at m f.slot ≡ 0 → ⊥) → Lost G S b start
    lost_marked m k z = record { no = λ hs h d l. let r = g.only hs h in go r.walks (subst (λ (u : List Node). Distinct (slots_of u)) r.is d) }
      where
        go : {hs : List Node} → Walks G S b (f ∷ fs) hs → Distinct (slots_of (es ++ hs)) → ⊥
        go (Walks.none i j h) d = (each_head g.waits).some j
        go (Walks.visit {e = e} {es = hs} w s h) d = marked_twice m es e hs f.slot w.0 k z (stands_slot s) d

  -- at the end there is one walk only
  pub going_one : {start : List Frame} (es hs : List Node) → Going G S b start es [] → Walks G S b start hs → hs ≡ es
  going_one es hs g h = let r = g.only hs h in r.is ∙ ap (λ (l : List Node). es ++ l) (none r.walks) ∙ append-nil es
    where
      none : {ks : List Node} → Walks G S b [] ks → ks ≡ []
      none Walks.nil = refl

  -- a frame with a slot and no siblings cannot be walked, wherever it stands
  pub blocked : {gs : List Frame} {es : List Node} (fs : List Frame) (v : Frame) → (v.slot ≡ 0 → ⊥) → v.symbols ≡ [] → Walks G S b gs es → (us : List Frame) → gs ≡ us ++ (v ∷ fs) → ⊥
  blocked fs v z y Walks.nil [] q = never (cc)
  blocked fs v z y Walks.nil (u ∷ us) q = never (cc)
  blocked fs v z y (Walks.none {f = f} i j h) [] q = let e : f ≡ v = cc in z (rw e at i)
  blocked fs v z y (Walks.none {fs = gs} i j h) (u ∷ us) q = let o : gs ≡ us ++ (v ∷ fs) = cc in blocked fs v z y h us o
  blocked fs v z y (Walks.visit {f = f} w s h) [] q = let e : f ≡ v = cc in stands_some s (rw (← e) at y)
  blocked fs v z y (Walks.visit {f = f} {u = m} {v = k} {fs = gs} w s h) (u ∷ us) q = let o : m ∷ k ∷ gs ≡ m ∷ k ∷ (us ++ (v ∷ fs)) = cc in blocked fs v z y h (m ∷ k ∷ us) o
