-- The walk's loop: the nodes written, the slot to visit and the frames that wait, the marks and the leaves counted, at the start, after a turn, and at the end.
use Rattle.std.specs.Prelude.{ℕ, zero, suc, ◌+◌, ◌-◌, ◌*◌, ◌/◌, ◌%◌, ◌≤◌, ◌<◌, ◌≡◌, length, set, Option, Some, None}
use Rattle.std.proofs.Math.Path.{refl}
use Rattle.std.proofs.Common.{sym, ap, subst, ◌∙◌, inl, inr, get_or-set_other}
use mathlib.Core.List.{List, [], ◌∷◌, ◌++◌}
use native.Mathlib.Omega.{arith}
use Rattle.base.specs.Choose.{never}
use Rattle.base.specs.Bytes.{byte_at, get16}
use Rattle.base.specs.Blocks.{zeros}
use Rattle.grammar.specs.declared.Head.{Head}
use Rattle.grammar.specs.Each.{Each, each_join, each_head}
use Rattle.grammar.specs.Grammar.{Grammar}
use Rattle.grammar.specs.Rows.{symbol_space, grammar_in}
use Rattle.trees.specs.Area.{root_place, max_slots}
use Rattle.trees.specs.Nodes.{Node}
use Rattle.trees.specs.Coded.{node_size, nodes_from, length_nodes}
use Rattle.trees.specs.Spread.{slots_of, slots_append}
use Rattle.trees.specs.Listing.{node_of, nodes_kept, put_last}
use Rattle.walks.specs.declared.Kids.{Kids}
use Rattle.walks.specs.declared.Walk.{Walk}
use Rattle.walks.specs.Slots.{symbol_in, production_in, first_in, next_in, tag_in}
use Rattle.walks.specs.Frames.{Frame, frame, Within}
use Rattle.walks.specs.Marks.{Marked, marked_none, marked_more, marked_room}
use Rattle.walks.specs.Going.{Waits, Kept, Turn, Going, Lost, going_start, going_turn, lost_stuck, lost_over, lost_marked}
use Rattle.walks.specs.Reading.{leaf_count, leaves_append, leaves_few, root_frame}
use Rattle.walks.specs.Digits.{Digits, Split, digits_none, digits_split, digits_some}
use Rattle.walks.specs.Judging.{Counts, Taken, kin_counts, Meets, Visited}
use Rattle.walks.specs.Stacked.{frame_size, frame_parent, place_of, marks_at, walk_size, rest_at, Held, held_same, Framed, marks_in, length_marks, mark_at, marks_set, marks_same}
use Rattle.walks.specs.Turning.{ahead, behind, written, Bears, stuck_unfit, stuck_behind, stuck_stray, stands_bare, stands_bearing}

length_slots_of : (es : List Node) → length (slots_of es) ≡ length es
length_slots_of [] = refl
length_slots_of (e ∷ es) = ap suc (length_slots_of es)

module _ (rows : List ℕ) (head : Head) (S : ℕ) (b : List ℕ) where
  abbrev pub gram : Grammar
  gram = grammar_in rows head

  abbrev pub origin : List Frame
  origin = root_frame gram b ∷ []

  -- i nodes were written and these frames wait
  record Gone (w : List ℕ) (i leaves : ℕ) (hs : List Frame) : Type 0 where
    going : Going gram S b origin (nodes_from w i 0) hs
    marked : Marked (marks_in S w) (nodes_from w i 0)
    within : Each (Within S) (slots_of (nodes_from w i 0))
    counted : leaves ≡ leaf_count (nodes_from w i 0)

  -- slot s is next, where x is expected below the slot `par`, with the symbols of the number `rest` behind it; the frames that wait end at `top`
  pub record Walking (w : List ℕ) (top i leaves s par x rest : ℕ) : Type 0 where
    symbols : List ℕ
    frames : List Frame
    gone : Gone w i leaves (frame s par (x ∷ symbols) ∷ frames)
    digits : Digits symbols rest
    pub k : ℕ
    held : Held w S k frames
    pub place : top ≡ place_of S k
    pub few : k ≤ i
    pub room : i ≤ S
    pub low : par < 65536

  pub record Ended (w : List ℕ) (i leaves : ℕ) : Type 0 where
    pub going : Going gram S b origin (nodes_from w i 0) []
    pub marked : Marked (marks_in S w) (nodes_from w i 0)
    pub counted : leaves ≡ leaf_count (nodes_from w i 0)

  -- the walk ended with so many nodes and leaves, or there is none
  pub data Wandered (w : List ℕ) : Option Walk → Type 0 where
    through : {k : Walk} → k.nodes ≤ S → Ended w k.nodes k.leaves → Wandered w (Some k)
    astray : Lost gram S b origin → Wandered w None

  pub walking_start : (w : List ℕ) (top root : ℕ) → root ≡ get16 b root_place → marks_in S w ≡ set (zeros (S + 1)) 0 1 → top ≡ node_size * S → head.start < symbol_space
      → Walking w top 0 0 root 0 ((64 + head.start) % 64) ((64 + head.start) / 128)
  unfolding grammar_in
  walking_start w top root e z o ls =
      let es : (64 + head.start) % 64 ≡ head.start = omega arith in
      let er : (64 + head.start) / 128 ≡ 0 = omega arith in
      let y : Waits (root_frame gram b) = record { some = λ y. never (cc) } in
      let g : Going gram S b origin [] (root_frame gram b ∷ []) = going_start (root_frame gram b) y in
      record {
        symbols = [];
        frames = [];
        gone = record { going = rw (e, es) g; marked = marked_none (marks_in S w) (S + 1) z (omega arith); within = Each.nil; counted = refl };
        digits = rw er Digits.nil;
        k = 0;
        held = Held.nil;
        place = omega arith;
        few = omega arith;
        room = omega arith;
        low = omega arith;
      }

  -- slot s was written as node i and marked
  record Entered (w : List ℕ) (i s par x : ℕ) (k : Option Kids) (w' : List ℕ) : Type 0 where
    within : s ≤ S
    free : byte_at (marks_in S w) s ≡ 0
    meets : Meets rows head.t head.count b s par x k
    nodes : nodes_from w' (i + 1) 0 ≡ nodes_from w i 0 ++ (node_of s (symbol_in b s) (production_in b s) (tag_in b s) ∷ [])
    marks : marks_in S w' ≡ set (marks_in S w) s 1
    others : (j : ℕ) → node_size * i + node_size ≤ j → j < marks_at S → byte_at w' j ≡ byte_at w j

  entered : {w w' : List ℕ} {i s par x : ℕ} {k : Option Kids} → i ≤ S → (k ≡ None → ⊥) → Visited rows head.t head.count S b s par x w i w' k → Entered w i s par x k w'
  entered {w} {w'} {i} {s} li n (Visited.over y) = absurd (n refl)
  entered {w} {w'} {i} {s} li n (Visited.marked y z) = absurd (n refl)
  entered {w} {w'} {i} {s} li n (Visited.unfit y) = absurd (n refl)
  entered {w} {w'} {i} {s} li n (Visited.stray y z o) = absurd (n refl)
  entered {w} {w'} {i} {s} li n (Visited.met {v = v} l z h p e) =
      let o : (j : ℕ) → j < marks_at S → byte_at w' j ≡ byte_at v j = λ j m. ap (λ (u : List ℕ). byte_at u j) e ∙ get_or-set_other v (marks_at S + s) j 1 0 (omega arith) in
      let q : marks_in S w' ≡ set (marks_in S v) s 1 = ap (marks_in S) e ∙ marks_set S v s 1 l in
      let y : marks_in S v ≡ marks_in S w = marks_same S w v p.long (λ j m. p.behind j (omega arith)) in
      record {
        within = l;
        free = mark_at S w s l ∙ z;
        meets = h;
        nodes = nodes_kept v w' (i + 1) 0 (λ j a c. o j (omega arith)) ∙ put_last p;
        marks = q ∙ ap (λ (u : List ℕ). set u s 1) y;
        others = λ j a c. o j c ∙ p.behind j a;
      }

  module _ {w : List ℕ} {top i leaves s par x rest : ℕ} (h : Walking w top i leaves s par x rest) where
    pub walking_leaves : leaves ≤ i
    walking_leaves = omega (arith, h.gone.counted, leaves_few (nodes_from w i 0), length_nodes w i 0)

    module _ {w1 : List ℕ} {r : Option Kids} (v : Visited rows head.t head.count S b s par x w i w1 r) where
      -- ---- where there is no walk

      pub wandered_unfit : (w' : List ℕ) → r ≡ None → Wandered w' None
      wandered_unfit w' e = Wandered.astray (go v e)
        where
          go : {r : Option Kids} → Visited rows head.t head.count S b s par x w i w1 r → r ≡ None → Lost gram S b origin
          go (Visited.met l z m p q) e = never (cc)
          go (Visited.over z) e = lost_over (nodes_from w i 0) h.gone.going z
          go (Visited.marked l z) e = lost_marked (nodes_from w i 0) h.gone.going (marks_in S w) h.gone.marked (λ o. z (sym (mark_at S w s l) ∙ o))
          go (Visited.unfit z) e = lost_stuck (nodes_from w i 0) h.gone.going (stuck_unfit rows head S b s par x h.symbols h.frames h.low z)
          go (Visited.stray z o u) e = lost_stuck (nodes_from w i 0) h.gone.going (stuck_stray rows head S b s par x h.symbols h.frames h.low z o u)

      module _ {body leaves' : ℕ} (tk : Taken r leaves body leaves') where
        en : Entered w i s par x r w1
        en = entered h.room (go tk.counts) v
          where
            go : {k : Option Kids} {u l : ℕ} → Counts k u l → k ≡ None → ⊥
            go Counts.leaf e = never (cc)
            go Counts.body e = never (cc)

        pub wandered_behind : (w' : List ℕ) (u : ℕ) → u ≡ next_in b s → (u ≡ 0 → ⊥) → rest ≡ 0 → Wandered w' None
        wandered_behind w' u e z y =
            Wandered.astray (lost_stuck (nodes_from w i 0) h.gone.going (stuck_behind rows head S b s par x h.symbols h.frames h.low (λ o. z (e ∙ o)) (digits_none h.digits y)))

        -- ---- a turn

        -- a slot that is not marked is one of the area, and there is room for a node
        some : Within S s
        some = (go s en.free, en.within)
          where
            go : (s : ℕ) → byte_at (marks_in S w) s ≡ 0 → 1 ≤ s
            go zero z = absurd (omega (arith, z, h.gone.marked.ground))
            go (suc s) z = omega arith

        pub walking_room : i < S
        walking_room =
            omega (arith, marked_room S (marks_in S w) (nodes_from w i 0) s h.gone.marked h.gone.within some en.free, length_slots_of (nodes_from w i 0), length_nodes w i 0)

        module _ (lw : walk_size S ≤ length w) (few : S ≤ max_slots) (next : ℕ) (ex : next ≡ next_in b s) (ln : next < 65536) where
          abbrev e : Node
          e = written rows head S b s par x h.symbols

          abbrev f : Frame
          f = ahead rows head S b s par x h.symbols

          abbrev g : Frame
          g = behind rows head S b s par x h.symbols

          turned : {hs : List Frame} → Turn gram S b f h.frames e hs → Gone w1 (i + 1) leaves' hs
          turned y =
              let d = en.nodes in
              let a = h.gone in
              let ls : s < length (marks_in S w) = omega (arith, length_marks S w lw, en.within) in
              let o : Each (Within S) (slots_of (nodes_from w i 0) ++ (s ∷ [])) = each_join a.within (Each.cons some Each.nil) in
              record {
                going = rw d (going_turn (nodes_from w i 0) e y a.going);
                marked = rw (d, en.marks) (marked_more (marks_in S w) (nodes_from w i 0) e s refl ls en.free a.marked);
                within = rw (d, slots_append (nodes_from w i 0) (e ∷ [])) o;
                counted = rw d (omega (arith, a.counted, leaves_append (nodes_from w i 0) (e ∷ []), tk.sum, kin_counts en.meets.kin tk.counts));
              }

          -- the frames stay
          kept : Held w1 S h.k h.frames
          kept = held_same w1 (λ y a c. en.others y (let q = walking_room in omega arith) (let q = h.few in let o = h.room in omega arith)) h.held

          module _ (eb : body ≡ 0) where
            -- the next of the siblings
            pub walking_next : (rest ≡ 0 → ⊥) → Walking w1 top (i + 1) leaves' next par (rest % 64) (rest / 128)
            walking_next nr =
                let st = stands_bare rows head S b s par x h.symbols en.meets tk.counts eb (rw ex at ln) in
                let q = digits_split h.digits nr in
                let wt : Waits g = record { some = λ y. never (let o = q.is in cc) } in
                let y : Turn gram S b f h.frames e (g ∷ h.frames) =
                record { within = some; below = frame 0 s []; behind = g; stands = st; gs = g ∷ h.frames; later = Kept.kept wt; sooner = Kept.left refl refl }
                in
                let z = walking_room in
                record {
                  symbols = q.rest;
                  frames = h.frames;
                  gone = rw (ex, ← q.is) (turned y);
                  digits = q.digits;
                  k = h.k;
                  held = kept;
                  place = h.place;
                  few = omega (arith, h.few);
                  room = omega arith;
                  low = h.low;
                }

            up : rest ≡ 0 → next ≡ 0 → Gone w1 (i + 1) leaves' h.frames
            up zr zn =
                let st = stands_bare rows head S b s par x h.symbols en.meets tk.counts eb (rw ex at ln) in
                turned (record { within = some; below = frame 0 s []; behind = g; stands = st; gs = h.frames; later = Kept.left (sym ex ∙ zn) (digits_none h.digits zr); sooner = Kept.left refl refl })

            -- the last frame
            pub walking_up : (rest ≡ 0) → next ≡ 0 → (top ≡ node_size * S → ⊥) → (s' par' u : ℕ) → s' ≡ get16 w1 (top - frame_size) → par' ≡ get16 w1 (top - frame_size + frame_parent) → par' < 65536 → u ≡ rest_at w1 (top - frame_size)
                → Walking w1 (top - frame_size) (i + 1) leaves' s' par' (u % 64) (u / 128)
            walking_up zr zn nt s' par' u es ep lp eu = go h.place h.few kept (up zr zn)
              where
                go : {k : ℕ} {fs : List Frame} → top ≡ place_of S k → k ≤ i → Held w1 S k fs → Gone w1 (i + 1) leaves' fs → Walking w1 (top - frame_size) (i + 1) leaves' s' par' (u % 64) (u / 128)
                go pl fw Held.nil y = absurd (nt (omega (arith, pl)))
                go pl fw (Held.cons {k = k} {s = s2} {par = p2} {ys = ys} {fs = fs} a c d o) y =
                    let z : top - frame_size ≡ place_of S k = omega (arith, pl) in
                    let a' : s2 ≡ s' = a ∙ sym (rw z at es) in
                    let c' : p2 ≡ par' = c ∙ sym (rw z at ep) in
                    let eu' : u ≡ rest_at w1 (place_of S k) = rw z at eu in
                    let d' : Digits ys u = rw eu' d in
                    let q = digits_some d' (each_head y.going.waits).some in
                    let y' : Gone w1 (i + 1) leaves' (frame s' par' ys ∷ fs) = rw (a', c') at y in
                    let y2 : Gone w1 (i + 1) leaves' (frame s' par' ((u % 64) ∷ q.rest) ∷ fs) =
                    subst (λ (l : List ℕ). Gone w1 (i + 1) leaves' (frame s' par' l ∷ fs)) q.is y'
                    in
                    let m = walking_room in
                    record { symbols = q.rest; frames = fs; gone = y2; digits = q.digits; k = k; held = o; place = z; few = omega (arith, fw); room = omega arith; low = lp }

            -- no frame waits
            pub walking_end : (rest ≡ 0) → next ≡ 0 → top ≡ node_size * S → Wandered w1 (Some (record { nodes = i + 1; leaves = leaves' }))
            walking_end zr zn zt = go h.place kept (up zr zn)
              where
                go : {k : ℕ} {fs : List Frame} → top ≡ place_of S k → Held w1 S k fs → Gone w1 (i + 1) leaves' fs → Wandered w1 (Some (record { nodes = i + 1; leaves = leaves' }))
                go pl Held.nil y =
                    let o = walking_room in
                    let m : i + 1 ≤ S = omega arith in
                    Wandered.through {k = record { nodes = i + 1; leaves = leaves' }} m (record { going = y.going; marked = y.marked; counted = y.counted })
                go pl (Held.cons a c d o) y = absurd (omega (arith, pl, zt))

          module _ (nb : body ≡ 0 → ⊥) (first : ℕ) (ef : first ≡ first_in b s) (lf : first < 65536) where
            bears : Bears rows head S b s par x h.symbols body
            bears = stands_bearing rows head S b s par x h.symbols en.meets tk.counts nb (rw ef at lf) (rw ex at ln)

            apart : Split bears.symbols body
            apart = digits_split bears.digits nb

            abbrev under : Frame
            under = frame (first_in b s) s bears.symbols

            abbrev below : Frame
            below = frame first s ((body % 64) ∷ apart.rest)

            same : under ≡ below
            same = let a = apart.is in let c = sym ef in cc

            waits : Waits under
            waits = record { some = λ y. never (let o = apart.is in cc) }

            -- the children, with no siblings behind
            pub walking_down : rest ≡ 0 → next ≡ 0 → Walking w1 top (i + 1) leaves' first s (body % 64) (body / 128)
            walking_down zr zn =
                let y : Turn gram S b f h.frames e (under ∷ h.frames) =
                record { within = some; below = under; behind = g; stands = bears.stands; gs = h.frames; later = Kept.left (sym ex ∙ zn) (digits_none h.digits zr); sooner = Kept.kept waits }
                in
                let z = walking_room in
                record {
                  symbols = apart.rest;
                  frames = h.frames;
                  gone = subst (λ (u : Frame). Gone w1 (i + 1) leaves' (u ∷ h.frames)) same (turned y);
                  digits = apart.digits;
                  k = h.k;
                  held = kept;
                  place = h.place;
                  few = omega (arith, h.few);
                  room = omega arith;
                  low = omega (arith, en.within);
                }

            -- the children, while the siblings behind wait
            pub walking_push : (rest ≡ 0 → ⊥) → (w2 : List ℕ) → Framed w1 top next par rest w2 → Walking w2 (top + frame_size) (i + 1) leaves' first s (body % 64) (body / 128)
            walking_push nr w2 fr =
                let z = walking_room in
                let pl = h.place in
                let fw = h.few in
                let wt : Waits g = record { some = λ y. never (let o = (digits_split h.digits nr).is in cc) } in
                let y : Turn gram S b f h.frames e (under ∷ g ∷ h.frames) =
                record { within = some; below = under; behind = g; stands = bears.stands; gs = g ∷ h.frames; later = Kept.kept wt; sooner = Kept.kept waits }
                in
                let a = turned y in
                let nodes : nodes_from w2 (i + 1) 0 ≡ nodes_from w1 (i + 1) 0 = nodes_kept w1 w2 (i + 1) 0 (λ j c d. fr.only.others j (inl (omega arith))) in
                let marks : marks_in S w2 ≡ marks_in S w1 = marks_same S w1 w2 fr.only.long (λ j c. fr.only.others j (inr (omega arith))) in
                let a' : Gone w2 (i + 1) leaves' (under ∷ g ∷ h.frames) =
                record { going = rw nodes a.going; marked = rw (nodes, marks) a.marked; within = rw nodes a.within; counted = rw nodes a.counted }
                in
                let low : Held w2 S h.k h.frames = held_same w2 (λ j c d. fr.only.others j (inl (omega arith))) kept in
                let fr' : Framed w1 (place_of S h.k) next par rest w2 = rw pl at fr in
                let dg : Digits h.symbols (rest_at w2 (place_of S h.k)) = rw fr'.symbols h.digits in
                let up : Held w2 S (suc h.k) (g ∷ h.frames) = Held.cons (sym ex ∙ fr'.slot) fr'.parent dg low in
                record {
                  symbols = apart.rest;
                  frames = g ∷ h.frames;
                  gone = subst (λ (u : Frame). Gone w2 (i + 1) leaves' (u ∷ g ∷ h.frames)) same a';
                  digits = apart.digits;
                  k = suc h.k;
                  held = up;
                  place = omega arith;
                  few = omega arith;
                  room = omega arith;
                  low = omega (arith, en.within);
                }
