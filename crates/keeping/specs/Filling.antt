-- New nodes get the lowest slots that are not marked: one slot, one node, and the nodes of the new tree one after the other.
use Rattle.std.specs.Prelude.{Option, None, Some, ℕ, suc, ◌+◌, ◌-◌, ◌*◌, ◌≤◌, ◌<◌, ◌≡◌, refl, length, get_or}
use Rattle.std.proofs.Common.{ap, ◌∙◌, ⊎_elim, arith}
use Rattle.std.proofs.Math.Logic.{by_cases}
use mathlib.Core.List.{List, [], ◌∷◌, ◌++◌, Memᴰ, append_assoc, append-nil}
use Rattle.std.proofs.Math.Decide.{dec_lt}
use Rattle.base.specs.Bytes.{byte_at}
use Rattle.trees.specs.Coded.{node_size, node_at, nodes_from}
use Rattle.trees.specs.Listing.{in_slot, Put, put_other, node_kept, nodes_kept, nodes_last}
use Rattle.trees.specs.Members.{each_mem, member}
use Rattle.trees.specs.Spread.{slots_of, slots_append}
use Rattle.edits.specs.Keeping.{Given}
use Rattle.edits.specs.Giving.{held_of, Held, held_in, in_held}
use Rattle.keeping.specs.Matched.{slot_by, held_from, Fit, HoldsSlot, slot_kept, held_next}
use Rattle.keeping.specs.Marking.{Marked, Marks}

-- ---- the lowest free slot

-- x is the first slot from s on that is not marked; beyond S none is
pub record Lowest (m : List ℕ) (S s x : ℕ) : Type 0 where
  pub from : s ≤ x
  pub passed : (y : ℕ) → s ≤ y → y < x → byte_at m y ≡ 0 → ⊥
  pub free : x ≤ S → byte_at m x ≡ 0

-- ---- one node

-- with the slots from s on still to be had, a node that holds h gets slot x, and then they are to be had from s' on
pub data Gets (m : List ℕ) (S s : ℕ) : (h : Option ℕ) (x s' : ℕ) → Type 0 where
  kept : {h : ℕ} → 1 ≤ h → Gets m S s (Some h) h s
  made : {x s' : ℕ} → Lowest m S s x → s' ≡ x + 1 → Gets m S s None x s'

-- w' is w where node a has got its slot
pub record Got (m : List ℕ) (S s : ℕ) (h : Option ℕ) (w : List ℕ) (a : ℕ) (w' : List ℕ) (s' : ℕ) : Type 0 where
  pub slot : ℕ
  pub gets : Gets m S s h slot s'
  pub put : Put w a (in_slot slot (node_at w a)) w'

pub got_kept : {m w w' : List ℕ} {S s h a : ℕ} → 1 ≤ h → Put w a (in_slot h (node_at w a)) w' → Got m S s (Some h) w a w' s
got_kept {h = h} l p = record { slot = h; gets = Gets.kept l; put = p }

pub got_made : {m w w' : List ℕ} {S s a x : ℕ} → Lowest m S s x → Put w a (in_slot x (node_at w a)) w' → Got m S s None w a w' (x + 1)
got_made {x = x} l p = record { slot = x; gets = Gets.made l refl; put = p }

gets_some : {m : List ℕ} {S s : ℕ} {h : Option ℕ} {x s' : ℕ} → 1 ≤ s → Gets m S s h x s' → 1 ≤ s'
gets_some o (Gets.kept l) = o
gets_some o (Gets.made l q) = omega arith

-- it is as the rule says
gets_given : {m hs rest ss : List ℕ} {S s h : ℕ} {r : Option ℕ} {x s' : ℕ} → Marked m hs → Held S hs → HoldsSlot h r → Gets m S s r x s' → 1 ≤ s → Given hs s' rest ss → Given hs s (h ∷ rest) (x ∷ ss)
gets_given k d e (Gets.kept l) o g = rw e.0 (Given.kept l g)
gets_given {m} {hs} {rest} {ss} {S} {s} k d e (Gets.made {x = x} {s' = s'} l q) o g =
    let p : suc x ≡ s' = omega (arith, q) in
    let g' : Given hs (suc x) rest ss = rw (← p) at g in
    rw e (Given.made l.from unheld passed g')
  where
    unheld : Memᴰ x hs → ⊥
    unheld i =
        let j = in_held hs i (omega (arith, l.from)) in
        omega (arith, k.held x j, l.free (each_mem (held_of hs) d.within j).1)

    passed : (y : ℕ) → s ≤ y → y < x → Memᴰ y hs
    passed y a b = ⊎_elim (λ i. (held_in hs i).0) (λ n. absurd (l.passed y a b (k.free y n))) (member y (held_of hs))

-- ---- the nodes of the new tree

-- w' is w where the k nodes from node `base` on have the slots that are held or given, and the rest of w is as it was
pub record Gives (w : List ℕ) (base k : ℕ) (hs w' : List ℕ) : Type 0 where
  pub long : length w' ≡ length w
  pub given : Given hs 1 hs (slots_of (nodes_from w' k base))
  pub fields : (i : ℕ) → i < k → node_at w' (base + i) ≡ in_slot (node_at w' (base + i)).slot (node_at w (base + i))
  pub before : (j : ℕ) → j < node_size * base → byte_at w' j ≡ byte_at w j
  pub behind : (j : ℕ) → node_size * (base + k) ≤ j → byte_at w' j ≡ byte_at w j

-- the same when i of them have theirs, and the slots from s on are still to be had
pub record Giving (w ms : List ℕ) (base k : ℕ) (w' : List ℕ) (i s : ℕ) : Type 0 where
  pub long : length w' ≡ length w
  pub some : 1 ≤ s
  pub given : (ss : List ℕ) → Given (held_from w ms k 0) s (held_from w ms (k - i) i) ss → Given (held_from w ms k 0) 1 (held_from w ms k 0) (slots_of (nodes_from w' i base) ++ ss)
  pub fields : (x : ℕ) → x < i → node_at w' (base + x) ≡ in_slot (node_at w' (base + x)).slot (node_at w (base + x))
  pub before : (j : ℕ) → j < node_size * base → byte_at w' j ≡ byte_at w j
  pub behind : (j : ℕ) → node_size * (base + i) ≤ j → byte_at w' j ≡ byte_at w j

pub giving_none : (w ms : List ℕ) (base k : ℕ) → Giving w ms base k w 0 1
giving_none w ms base k =
    let q : k - 0 ≡ k = omega arith in
    record {
      long = refl;
      some = omega arith;
      given = λ ss g. rw q at g;
      fields = λ x l. absurd (omega arith);
      before = λ j l. refl;
      behind = λ j l. refl;
    }

-- what the i-th node holds is read from the old tree's nodes
pub giving_holds : {w ms w' : List ℕ} {base k i s : ℕ} (r : Option ℕ) → Giving w ms base k w' i s → get_or ms i 0 ≤ base → HoldsSlot (slot_by w' (get_or ms i 0)) r → HoldsSlot (slot_by w (get_or ms i 0)) r
giving_holds {w} {ms} {w'} {base} {i = i} r g l e = rw (slot_kept w w' base (get_or ms i 0) g.before l) at e

pub giving_more : {S : ℕ} {w ms w' w'' m : List ℕ} {base k i s s' : ℕ} {h : Option ℕ} → Marks w ms k m → Fit S w ms k → i < k → HoldsSlot (slot_by w (get_or ms i 0)) h
    → Got m S s h w' (base + i) w'' s' → Giving w ms base k w' i s → Giving w ms base k w'' (i + 1) s'
giving_more {S} {w} {ms} {w'} {w''} {m} {base} {k} {i} {s} {s'} {h} mk d l e u g =
    record {
      long = u.put.long ∙ g.long;
      some = gets_some g.some u.gets;
      given = λ ss z.
          let hs : List ℕ = held_from w ms k 0 in
          let y : Given hs s (held_from w ms (k - i) i) (u.slot ∷ ss) = rw (held_next w ms k i l) (gets_given mk.marked d.held e u.gets g.some z) in
          rw (more, append_assoc (slots_of (nodes_from w' i base)) (u.slot ∷ []) ss) (g.given (u.slot ∷ ss) y);
      fields = λ x b. by_cases (dec_lt x i) (λ c. earlier x c) (λ c. let q : x ≡ i = omega arith in rw q here);
      before = λ j b. u.put.before j (omega arith) ∙ g.before j b;
      behind = λ j b. u.put.behind j (omega arith) ∙ g.behind j (omega arith);
    }
  where
    more : slots_of (nodes_from w'' (i + 1) base) ≡ slots_of (nodes_from w' i base) ++ (u.slot ∷ [])
    more =
        let a = nodes_last w'' i base in
        let b : nodes_from w'' i base ≡ nodes_from w' i base = nodes_kept w' w'' i base (λ j x y. u.put.before j (omega arith)) in
        ap slots_of a ∙ slots_append (nodes_from w'' i base) (node_at w'' (base + i) ∷ []) ∙ rw (b, u.put.node)

    earlier : (x : ℕ) → x < i → node_at w'' (base + x) ≡ in_slot (node_at w'' (base + x)).slot (node_at w (base + x))
    earlier x c = rw (put_other u.put (base + x) (λ q. omega arith)) (g.fields x c)

    here : node_at w'' (base + i) ≡ in_slot (node_at w'' (base + i)).slot (node_at w (base + i))
    here =
        let q : node_at w' (base + i) ≡ node_at w (base + i) = node_kept w w' (base + i) (λ j x y. g.behind j (omega arith)) in
        rw (u.put.node, q)

pub giving_all : {w ms w' : List ℕ} {base k s : ℕ} → Giving w ms base k w' k s → Gives w base k (held_from w ms k 0) w'
giving_all {w} {ms} {w'} {base} {k} {s} g =
    let z : k - k ≡ 0 = omega arith in
    record {
      long = g.long;
      given = rw (append-nil (slots_of (nodes_from w' k base))) at (g.given [] (rw z Given.nil));
      fields = g.fields;
      before = g.before;
      behind = g.behind;
    }
