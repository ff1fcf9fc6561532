-- What is known of the work area as it was holds of the work area as it is, since its lists are the same.
use Rattle.std.specs.Prelude.{ℕ, ◌+◌, ◌≤◌, ◌<◌, ◌≡◌, refl, Option, List, length, get_or}
use Rattle.std.proofs.Common.{◌∙◌, arith}
use Rattle.notes.specs.declared.Notes.{Notes}
use Rattle.notes.specs.Views.{length_marks}
use Rattle.notes.specs.Lists.{nodes_of, matches_of, marks_of, same_then, Seen}
use Rattle.keeping.specs.Matched.{slot_by, held_from, Old, Fit, HoldsSlot}
use Rattle.keeping.specs.Marking.{Marks, Keeps}
use Rattle.keeping.specs.Filling.{Gives, Got}

-- each slot has a mark
pub marks_room : (v : Notes) (h : ℕ) → h ≤ v.slots → h < length (marks_of v)
marks_room v h l = omega (arith, length_marks v.work.now v.slots)

pub seen_here : (v : Notes) → Seen v v (nodes_of v) (matches_of v) (marks_of v)
seen_here v = record { same = record { name = refl; slots = refl }; nodes = refl; matches = refl; marks = refl }

module _ {u v : Notes} {ns ms ks : List ℕ} (h : Seen u v ns ms ks) where
  pub held_then : (i : ℕ) (r : Option ℕ) → HoldsSlot (slot_by (nodes_of v) (get_or (matches_of v) i 0)) r → HoldsSlot (slot_by ns (get_or ms i 0)) r
  held_then i r e = rw (h.nodes, h.matches) at e

  -- the same of the slot, counted from 1, or 0 if the node holds none
  pub slot_then : (i s : ℕ) → s ≡ slot_by (nodes_of v) (get_or (matches_of v) i 0) → s ≡ slot_by ns (get_or ms i 0)
  slot_then i s e = rw (h.nodes, h.matches) at e

  -- new nodes are matched with old ones only: one of the first k, and all of them
  pub match_fits : (k i : ℕ) → Old u.slots k ms → i < k → get_or (matches_of v) i 0 ≤ v.slots
  match_fits k i o l = rw (h.matches, h.same.slots) (o.each i l)

  pub old_now : {k : ℕ} → Old u.slots k ms → Old v.slots k (matches_of v)
  old_now o = rw (h.matches, h.same.slots) o

  -- the slots that the first k hold are among the slots, each once
  pub fit_now : {k : ℕ} → Fit u.slots ns ms k → Fit v.slots (nodes_of v) (matches_of v) k
  fit_now f = rw (h.nodes, h.matches, h.same.slots) f

  -- the marks of the slots that are held, and how many are kept
  pub marks_now : {k : ℕ} → Marks ns ms k (marks_of v) → Marks (nodes_of v) (matches_of v) k (marks_of v)
  marks_now m = rw (h.nodes, h.matches) m

  pub marks_then : {k : ℕ} {ks' : List ℕ} → Marks (nodes_of v) (matches_of v) k ks' → Marks ns ms k ks'
  marks_then m = rw (h.nodes, h.matches) at m

  pub keeps_then : {k kept : ℕ} → Keeps (nodes_of v) (matches_of v) k kept → Keeps ns ms k kept
  keeps_then m = rw (h.nodes, h.matches) at m

  -- the first k have got their slots
  pub gives_then : {k : ℕ} {w' : List ℕ} → Gives (nodes_of v) v.slots k (held_from (nodes_of v) (matches_of v) k 0) w'
      → Gives ns u.slots k (held_from ns ms k 0) w'
  gives_then g = rw (h.nodes, h.matches, h.same.slots) at g

  -- a further write
  pub seen_more : {v' : Notes} {ks' : List ℕ} → Seen v v' (nodes_of v) (matches_of v) ks' → Seen u v' ns ms (marks_of v')
  seen_more e = record { same = same_then h.same e.same; nodes = e.nodes ∙ h.nodes; matches = e.matches ∙ h.matches; marks = refl }

-- the slots are given: the nodes change, matches and marks stay
module _ {u v : Notes} {ms ks : List ℕ} (h : Seen u v (nodes_of v) ms ks) where
  pub held_seen : (i : ℕ) (r : Option ℕ) → HoldsSlot (slot_by (nodes_of v) (get_or (matches_of v) i 0)) r → HoldsSlot (slot_by (nodes_of v) (get_or ms i 0)) r
  held_seen i r e = rw h.matches at e

  pub slot_seen : (i s : ℕ) → s ≡ slot_by (nodes_of v) (get_or (matches_of v) i 0)
      → s ≡ slot_by (nodes_of v) (get_or ms i 0)
  slot_seen i s e = rw h.matches at e

  pub got_then : {s a s' : ℕ} {r : Option ℕ} {n n' : List ℕ} → Got (marks_of v) v.slots s r n a n' s' → Got ks u.slots s r n a n' s'
  got_then g = rw (h.marks, h.same.slots) at g

  -- of a node of the new tree
  pub got_new_then : (a : ℕ) {s s' : ℕ} {r : Option ℕ} {n n' : List ℕ} → Got (marks_of v) v.slots s r n (v.slots + a) n' s' → Got ks u.slots s r n (u.slots + a) n' s'
  got_new_then a g = rw h.same.slots at (got_then g)

  pub seen_given : {v' : Notes} → Seen v v' (nodes_of v') (matches_of v) (marks_of v) → Seen u v' (nodes_of v') ms ks
  seen_given e = record { same = same_then h.same e.same; nodes = refl; matches = e.matches ∙ h.matches; marks = e.marks ∙ h.marks }
