-- The lists of a work area in use, and what a write leaves of them.
use Rattle.std.specs.Prelude.{ℕ, ◌+◌, ◌<◌, ◌≤◌, ◌≡◌, refl, List, length, set}
use Rattle.std.proofs.Common.{◌∙◌, arith}
use Rattle.base.specs.Bytes.{put16}
use Rattle.notes.specs.declared.Notes.{Notes}
use Rattle.notes.specs.Views as views
use Rattle.notes.specs.Views.{nodes_in, ends_in, widths_in, starts_in, matches_in, marks_in, width_place, note_at, notes_size, span_set}

abbrev pub nodes_of : Notes → List ℕ
nodes_of v = nodes_in v.slots v.work.now

abbrev pub ends_of : Notes → List ℕ
ends_of v = ends_in v.slots v.work.now

abbrev pub widths_of : Notes → List ℕ
widths_of v = widths_in v.slots v.work.now

abbrev pub starts_of : Notes → List ℕ
starts_of v = starts_in v.slots v.work.now

abbrev pub matches_of : Notes → List ℕ
matches_of v = matches_in v.slots v.work.now

abbrev pub marks_of : Notes → List ℕ
marks_of v = marks_in v.slots v.work.now

-- v is these bytes, with room for trees of S nodes
pub record Lent (v : Notes) (S : ℕ) (w : List ℕ) : Type 0 where
  pub slots : v.slots ≡ S
  pub bytes : v.work.now ≡ w

-- v is the work area u, written or not
pub record Same (u v : Notes) : Type 0 where
  pub name : v.work.ghost_name ≡ u.work.ghost_name
  pub slots : v.slots ≡ u.slots

pub same_then : {u v w : Notes} → Same u v → Same v w → Same u w
same_then e f = record { name = f.name ∙ e.name; slots = f.slots ∙ e.slots }

-- v is that, and these are its nodes and notes
pub record Viewed (u v : Notes) (ns es ws ss ms : List ℕ) : Type 0 where
  pub same : Same u v
  pub nodes : nodes_of v ≡ ns
  pub ends : ends_of v ≡ es
  pub widths : widths_of v ≡ ws
  pub starts : starts_of v ≡ ss
  pub matches : matches_of v ≡ ms

-- and these are its nodes, the matches and the marks
pub record Seen (u v : Notes) (ns ms ks : List ℕ) : Type 0 where
  pub same : Same u v
  pub nodes : nodes_of v ≡ ns
  pub matches : matches_of v ≡ ms
  pub marks : marks_of v ≡ ks

module _ {u v : Notes} (e : Same u v) where
  pub viewed : {ns es ws ss ms : List ℕ} → views.Viewed u.slots v.work.now ns es ws ss ms → Viewed u v ns es ws ss ms
  viewed h = record { same = e; nodes = rw e.slots h.nodes; ends = rw e.slots h.ends; widths = rw e.slots h.widths; starts = rw e.slots h.starts; matches = rw e.slots h.matches }

  pub seen : {ns ms ks : List ℕ} → views.Seen u.slots v.work.now ns ms ks → Seen u v ns ms ks
  seen h = record { same = e; nodes = rw e.slots h.nodes; matches = rw e.slots h.matches; marks = rw e.slots h.marks }

-- both numbers of a span are written
pub spans_set : (u u₁ v : Notes) (x end width : ℕ) → notes_size u.slots ≤ length u.work.now → x < u.slots + u.slots → Same u u₁ → u₁.work.now ≡ put16 u.work.now (note_at u.slots x + 0) end
    → Same u₁ v → v.work.now ≡ put16 u₁.work.now (note_at u₁.slots x + width_place) width → Viewed u v (nodes_of u) (set (ends_of u) x end) (set (widths_of u) x width) (starts_of u) (matches_of u)
spans_set u u₁ v x end width room l e f g h =
    let z : note_at u.slots x + 0 ≡ note_at u.slots x = omega arith in
    viewed (same_then e g) (span_set u.work.now u.slots room x (note_at u.slots x) end refl u₁.work.now v.work.now width l (rw z at f) (rw e.slots at h))
