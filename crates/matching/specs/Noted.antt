-- What is known of the notes in a work area is known of the lists that they are, and the other way round.
use Rattle.std.specs.Prelude.{ℕ, ◌+◌, ◌≡◌, refl, List, get_or}
use Rattle.std.proofs.Common.{◌∙◌}
use Rattle.trees.specs.Nodes.{trees}
use Rattle.trees.specs.Coded.{node_at}
use Rattle.notes.specs.declared.Notes.{Notes}
use Rattle.notes.specs.Views.{nodes_in, matches_in}
use Rattle.notes.specs.Lists.{nodes_of, ends_of, widths_of, starts_of, matches_of, Lent, Same, same_then, Viewed}
use Rattle.matching.specs.Measure.{tree_in, Built, Measured, Spanned, Gauged}
use Rattle.matching.specs.Finding.{Leaved, Started}
use Rattle.matching.specs.Handing.{Rising, Few, Handed, HandedAll}
use Rattle.matching.specs.Matching.{Stepped, Reach, Turned}
use Rattle.matching.specs.Through.{Matches, Matching}

-- notes of one kind were written, and nothing else
abbrev pub Spans : Notes → Notes → Type 0
Spans u v = Viewed u v (nodes_of u) (ends_of v) (widths_of v) (starts_of u) (matches_of u)

abbrev pub Starts : Notes → Notes → Type 0
Starts u v = Viewed u v (nodes_of u) (ends_of u) (widths_of u) (starts_of v) (matches_of u)

abbrev pub Entries : Notes → Notes → Type 0
Entries u v = Viewed u v (nodes_of u) (ends_of u) (widths_of u) (starts_of u) (matches_of v)

-- nothing was written
pub viewed_all : (v : Notes) → Viewed v v (nodes_of v) (ends_of v) (widths_of v) (starts_of v) (matches_of v)
viewed_all v = record { same = record { name = refl; slots = refl }; nodes = refl; ends = refl; widths = refl; starts = refl; matches = refl }

module _ {u v : Notes} {ns es ws ss ms : List ℕ} (h : Viewed u v ns es ws ss ms) where
  -- notes of one kind were written, and then others of it
  pub spans_on : {v' : Notes} {es' ws' : List ℕ} → Viewed v v' (nodes_of v) es' ws' (starts_of v) (matches_of v) → Viewed u v' ns (ends_of v') (widths_of v') ss ms
  spans_on g = record { same = same_then h.same g.same; nodes = g.nodes ∙ h.nodes; ends = refl; widths = refl; starts = g.starts ∙ h.starts; matches = g.matches ∙ h.matches }

  pub starts_on : {v' : Notes} {ss' : List ℕ} → Viewed v v' (nodes_of v) (ends_of v) (widths_of v) ss' (matches_of v) → Viewed u v' ns es ws (starts_of v') ms
  starts_on g = record { same = same_then h.same g.same; nodes = g.nodes ∙ h.nodes; ends = g.ends ∙ h.ends; widths = g.widths ∙ h.widths; starts = refl; matches = g.matches ∙ h.matches }

  pub matches_on : {v' : Notes} {ms' : List ℕ} → Viewed v v' (nodes_of v) (ends_of v) (widths_of v) (starts_of v) ms' → Viewed u v' ns es ws ss (matches_of v')
  matches_on g = record { same = same_then h.same g.same; nodes = g.nodes ∙ h.nodes; ends = g.ends ∙ h.ends; widths = g.widths ∙ h.widths; starts = g.starts ∙ h.starts; matches = refl }

  -- of the lists, so of the work area
  pub built_in : {rows : List ℕ} {n base : ℕ} → Built rows ns n base → Built rows (nodes_of v) n base
  built_in g = rw h.nodes g

  pub measured_in : (rows : List ℕ) (n : ℕ) {base i : ℕ} {ends widths : List ℕ}
      → Measured (tree_in rows ns n base) base i ends widths
      → Measured (tree_in rows (nodes_of v) n base) base i ends widths
  measured_in rows n g = rw h.nodes g

  pub started_in : {n T : ℕ} → Started ns n T ss → Started (nodes_of v) n T (starts_of v)
  started_in g = rw (h.nodes, h.starts) g

  pub rising_in : {lo hi : ℕ} → Rising es lo hi → Rising (ends_of v) lo hi
  rising_in g = rw h.ends g

  pub rising_new_in : (k : ℕ) → Rising es u.slots (u.slots + k) → Rising (ends_of v) v.slots (v.slots + k)
  rising_new_in k g = rw (h.ends, h.same.slots) g

  pub leaved_in : {lo hi : ℕ} → Leaved ns es ws lo hi → Leaved (nodes_of v) (ends_of v) (widths_of v) lo hi
  leaved_in g = rw (h.nodes, h.ends, h.widths) g

  pub leaved_new_in : (k : ℕ) → Leaved ns es ws u.slots (u.slots + k) → Leaved (nodes_of v) (ends_of v) (widths_of v) v.slots (v.slots + k)
  leaved_new_in k g = leaved_in (rw h.same.slots g)

  pub width_in : (x : ℕ) {r : ℕ} → r ≡ get_or ws x 0 → r ≡ get_or (widths_of v) x 0
  width_in x g = rw h.widths g

  pub handed_in : {c d base : ℕ} {ms₀ ms₁ : List ℕ} → Handed ws c d base ms₀ ms₁ → Handed (widths_of v) c d base ms₀ ms₁
  handed_in g = rw h.widths g

  -- of the work area, so of the lists
  pub production_out : (x p : ℕ) → p ≡ (node_at (nodes_of v) x).production → p ≡ (node_at ns x).production
  production_out x p g = rw h.nodes at g

  pub end_out : (x r : ℕ) → r ≡ get_or (ends_of v) x 0 → r ≡ get_or es x 0
  end_out x r g = rw h.ends at g

  pub spanned_out : (rows : List ℕ) (n : ℕ) {base i end width : ℕ} → Spanned (tree_in rows (nodes_of v) n base) base i end width → Spanned (tree_in rows ns n base) base i end width
  spanned_out rows n g = rw h.nodes at g

  pub gauged_out : (rows : List ℕ) (n : ℕ) {base i : ℕ} {ends₀ widths₀ ends widths : List ℕ} → Gauged (tree_in rows (nodes_of v) n base) base i ends₀ widths₀ ends widths
      → Gauged (tree_in rows ns n base) base i ends₀ widths₀ ends widths
  gauged_out rows n g = rw h.nodes at g

  pub started_out : {n T : ℕ} {starts : List ℕ} → Started (nodes_of v) n T starts → Started ns n T starts
  started_out g = rw h.nodes at g

  pub handed_out : {c d base : ℕ} {ms₀ ms₁ : List ℕ} → Handed (widths_of v) c d base ms₀ ms₁ → Handed ws c d base ms₀ ms₁
  handed_out g = rw h.widths at g

  pub handed_all_out : {base i j : ℕ} {ms₀ ms₁ : List ℕ} → HandedAll (ends_of v) (widths_of v) base i j ms₀ ms₁ → HandedAll es ws base i j ms₀ ms₁
  handed_all_out g = rw (h.ends, h.widths) at g

  pub stepped_out : {base i t i' t' : ℕ} → Stepped (nodes_of v) base i t i' t' → Stepped ns base i t i' t'
  stepped_out g = rw h.nodes at g

  pub reach_out : {base place inserted i t stop : ℕ} → Reach (ends_of v) (widths_of v) base place inserted i t stop → Reach es ws base place inserted i t stop
  reach_out g = rw (h.ends, h.widths) at g

  pub turned_out : {n T base place removed inserted i t i' t' : ℕ} {ms₀ ms₁ : List ℕ} → Turned (nodes_of v) (ends_of v) (widths_of v) n T base place removed inserted i t ms₀ i' t' ms₁
      → Turned ns es ws n T base place removed inserted i t ms₀ i' t' ms₁
  turned_out g = rw (h.nodes, h.ends, h.widths) at g

  pub matches_out : {n base k T place removed inserted : ℕ} {ms₁ : List ℕ} → Matches (nodes_of v) n base k (ends_of v) (widths_of v) T (starts_of v) place removed inserted ms₁
      → Matches ns n base k es ws T ss place removed inserted ms₁
  matches_out g = rw (h.nodes, h.ends, h.widths, h.starts) at g

  -- the same of the new tree, whose nodes stand from node `slots` on
  pub handed_new_out : {c d : ℕ} {ms₀ ms₁ : List ℕ} → Handed (widths_of v) c d v.slots ms₀ ms₁ → Handed ws c d u.slots ms₀ ms₁
  handed_new_out g = rw h.same.slots at (handed_out g)

  pub handed_all_new_out : {i j : ℕ} {ms₀ ms₁ : List ℕ} → HandedAll (ends_of v) (widths_of v) v.slots i j ms₀ ms₁ → HandedAll es ws u.slots i j ms₀ ms₁
  handed_all_new_out g = rw h.same.slots at (handed_all_out g)

  pub stepped_new_out : {i t i' t' : ℕ} → Stepped (nodes_of v) v.slots i t i' t' → Stepped ns u.slots i t i' t'
  stepped_new_out g = rw h.same.slots at (stepped_out g)

  pub reach_new_out : {place inserted i t stop : ℕ} → Reach (ends_of v) (widths_of v) v.slots place inserted i t stop → Reach es ws u.slots place inserted i t stop
  reach_new_out g = rw h.same.slots at (reach_out g)

  pub turned_new_out : {n T place removed inserted i t i' t' : ℕ} {ms₀ ms₁ : List ℕ} → Turned (nodes_of v) (ends_of v) (widths_of v) n T v.slots place removed inserted i t ms₀ i' t' ms₁
      → Turned ns es ws n T u.slots place removed inserted i t ms₀ i' t' ms₁
  turned_new_out g = rw h.same.slots at (turned_out g)

  pub matches_new_out : {n k T place removed inserted : ℕ} {ms₁ : List ℕ} → Matches (nodes_of v) n v.slots k (ends_of v) (widths_of v) T (starts_of v) place removed inserted ms₁
      → Matches ns n u.slots k es ws T ss place removed inserted ms₁
  matches_new_out g = rw h.same.slots at (matches_out g)

-- the work area that was lent
module _ {v : Notes} {S : ℕ} {w : List ℕ} (e : Lent v S w) where
  pub built_lent : {rows : List ℕ} {n base : ℕ} → Built rows (nodes_in S w) n base → Built rows (nodes_of v) n base
  built_lent g = rw (e.bytes, e.slots) g

  pub new_lent : {rows : List ℕ} {k : ℕ} → Built rows (nodes_in S w) k S → Built rows (nodes_of v) k v.slots
  new_lent g = rw (e.bytes, e.slots) g

  pub one_lent : (rows : List ℕ) (k : ℕ) → trees (tree_in rows (nodes_in S w) k S) ≡ 1 → trees (tree_in rows (nodes_of v) k v.slots) ≡ 1
  one_lent rows k g = rw (e.bytes, e.slots) g

  pub matching_lent : {rows : List ℕ} {n k place removed inserted : ℕ} {v' : Notes} {w' : List ℕ} → Same v v' → w' ≡ v'.work.now → Matching rows (nodes_of v) n v.slots k place removed inserted (matches_of v')
      → Matching rows (nodes_in S w) n S k place removed inserted (matches_in S w')
  matching_lent s q g = rw (s.slots, ← q, e.bytes, e.slots) at g

  pub few_lent : {n : ℕ} {v' : Notes} {w' : List ℕ} → Same v v' → w' ≡ v'.work.now → Few n (matches_of v') → Few n (matches_in S w')
  few_lent s q g = rw (s.slots, ← q, e.slots) at g

  pub nodes_lent : {v' : Notes} {w' : List ℕ} → Same v v' → w' ≡ v'.work.now → nodes_of v' ≡ nodes_of v → nodes_in S w' ≡ nodes_in S w
  nodes_lent s q g = rw (s.slots, ← q, e.bytes, e.slots) at g
