-- The two trees of an edit, and what their sentences share.
use Rattle.std.specs.Prelude.{ℕ, zero, suc, ◌+◌, ◌≤◌, ◌<◌, ◌≡◌, refl, List, [], ◌∷◌, ◌++◌, length, take, drop}
use Rattle.std.proofs.Common.{ap, length-take-le, drop-drop, arith}
use Rattle.std.proofs.Math.Seq.{drop-append-add}
use Rattle.grammar.specs.Grammar.{Grammar}
use Rattle.grammar.specs.Prediction.{Prepared}
use Rattle.grammar.specs.Forest.{Token, Forest, yield, Derives}
use Rattle.plain.specs.Plain.{ahead}
use Rattle.edits.specs.Keeping.{Edit, edited, Kept, before, after, Altered}
use Rattle.edits.specs.Places.{tokens}
use Rattle.edits.specs.Guided.{Agree}

-- derivation trees of a sentence and of the edited one, with the place and the removed run inside the first
pub record Trees (G : Grammar) (e : Edit) (old new : Forest) : Type 0 where
  pub prepared : Prepared G
  pub first : Derives G (G.start ∷ []) old
  pub second : Derives G (G.start ∷ []) new
  pub room : e.place + e.removed ≤ tokens old
  pub yields : yield new ≡ edited e (yield old)

-- an edit's new tree makes such
pub altered_trees : {G : Grammar} {S kept made up : ℕ} {e : Edit} {old new : Forest} → Prepared G → Derives G (G.start ∷ []) old → e.place + e.removed ≤ tokens old
    → Altered G S e old new kept made up → Trees G e old new
altered_trees g d l w = record { prepared = g; first = d; second = w.derives; room = l; yields = w.yields }

-- a sentence agrees with another that begins with its first n tokens, below n
agree_take : (j n : ℕ) (w z : List Token) → j < n → n ≤ length w → Agree j w (take n w ++ z)
agree_take j zero w z h l = absurd (omega arith)
agree_take j (suc n) [] z h l = absurd (omega arith)
agree_take zero (suc n) (a ∷ w) z h l = refl
agree_take (suc j) (suc n) (a ∷ w) z h l = (refl, agree_take j n w z (omega arith) (omega arith))

-- so does a lookahead
ahead_take : (j n : ℕ) (w z : List Token) → j < n → n ≤ length w → ahead (drop j (take n w ++ z)) ≡ ahead (drop j w)
ahead_take j zero w z h l = absurd (omega arith)
ahead_take j (suc n) [] z h l = absurd (omega arith)
ahead_take zero (suc n) (a ∷ w) z h l = refl
ahead_take (suc j) (suc n) (a ∷ w) z h l = ahead_take j n w z (omega arith) (omega arith)

-- the tokens after the removed run
drop_edited : (e : Edit) (d : ℕ) (w : List Token) → e.place ≤ length w → drop (e.place + length e.inserted + d) (edited e w) ≡ drop (e.place + e.removed + d) w
drop_edited e d w l =
    let z : e.place + length e.inserted + d ≡ length (take e.place w) + (length e.inserted + d) = omega (arith, length-take-le e.place w l) in
    rw (
      z,
      drop-append-add (take e.place w) (e.inserted ++ drop (e.place + e.removed) w) (length e.inserted + d),
      drop-append-add e.inserted (drop (e.place + e.removed) w) d,
      drop-drop d (e.place + e.removed) w,
    )

module _ {G : Grammar} {e : Edit} {old new : Forest} (h : Trees G e old new) where
  -- before the place, and one token on, the sentences agree
  pub agree_before : (t : ℕ) → t < e.place → Agree t (yield old) (yield new)
  agree_before t l =
      let r = h.room in
      rw h.yields (agree_take t e.place (yield old) (e.inserted ++ drop (e.place + e.removed) (yield old)) l (omega arith))

  -- after the removed run they are the same
  pub same_after : (d : ℕ) → drop (e.place + length e.inserted + d) (yield new) ≡ drop (e.place + e.removed + d) (yield old)
  same_after d = let r = h.room in rw h.yields (drop_edited e d (yield old) (omega arith))

  -- at a kept token they have the same lookahead
  pub kept_ahead : {t' t : ℕ} → Kept e t' t → ahead (drop t' (yield new)) ≡ ahead (drop t (yield old))
  kept_ahead {t'} {t} (before x l) =
      let r = h.room in
      rw (h.yields, x) (ahead_take t e.place (yield old) (e.inserted ++ drop (e.place + e.removed) (yield old)) l (omega arith))
  kept_ahead (after d x y) = rw (x, y) (ap ahead (same_after d))
