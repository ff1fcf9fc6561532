-- A sentence is accepted exactly when it has a derivation tree that fits the slots; it has one at most.
use Rattle.std.specs.Prelude.{ℕ, ◌+◌, ◌≤◌, ◌<◌, ◌≡◌, refl, ◌↔◌, List, [], ◌∷◌, ◌++◌, length}
use Rattle.std.proofs.Common.{sym, ap, ◌∙◌, subst, append-nil, length-append, arith}
use Rattle.base.specs.Choose.{never}
use Rattle.grammar.specs.Each.{Each}
use Rattle.grammar.specs.Grammar.{Grammar}
use Rattle.grammar.specs.Derivation.{stop}
use Rattle.grammar.specs.Prediction.{Prepared}
use Rattle.grammar.specs.Forest.{Token, Forest, size, yield, Derives, Tree}
use Rattle.grammar.specs.Trees.{node_over}
use Rattle.plain.specs.Plain.{Verdict, accepted, out_of_room, Runs, accepts, matches, expands, crowded, stuck, Parses}
use Rattle.plain.specs.Traced.{Traced, Same, through, full, traced, same}
use Rattle.plain.specs.Exactly.{Fitting}

-- what an accepting parse has built from the symbols that were left
record Built (G : Grammar) (S : ℕ) (xs : List ℕ) (w : List Token) (c n : ℕ) : Type 0 where
  forest : Forest
  derives : Derives G xs forest
  yields : yield forest ≡ w
  count : n + length xs ≡ c + size forest
  fits : n ≤ S

module _ {G : Grammar} {S : ℕ} where
  sound : {xs : List ℕ} {w : List Token} {c i : ℕ} {v : Verdict} (n : ℕ) → Runs G S xs w c i v → c ≤ S → v ≡ accepted n → Built G S xs w c n
  sound n (accepts {c = c}) l e =
      let z : c ≡ n = cc in record { forest = Forest.nil; derives = Derives.nil; yields = refl; count = omega (arith, z); fits = rw z at l }
  sound n (matches {M = M} {k = k} {xs = xs} t q h) l e =
      let b = sound n h l e in
      let d : Derives G (M ∷ xs) (Forest.leaf 0 k.kind k.tag b.forest) = rw q (Derives.leaf (rw q at t) b.derives) in
      record {
        forest = Forest.leaf 0 k.kind k.tag b.forest;
        derives = d;
        yields = ap (λ (u : List Token). k ∷ u) b.yields;
        count = omega (arith, b.count);
        fits = b.fits;
      }
  sound n (expands {γ = γ} {xs = xs} x r m h) l e =
      let b = sound n h m e in
      let q = node_over γ r b.derives in
      record { forest = q.0; derives = q.1; yields = q.2 ∙ b.yields; count = omega (arith, b.count, length-append γ xs, q.3); fits = b.fits }
  sound n (crowded x r m) l e = never (cc)
  sound n (stuck m d) l e = never (cc)

module _ {G : Grammar} where
  whole : {w : List Token} (T : Tree G G.start w) → Traced G 0 T.tree
  whole T = traced [] [] [] T.derives Each.nil stop stop

  -- "A sentence is accepted exactly when it has a derivation tree that fits the slots"; the count is that of its nodes
  pub accepted_exactly : (S : ℕ) (w : List Token) (n : ℕ) → 1 ≤ S → Parses G S w (accepted n) ↔ Fitting G S w n
  accepted_exactly S w n l = (
    λ h. let b = sound n h l refl in
        record { tree = record { tree = b.forest; derives = b.derives; yields = b.yields }; nodes = omega (arith, b.count); fits = b.fits },
    λ f. let T = f.tree in
        let h = through {S = S} [] [] (accepted n) 1 n 0 T.derives (whole T) (omega (arith, f.nodes)) f.fits accepts in
        subst (λ (u : List Token). Parses G S u (accepted n)) (append-nil (yield T.tree) ∙ T.yields) h,
  )

  -- reply 10, if it has one that doesn't
  pub too_large : (S : ℕ) (w : List Token) → 1 ≤ S → (T : Tree G G.start w) → S < size T.tree → Parses G S w out_of_room
  too_large S w l T m =
      subst (λ (u : List Token). Parses G S u out_of_room) (append-nil (yield T.tree) ∙ T.yields)
      (full {S = S} [] [] 1 0 T.derives (whole T) l (omega (arith, m)))

  -- a sentence has one derivation tree at most, but for slots
  pub tree_one : Prepared G → {w : List Token} (T U : Tree G G.start w) → Same T.tree U.tree
  tree_one g T U = (same g [] [] T.derives U.derives (whole T) (whole U) (ap (λ (u : List Token). u ++ []) (T.yields ∙ sym U.yields))).0
