-- A parse on its way, with the nodes that it has written: what it comes to from here is what it comes to from the start, and a derivation of the symbols that are left
-- completes one of the start symbol.
use Rattle.std.specs.Prelude.{ℕ, zero, suc, ◌+◌, ◌≤◌, ◌<◌, ◌≡◌, refl, List, [], ◌∷◌, ◌++◌, length}
use Rattle.std.proofs.Common.{ap, ◌∙◌, append_assoc, append-nil, length-append, arith}
use Rattle.grammar.specs.Grammar.{Grammar, Rule, Terminal}
use Rattle.grammar.specs.Prediction.{Predicts}
use Rattle.grammar.specs.Forest.{Token}
use Rattle.trees.specs.Nodes.{Node, leaf_node, inner_node, Lists, leaves_of}
use Rattle.plain.specs.Plain.{ahead, Verdict, accepted, Runs, accepts, matches, expands, Parses}

-- the parse of w₀ with xs and w left, c nodes, i tokens matched, has written es
pub record Parsing (G : Grammar) (S : ℕ) (w₀ : List Token) (xs : List ℕ) (w : List Token) (c i : ℕ) (es : List Node) : Type 0 where
  pub run : (v : Verdict) → Runs G S xs w c i v → Parses G S w₀ v
  pub lists : (es' : List Node) → Lists G xs es' → leaves_of es' ≡ w → Lists G (G.start ∷ []) (es ++ es') × (leaves_of (es ++ es') ≡ w₀)
  pub count : c ≡ length es + length xs

module _ {G : Grammar} {S : ℕ} {w₀ : List Token} where
  pub parsing_start : Parsing G S w₀ (G.start ∷ []) w₀ 1 0 []
  parsing_start = record { run = λ v h. h; lists = λ es' h e. (h, e); count = refl }

  pub parsing_match : {xs : List ℕ} {w : List Token} {c i : ℕ} {es : List Node} (s M : ℕ) (k : Token) → Terminal G M → M ≡ k.kind
      → Parsing G S w₀ (M ∷ xs) (k ∷ w) c i es → Parsing G S w₀ xs w c (suc i) (es ++ (leaf_node s M k.tag ∷ []))
  parsing_match {xs} {w} {c} {i} {es} s M k t e h =
      let n : Node = leaf_node s M k.tag in
      record {
        run = λ v x. h.run v (matches t e x);
        lists = λ es' x y.
            let z : leaves_of (n ∷ es') ≡ k ∷ w = rw e (ap (λ (u : List Token). k ∷ u) y) in
            rw (append_assoc es (n ∷ []) es') (h.lists (n ∷ es') (Lists.leaf t x) z);
        count = omega (arith, h.count, length-append es (n ∷ []));
      }

  pub parsing_expand : {xs : List ℕ} {w : List Token} {c i : ℕ} {es : List Node} (s M p : ℕ) (γ : List ℕ) → Predicts G M (ahead w) p → Rule G p M γ → 0 < p → c + length γ ≤ S
      → Parsing G S w₀ (M ∷ xs) w c i es → Parsing G S w₀ (γ ++ xs) w (c + length γ) i (es ++ (inner_node s M p ∷ []))
  parsing_expand {xs} {w} {c} {i} {es} s M p γ a r l m h =
      let n : Node = inner_node s M p in
      record {
        run = λ v x. h.run v (expands a r m x);
        lists = λ es' x y. rw (append_assoc es (n ∷ []) es') (h.lists (n ∷ es') (Lists.node r x) (inner p l es' ∙ y));
        count = omega (arith, h.count, length-append es (n ∷ []), length-append γ xs);
      }
    where
      inner : (p : ℕ) → 0 < p → (es' : List Node) → leaves_of (inner_node s M p ∷ es') ≡ leaves_of es'
      inner zero l es' = absurd (omega arith)
      inner (suc p) l es' = refl

  -- nothing is left
  pub parsing_end : {c i : ℕ} {es : List Node} → Parsing G S w₀ [] [] c i es → Parses G S w₀ (accepted (length es)) × Lists G (G.start ∷ []) es × (leaves_of es ≡ w₀)
  parsing_end {c} {i} {es} h =
      let q : c ≡ length es = omega (arith, h.count) in
      let o = h.lists [] Lists.nil refl in
      (rw q at (h.run (accepted c) accepts), rw (append-nil es) at o.0, rw (append-nil es) at o.1)
