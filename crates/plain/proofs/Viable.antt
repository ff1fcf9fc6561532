-- Reply 9's place: how many tokens are in the longest beginning of the sentence that also begins some sentence of the language.
use Rattle.std.specs.Prelude.{ℕ, ◌+◌, ◌≤◌, ◌≡◌, refl, List, [], ◌∷◌, ◌++◌, length}
use Rattle.std.proofs.Common.{sym, ap, ◌∙◌, subst, append_assoc, append-nil, arith}
use Rattle.std.proofs.Math.Logic.{by_cases}
use Rattle.std.proofs.Math.Decide.{dec_lt}
use Rattle.base.specs.Choose.{never}
use Rattle.grammar.specs.Limits.{end_mark}
use Rattle.grammar.specs.Each.{Each, each_join}
use Rattle.grammar.specs.Grammar.{Grammar, SymbolOf}
use Rattle.grammar.specs.Rules.{rule_one, rule_allowed}
use Rattle.grammar.specs.Derivation.{at, Steps, stop, then}
use Rattle.grammar.specs.Prediction.{Predicts, Prepared}
use Rattle.grammar.specs.Single.{ll1_one}
use Rattle.grammar.specs.Forest.{Token, kinds, Forest, yield, Derives}
use Rattle.grammar.specs.Trees.{join, yield_join, derives_join, node_over, trans, steps_in, forest_of}
use Rattle.sets.specs.Decidable.{useful_productive}
use Rattle.plain.specs.Plain.{ahead, Expects, prediction, itself, end, Verdict, syntax, Runs, accepts, matches, expands, crowded, stuck, Parses}
use Rattle.plain.specs.One.{no_rule}
use Rattle.plain.specs.Traced.{Traced, front_append, traced}
use Rattle.plain.specs.Viable.{Longest}

-- ---- no longer beginning is viable

expects_of : {G : Grammar} {xs : List ℕ} {f : Forest} → Derives G xs f → Traced G end_mark f → Expects G xs (ahead (yield f))
expects_of Derives.nil Traced.nil = end
expects_of (Derives.leaf t d) (Traced.leaf b) = itself t
expects_of {G} (Derives.node {M = M} {p = p} {xs = xs} {k = k} {r = f} r e d) (Traced.node x b c) =
    let j : Predicts G M (ahead (yield k ++ yield f)) p = rw (front_append (yield k) (yield f) end_mark) x in
    prediction j

module _ {G : Grammar} {S : ℕ} where
  later : {xs : List ℕ} {w : List Token} {c i : ℕ} {v : Verdict} (j e : ℕ) → Runs G S xs w c i v → v ≡ syntax j e → i ≤ j
  later j e accepts q = never (cc)
  later j e (matches t z h) q = omega (arith, later j e h q)
  later j e (expands x r l h) q = later j e h q
  later j e (crowded x r l) q = never (cc)
  later j e (stuck {i = i} n d) q = let z : i ≡ j = cc in omega (arith, z)

top : {G : Grammar} {s M p : ℕ} {k r : Forest} → Traced G end_mark (Forest.node s M p k r) → Predicts G M (ahead (yield k ++ yield r)) p
top {G} {M = M} {p = p} {k = k} {r = r} (Traced.node x b c) = rw (front_append (yield k) (yield r) end_mark) x

module _ {G : Grammar} (g : Prepared G) where
  in_sentence : (α : List ℕ) {xs : List ℕ} {f : Forest} → Steps G (G.start ∷ []) (α ++ xs) → Derives G xs f → Traced G end_mark f
  in_sentence α {xs} s d = traced α [] [] d Each.nil (rw (append-nil xs) s) stop

  beyond : {S : ℕ} {xs : List ℕ} {w : List Token} {c i : ℕ} {v : Verdict} (j e : ℕ) → Runs G S xs w c i v → v ≡ syntax j e
      → (α : List ℕ) → Steps G (G.start ∷ []) (α ++ xs) → {f : Forest} → Derives G xs f → (u v' x : List Token) → w ≡ u ++ v' → yield f ≡ u ++ x
      → i + length u ≤ j
  beyond j e h q α s d [] v' x y z = omega (arith, later j e h q)
  beyond j e accepts q α s d (k ∷ u) v' x y z = never (cc)
  beyond j e (crowded a r l) q α s d (k ∷ u) v' x y z = never (cc)
  beyond j e (stuck {xs = xs} n m) q α s {f} d (k ∷ u) v' x y z =
      let a : Expects G xs k.kind = subst (λ (o : List Token). Expects G xs (ahead o)) z (expects_of d (in_sentence α s d)) in
      absurd (n (subst (λ (o : List Token). Expects G xs (ahead o)) (sym y) a))
  beyond j e (matches {M = M} {xs = xs} {w = w} t m h) q α s (Derives.leaf {r = f} t' d) (k ∷ u) v' x y z =
      let y' : w ≡ u ++ v' = cc in
      let z' : yield f ≡ u ++ x = cc in
      omega (arith, beyond {xs = xs} j e h q (α ++ M ∷ []) (rw (append_assoc α (M ∷ []) xs) s) d u v' x y' z')
  beyond j e (matches t m h) q α s (Derives.node r b d) (k ∷ u) v' x y z = no_rule g t r
  beyond j e (expands a r l h) q α s (Derives.leaf t d) (k ∷ u) v' x y z = no_rule g t r
  beyond j e (expands {M = M} {p = p} {γ = γ} {xs = xs} a r l h) q α s (Derives.node {s = o} {p = p'} {k = b} {r = f} r' c d) (k ∷ u) v' x y z =
      let m : Predicts G M k.kind p = subst (λ (o : List Token). Predicts G M (ahead o) p) y a in
      let m' : Predicts G M k.kind p' = subst (λ (o : List Token). Predicts G M (ahead o) p') z (top (in_sentence α s (Derives.node {s = o} r' c d))) in
      let n : p' ≡ p = ll1_one g.ll1 m' m in
      let γ' = (rule_one (rw n at r') r).1 in
      beyond {xs = γ ++ xs} j e h q α
      (trans s (simp (append_assoc, append-nil) at (steps_in α xs (then (at [] [] r) stop))))
      (derives_join (rw γ' at c) d) (k ∷ u) v' x y (yield_join b f ∙ z)

-- ---- and the tokens that were matched are

-- some forest of any symbols
untagged : List ℕ → List Token
untagged [] = []
untagged (a ∷ w) = record { kind = a; tag = 0 } ∷ untagged w

kinds_untagged : (w : List ℕ) → kinds (untagged w) ≡ w
unfolding untagged
kinds_untagged [] = refl
kinds_untagged (a ∷ w) = ap (λ (u : List ℕ). a ∷ u) (kinds_untagged w)

-- what a parse has matched, begun by the symbols that were left
record Begun (G : Grammar) (xs : List ℕ) (w : List Token) (i j : ℕ) : Type 0 where
  beginning : List Token
  rest : List Token
  is : w ≡ beginning ++ rest
  tokens : i + length beginning ≡ j
  forest : Forest
  derives : Derives G xs forest
  more : List Token
  yields : yield forest ≡ beginning ++ more

module _ {G : Grammar} (g : Prepared G) where
  grown : {X : ℕ} → SymbolOf G.t G.n X → (f : Forest) × Derives G (X ∷ []) f
  grown {X} s =
      by_cases (dec_lt G.t X)
      (λ l. let p = useful_productive G g.formed g.useful X (l, s.1) in
      let e = kinds_untagged p.0 in
      let q = forest_of {xs = X ∷ []} (untagged p.0) (rw e p.1) (rw e p.2) in
      (q.0, q.1))
      (λ l. (Forest.leaf 0 X 0 Forest.nil, Derives.leaf (s.0, omega (arith, l)) Derives.nil))

  grown_all : {xs : List ℕ} → Each (SymbolOf G.t G.n) xs → (f : Forest) × Derives G xs f
  grown_all Each.nil = (Forest.nil, Derives.nil)
  grown_all (Each.cons s t) = let a = grown s in let b = grown_all t in (join a.0 b.0, derives_join a.1 b.1)

  begun : {S : ℕ} {xs : List ℕ} {w : List Token} {c i : ℕ} {v : Verdict} (j e : ℕ) → Runs G S xs w c i v → v ≡ syntax j e
      → Each (SymbolOf G.t G.n) xs → Begun G xs w i j
  begun j e accepts q t = never (cc)
  begun j e (crowded x r l) q t = never (cc)
  begun j e (stuck {i = i} {w = w} n d) q t =
      let f = grown_all t in
      let z : i ≡ j = cc in
      record { beginning = []; rest = w; is = refl; tokens = omega (arith, z); forest = f.0; derives = f.1; more = yield f.0; yields = refl }
  begun j e (matches {M = M} {k = k} {xs = xs} a m h) q (Each.cons s t) =
      let b = begun j e h q t in
      let d : Derives G (M ∷ xs) (Forest.leaf 0 k.kind k.tag b.forest) = rw m (Derives.leaf (rw m at a) b.derives) in
      record {
        beginning = k ∷ b.beginning;
        rest = b.rest;
        is = ap (λ (u : List Token). k ∷ u) b.is;
        tokens = omega (arith, b.tokens);
        forest = Forest.leaf 0 k.kind k.tag b.forest;
        derives = d;
        more = b.more;
        yields = ap (λ (u : List Token). k ∷ u) b.yields;
      }
  begun j e (expands {γ = γ} x r l h) q (Each.cons s t) =
      let b = begun j e h q (each_join (rule_allowed g.formed r).symbols t) in
      let o = node_over γ r b.derives in
      record {
        beginning = b.beginning;
        rest = b.rest;
        is = b.is;
        tokens = b.tokens;
        forest = o.0;
        derives = o.1;
        more = b.more;
        yields = o.2 ∙ b.yields;
      }

  -- "With reply 9, its place equals the number of tokens in the longest beginning of the sentence that also begins some sentence of the language"
  pub place_longest : {S : ℕ} {w : List Token} (i e : ℕ) → Parses G S w (syntax i e) → Longest G w i
  place_longest i e h =
      let m = g.formed.head.start in
      let b = begun i e h refl (Each.cons (omega (arith, m.0), m.1) Each.nil) in
      record {
        beginning = b.beginning;
        rest = b.rest;
        is = b.is;
        tokens = omega (arith, b.tokens);
        viable = record { rest = b.more; tree = record { tree = b.forest; derives = b.derives; yields = b.yields } };
        longest = λ u v y o. omega (arith, beyond g i e h refl [] stop o.tree.derives u v o.rest y o.tree.yields);
      }
