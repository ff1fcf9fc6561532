-- The leaves of a node list, written or passed over in their order.
use Prim.Native.Nat.{ℕ, zero, suc, ◌+◌, ◌-◌, ◌*◌, ◌≤◌, ◌<◌}
use Rattle.std.specs.Prelude.{◌≡◌, refl, List, [], ◌∷◌, ◌++◌, length, take, drop}
use Rattle.std.proofs.Math.Path.{sym}
use Rattle.std.proofs.Common.{ap, ◌∙◌, append_assoc, append-nil, drop_of_length-le, take_all, take_at, drop_at}
use Rattle.std.proofs.Math.Seq.{drop-nil}
use native.Mathlib.Omega.{arith}
use Rattle.base.specs.Bytes.{le_bytes}
use Rattle.base.specs.Blocks.{copied}
use Rattle.grammar.specs.Forest.{Token}
use Rattle.trees.specs.Nodes.{Node, leaves_of}
use Rattle.trees.specs.Coded.{node_at, nodes_from}
use Rattle.plain.specs.Tokens.{token_size, token_bytes}
use Rattle.sentences.specs.Adding.{Added, added_none, added_copy, added_more}

-- the tokens of the leaves among n nodes, from node i on
unfoldable pub leaves_from : List ℕ → ℕ → ℕ → List Token
leaves_from nodes n i = leaves_of (nodes_from nodes (n - i) i)

pub leaves_whole : (nodes : List ℕ) (n : ℕ) → leaves_from nodes n 0 ≡ leaves_of (nodes_from nodes n 0)
unfolding leaves_from
leaves_whole nodes n = let q : n - 0 ≡ n = omega arith in rw q

module _ (nodes : List ℕ) (n i : ℕ) where
  leaves_none : n ≤ i → leaves_from nodes n i ≡ []
  unfolding leaves_from
  leaves_none l = let q : n - i ≡ 0 = omega arith in rw q

  -- node i is e
  module _ (e : Node) (l : i < n) (is : e ≡ node_at nodes i) where
    leaves_inner : (e.production ≡ 0 → ⊥) → leaves_from nodes n i ≡ leaves_from nodes n (i + 1)
    unfolding leaves_from
    leaves_inner z = let q : n - i ≡ suc (n - (i + 1)) = omega arith in rw (q, ← is) (go e.production refl)
      where
        go : (p : ℕ) → e.production ≡ p → leaves_of (e ∷ nodes_from nodes (n - (i + 1)) (i + 1)) ≡ leaves_of (nodes_from nodes (n - (i + 1)) (i + 1))
        go zero y = absurd (z y)
        go (suc p) y = rw y

    leaves_leaf : e.production ≡ 0 → leaves_from nodes n i ≡ record { kind = e.symbol; tag = e.tag } ∷ leaves_from nodes n (i + 1)
    unfolding leaves_from
    leaves_leaf z = let q : n - i ≡ suc (n - (i + 1)) = omega arith in rw (q, ← is, z)

-- ---- written

-- the leaves from node `from` on to node i are written from token `at` on to token j
pub record Giving (nodes : List ℕ) (n from : ℕ) (out : List ℕ) (at i j : ℕ) (out' : List ℕ) : Type 0 where
  pub given : List Token
  pub added : Added given out out' at j
  pub rest : leaves_from nodes n from ≡ given ++ leaves_from nodes n i

-- the leaves from node `from` on are written from token `at` on, as far as token `end`, the last one before token j; those from node i on are the others
pub record Gave (nodes : List ℕ) (n from : ℕ) (out : List ℕ) (at end i j : ℕ) (out' : List ℕ) : Type 0 where
  pub added : Added (take (end - at) (leaves_from nodes n from)) out out' at j
  pub rest : leaves_from nodes n i ≡ drop (end - at) (leaves_from nodes n from)

module _ (nodes : List ℕ) (n from : ℕ) (out : List ℕ) (at : ℕ) where
  pub giving_none : Giving nodes n from out at from at out
  giving_none = record { given = []; added = added_none out at; rest = refl }

  module _ (i j : ℕ) (out' : List ℕ) (h : Giving nodes n from out at i j out') where
    pub giving_inner : (e : Node) → i < n → e ≡ node_at nodes i → (e.production ≡ 0 → ⊥) → Giving nodes n from out at (i + 1) j out'
    giving_inner e l is z = record { given = h.given; added = h.added; rest = h.rest ∙ ap (λ (u : List Token). h.given ++ u) (leaves_inner nodes n i e l is z) }

    pub giving_leaf : (e : Node) (out'' : List ℕ) → i < n → e ≡ node_at nodes i → e.production ≡ 0
        → length out' ≡ length out → token_size * (j + 1) ≤ length out → out'' ≡ copied out' (token_size * j) (e.symbol ∷ le_bytes 4 e.tag) → Giving nodes n from out at (i + 1) (j + 1) out''
    giving_leaf e out'' l is z lo room c =
        let k : Token = record { kind = e.symbol; tag = e.tag } in
        let s : e.symbol ∷ le_bytes 4 e.tag ≡ token_bytes (k ∷ []) = rw (append-nil (le_bytes 4 e.tag)) in
        let a : Added (k ∷ []) out' out'' j (j + 1) = added_copy (k ∷ []) out' out'' (e.symbol ∷ le_bytes 4 e.tag) j (j + 1) s refl (omega arith) c in
        record {
          given = h.given ++ (k ∷ []);
          added = added_more (omega arith) h.added a;
          rest = h.rest ∙ ap (λ (u : List Token). h.given ++ u) (leaves_leaf nodes n i e l is z) ∙ sym (append_assoc h.given (k ∷ []) (leaves_from nodes n (i + 1)));
        }

    -- as far as token `end`
    pub gave_full : (end : ℕ) → j ≡ end → Gave nodes n from out at end i j out'
    gave_full end e =
        let v : List Token = leaves_from nodes n i in
        let c : length h.given ≡ end - at = omega (arith, h.added.count) in
        let t : take (end - at) (leaves_from nodes n from) ≡ h.given = rw h.rest (take_at h.given v (end - at) c) in
        let d : drop (end - at) (leaves_from nodes n from) ≡ v = rw h.rest (drop_at h.given v (end - at) c) in
        record { added = rw t h.added; rest = sym d }

    -- or all of them
    pub gave_all : (end : ℕ) → n ≤ i → j ≤ end → Gave nodes n from out at end i j out'
    gave_all end l m =
        let z = leaves_none nodes n i l in
        let c : leaves_from nodes n from ≡ h.given = h.rest ∙ ap (λ (u : List Token). h.given ++ u) z ∙ append-nil h.given in
        let f : length h.given ≤ end - at = omega (arith, h.added.count) in
        record { added = rw (c, take_all (end - at) h.given f) h.added; rest = z ∙ sym (rw c (drop_of_length-le h.given {i = end - at} f)) }

    pub gave_end : (end : ℕ) → i ≡ n → j ≤ end → Gave nodes n from out at end n j out'
    gave_end end e m = rw e at (gave_all end (omega arith) m)

-- ---- passed over

-- the leaves from node i on, but for `left` of them, are those from node `from` on, but for k
pub record Skipped (nodes : List ℕ) (n from k i left : ℕ) : Type 0 where
  pub is : drop left (leaves_from nodes n i) ≡ drop k (leaves_from nodes n from)

module _ (nodes : List ℕ) (n from k : ℕ) where
  pub skipped_none : Skipped nodes n from k from k
  skipped_none = record { is = refl }

  module _ (i left : ℕ) (h : Skipped nodes n from k i left) where
    pub skipped_inner : (e : Node) → i < n → e ≡ node_at nodes i → (e.production ≡ 0 → ⊥) → Skipped nodes n from k (i + 1) left
    skipped_inner e l is z = record { is = rw (leaves_inner nodes n i e l is z) at h.is }

    pub skipped_leaf : (e : Node) → i < n → e ≡ node_at nodes i → e.production ≡ 0 → (left ≡ 0 → ⊥) → Skipped nodes n from k (i + 1) (left - 1)
    skipped_leaf e l is z o =
        let q : suc (left - 1) ≡ left = omega arith in
        let u : List Token = record { kind = e.symbol; tag = e.tag } ∷ leaves_from nodes n (i + 1) in
        record { is = ap (λ (x : ℕ). drop x u) q ∙ rw (leaves_leaf nodes n i e l is z) at h.is }

    -- k leaves
    pub skipped_full : left ≡ 0 → Skipped nodes n from k i 0
    skipped_full e = rw e at h

    -- or all of them
    pub skipped_all : n ≤ i → Skipped nodes n from k i 0
    skipped_all l = let z = leaves_none nodes n i l in record { is = z ∙ sym (drop-nil left) ∙ rw z at h.is }

    pub skipped_end : i ≡ n → Skipped nodes n from k n 0
    skipped_end e = rw e at (skipped_all (omega arith))
