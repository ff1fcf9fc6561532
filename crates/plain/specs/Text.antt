-- The tokens of a parse stand in the work area, behind the room for its nodes; its stack stands behind them.
-- So nothing that the parse writes touches them.
use Rattle.std.specs.Prelude.{ℕ, ◌+◌, ◌*◌, ◌≤◌, ◌<◌, ◌≡◌, List, length, take, drop, set}
use Rattle.std.proofs.Common.{sym, ◌∙◌, length-set, ext_get_or, get_or-set_other, arith}
use Rattle.std.proofs.Math.ListN.{length-take, length-drop}
use Rattle.std.proofs.Math.Seq.{get_or-take, get_or-drop}
use Rattle.base.specs.Bytes.{byte_at}
use Rattle.base.specs.Filled.{Filled}
use Rattle.trees.specs.Nodes.{Node}
use Rattle.trees.specs.Coded.{node_size}
use Rattle.trees.specs.Listing.{Put}
use Rattle.plain.specs.Tokens.{token_size}

-- what a parse of m tokens into S slots takes: the nodes, the tokens and the stack
abbrev pub parse_size : ℕ → ℕ → ℕ
parse_size S m = node_size * S + token_size * m + S

-- the bytes of m tokens behind the room for S nodes
unfoldable pub text_in : ℕ → ℕ → List ℕ → List ℕ
text_in S m w = take (token_size * m) (drop (node_size * S) w)

module _ (S m : ℕ) where
  -- each of them, and how many they are
  pub text_byte : (w : List ℕ) (j : ℕ) → j < token_size * m → byte_at (text_in S m w) j ≡ byte_at w (node_size * S + j)
  unfolding text_in
  text_byte w j l = get_or-take (token_size * m) (drop (node_size * S) w) j 0 l ∙ get_or-drop (node_size * S) w j 0

  pub text_long : (w : List ℕ) → node_size * S + token_size * m ≤ length w → length (text_in S m w) ≡ token_size * m
  unfolding text_in
  text_long w l = omega (arith, length-take (token_size * m) (drop (node_size * S) w), length-drop (node_size * S) w)

  text_kept : (w w' : List ℕ) → node_size * S + token_size * m ≤ length w → length w' ≡ length w
      → ((j : ℕ) → node_size * S ≤ j → j < node_size * S + token_size * m → byte_at w' j ≡ byte_at w j)
      → text_in S m w' ≡ text_in S m w
  text_kept w w' room l h =
      let x = text_long w room in
      let y = text_long w' (omega (arith, l, room)) in
      ext_get_or 0 (text_in S m w') (text_in S m w) (y ∙ sym x)
      (λ j i.
      let k : j < token_size * m = omega (arith, y) in
      text_byte w' j k ∙ h (node_size * S + j) (omega arith) (omega arith) ∙ sym (text_byte w j k))

  -- they are what they were after a node, a body or the start symbol is written
  module _ {w w' : List ℕ} (room : node_size * S + token_size * m ≤ length w) where
    pub text_put : {o : ℕ} {e : Node} → Put w o e w' → o < S → text_in S m w' ≡ text_in S m w
    text_put u l = text_kept w w' room u.long (λ j a b. u.behind j (omega arith))

    pub text_filled : {f : ℕ → ℕ} {d k : ℕ} → Filled f d k w w' → node_size * S + token_size * m ≤ d
        → text_in S m w' ≡ text_in S m w
    text_filled u l = text_kept w w' room u.long (λ j a b. u.before j (omega arith))

  pub text_begun : (w : List ℕ) (p x : ℕ) → node_size * S + token_size * m ≤ length w → node_size * S + token_size * m ≤ p
      → text_in S m (set w p x) ≡ text_in S m w
  text_begun w p x room l = text_kept w (set w p x) room (length-set w p x) (λ j a b. get_or-set_other w p j x 0 (omega arith))
