-- The grammar image: which bytes are the image of which grammar, and which offset is that of the first bad record.
-- Document 01, "Symbols and the grammar image", and reply 1.
use Rattle.std.specs.Prelude.{◌≡◌, ℕ, List, [], ◌∷◌, ◌++◌, length}
use Rattle.grammar.specs.Limits.{record_mark, head_mark, production_mark}
use Rattle.grammar.specs.Grammar.{Production, Grammar, AllowedHead, WellFormed, extended}

-- "First `47 48`, t, n, start symbol"
abbrev pub head_bytes : ℕ → ℕ → ℕ → List ℕ
head_bytes t n s = record_mark ∷ head_mark ∷ t ∷ n ∷ s ∷ []

-- "`47 50`, left side, body length 0..8, body symbols"
abbrev pub production_bytes : Production → List ℕ
production_bytes P = record_mark ∷ production_mark ∷ P.left ∷ length P.body ∷ P.body

abbrev pub productions_bytes : List Production → List ℕ
productions_bytes [] = []
productions_bytes (P ∷ Ps) = production_bytes P ++ productions_bytes Ps

-- "The head must come first and only once", then the productions
abbrev pub image_of : Grammar → List ℕ
image_of G = head_bytes G.t G.n G.start ++ productions_bytes G.productions

-- the bytes are the image of G: "the slice's end must fall between records"
pub record Image (bytes : List ℕ) (G : Grammar) : Type 0 where
  pub formed : WellFormed G
  pub is : bytes ≡ image_of G

-- the bytes begin with the image of G, and `rest` follows: "After each record the rest of the image is read by the same rule"
pub record Begins (bytes : List ℕ) (G : Grammar) (rest : List ℕ) : Type 0 where
  pub formed : WellFormed G
  pub is : bytes ≡ image_of G ++ rest

-- no production that stands first in `rest` makes G longer ("a 129th is a bad record", too)
abbrev pub NoMore : Grammar → List ℕ → Type 0
NoMore G rest = (P : Production) (more : List ℕ) → WellFormed (extended G P) → rest ≡ production_bytes P ++ more → ⊥

-- the bytes begin with an allowed head
abbrev pub HeadFirst : List ℕ → Type 0
HeadFirst bytes = (t n s : ℕ) × (rest : List ℕ) × AllowedHead t n s × (bytes ≡ head_bytes t n s ++ rest)

-- reply 1: "a grammar record is bad, or the image is empty", with the "byte offset of the first bad one"
pub data Bad (bytes : List ℕ) : ℕ → Type 0 where
  bad_head : (HeadFirst bytes → ⊥) → Bad bytes 0
  bad_production : (G : Grammar) (rest : List ℕ) → Begins bytes G rest → (rest ≡ [] → ⊥) → NoMore G rest → Bad bytes (length (image_of G))
