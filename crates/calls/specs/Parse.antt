-- Meaning: the call parse.
use Rattle.std.specs.Prelude.{ℕ, zero, suc, ◌+◌, ◌≤◌, ◌≡◌, List, [], ◌∷◌}
use Rattle.grammar.specs.Grammar.{Grammar}
use Rattle.grammar.specs.Forest.{Token, Forest, size, yield, Derives}
use Rattle.trees.specs.Area.{slots, Area}
use Rattle.replies.specs.declared.Counts.{Counts}
use Rattle.calls.specs.Order.{Call, accept, counts, ◌>>=◌, ◌>>◌}
use Rattle.calls.specs.Checks.{given, tables_of, area, work_for, sentence, parsed}

-- n numbers from s on
abbrev pub up_from : ℕ → ℕ → List ℕ
up_from s zero = []
up_from s (suc n) = s ∷ up_from (s + 1) n

-- f is a derivation tree of the sentence that fits S slots; "Parse puts nodes in slots 1, 2, .. in preorder"
pub record Stored (G : Grammar) (S : ℕ) (w : List Token) (f : Forest) : Type 0 where
  pub derives : Derives G (G.start ∷ []) f
  pub yields : yield f ≡ w
  pub fits : size f ≤ S
  pub order : slots f ≡ up_from 1 (size f)

-- "parse has total and made"
abbrev pub parse_counts : ℕ → Counts
parse_counts n = record { total = n; kept = 0; made = n; given_up = 0 }

-- the sentence's tree in its area, and the counts
pub record Storage (G : Grammar) (S : ℕ) (w : List Token) (c : Counts) (tree' : List ℕ) : Type 0 where
  pub tree : Forest
  pub stored : Stored G S w tree
  pub counts : c ≡ parse_counts (size tree)
  pub area : Area S tree tree'

-- the rest of parse from its last check on
abbrev pub store_call : Grammar → ℕ → List Token → Call (List ℕ)
store_call G S w = do
  parsed G S w  -- 9, 10
  accept counts (Storage G S w)

-- where `room` is the length of the work area and `long` that of the tree area, whose "earlier contents" parse
-- "ignores"
abbrev pub parse_with : (tables tokens : List ℕ) (room long : ℕ) → Grammar → Call (List ℕ)
parse_with tables tokens room long G = do
  tables_of G tables  -- 4
  S ← area long  -- 5
  work_for long room  -- 6
  w ← sentence G.t tokens  -- 7
  store_call G S w  -- 9, 10

abbrev pub parse_call : (image tables tokens : List ℕ) (room long : ℕ) → Call (List ℕ)
parse_call image tables tokens room long = given image (parse_with tables tokens room long)  -- 1, 2, 3
