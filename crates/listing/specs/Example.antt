-- Document 01's example of the program's text: the input `01 00000000 02 07000000 05 00000000`, its tree, and its ten lines, which the program prints and nothing else.
use Rattle.std.specs.Prelude.{ℕ, List, [], ◌∷◌, ◌++◌}
use Rattle.grammar.specs.Forest.{Token, Forest, nil, leaf, node}

-- "01 00000000 02 07000000 05 00000000"
abbrev pub example_bytes : List ℕ
example_bytes = 1 ∷ 0 ∷ 0 ∷ 0 ∷ 0 ∷ 2 ∷ 7 ∷ 0 ∷ 0 ∷ 0 ∷ 5 ∷ 0 ∷ 0 ∷ 0 ∷ 0 ∷ []

-- allow, host with tag 7, semicolon
abbrev pub example_tokens : List Token
example_tokens = record { kind = 1; tag = 0 } ∷ record { kind = 2; tag = 7 } ∷ record { kind = 5; tag = 0 } ∷ []

-- Book 1 has the Rule 2 and the empty Book 9; the Rule has allow 3, the List 4 of host 5, tagged 7, and the empty Rest 6, the empty Bar 7 and semicolon 8
abbrev pub example_tree : Forest
example_tree = node 1 6 1 (node 2 7 3 (leaf 3 1 0 (node 4 8 4 (leaf 5 2 7 (node 6 9 6 nil nil)) (node 7 10 8 nil (leaf 8 5 0 nil)))) (node 9 6 2 nil nil)) nil

-- "accepted 9 3", "1 6 1 0 0" and so on
abbrev pub example_text : List ℕ
example_text =
    (97 ∷ 99 ∷ 99 ∷ 101 ∷ 112 ∷ 116 ∷ 101 ∷ 100 ∷ 32 ∷ 57 ∷ 32 ∷ 51 ∷ 10 ∷ []) ++
    ((49 ∷ 32 ∷ 54 ∷ 32 ∷ 49 ∷ 32 ∷ 48 ∷ 32 ∷ 48 ∷ 10 ∷ []) ++
    ((50 ∷ 32 ∷ 55 ∷ 32 ∷ 51 ∷ 32 ∷ 49 ∷ 32 ∷ 48 ∷ 10 ∷ []) ++
    ((51 ∷ 32 ∷ 49 ∷ 32 ∷ 48 ∷ 32 ∷ 50 ∷ 32 ∷ 48 ∷ 10 ∷ []) ++
    ((52 ∷ 32 ∷ 56 ∷ 32 ∷ 52 ∷ 32 ∷ 50 ∷ 32 ∷ 48 ∷ 10 ∷ []) ++
    ((53 ∷ 32 ∷ 50 ∷ 32 ∷ 48 ∷ 32 ∷ 52 ∷ 32 ∷ 55 ∷ 10 ∷ []) ++
    ((54 ∷ 32 ∷ 57 ∷ 32 ∷ 54 ∷ 32 ∷ 52 ∷ 32 ∷ 48 ∷ 10 ∷ []) ++
    ((55 ∷ 32 ∷ 49 ∷ 48 ∷ 32 ∷ 56 ∷ 32 ∷ 50 ∷ 32 ∷ 48 ∷ 10 ∷ []) ++
    ((56 ∷ 32 ∷ 53 ∷ 32 ∷ 48 ∷ 32 ∷ 50 ∷ 32 ∷ 48 ∷ 10 ∷ []) ++
    ((57 ∷ 32 ∷ 54 ∷ 32 ∷ 50 ∷ 32 ∷ 49 ∷ 32 ∷ 48 ∷ 10 ∷ []))))))))))
