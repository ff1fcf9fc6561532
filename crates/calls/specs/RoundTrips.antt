-- Bytes of tokens with a run replaced.
use Rattle.std.specs.Prelude.{ℕ, ◌+◌, ◌*◌, List, ◌++◌, take, drop}
use Rattle.plain.specs.Tokens.{token_size}

-- bytes of tokens with the run of tokens replaced
abbrev pub replaced : List ℕ → ℕ → ℕ → List ℕ → List ℕ
replaced old place removed tokens = take (token_size * place) old ++ (tokens ++ drop (token_size * (place + removed)) old)
