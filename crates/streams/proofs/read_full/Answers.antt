use Rattle.std.proofs.Common.{◌≡◌, ℕ, ◌+◌, ◌≤◌, List, ◌++◌, length, take, sym, ap, subst, ◌∙◌, rules, length-take-le}
use Rattle.std.proofs.Math.Seq.{take-append-add}
use Rattle.std.proofs.lemmas.List.{take-append-le}
use Rattle.std.specs.declared.option.Option.{Option}
use Rattle.std.specs.Io.KnownBytes.{Consumes}
use Rattle.std.proofs.KnownBytes.{Consumes-trans}
use Rattle.streams.proofs.read_full.Goals as goal

-- n bytes read into the place after the first d of a buffer are consumed after them
grown : (a b c : Option (List ℕ)) (xs part rest : List ℕ) (d n : ℕ) → d ≤ length xs → n ≤ length part → Consumes a b (take d xs)
    → Consumes b c (take n part) → Consumes a c (take (d + n) (take d xs ++ (part ++ rest)))
grown a b c xs part rest d n l m p q =
    let k : length (take d xs) ≡ d = length-take-le d xs l in
    let e : take (d + n) (take d xs ++ (part ++ rest)) ≡ take d xs ++ take n part =
    ap (λ i. take (i + n) (take d xs ++ (part ++ rest))) (sym k)
    ∙ take-append-add (take d xs) (part ++ rest) n
    ∙ ap (λ ys. take d xs ++ ys) (take-append-le n part rest m)
    in
    subst (Consumes a c) (sym e) (Consumes-trans a b c (take d xs) (take n part) p q)

pub loop-done-preserved : goal.loop-done-preserved
loop-done-preserved g c = record {
  within = search rules;
  len = search rules;
  bytes = grown _ _ _ _ _ _ _ _ c.loop-done.invariant.within c.in_ok-n.ensures.bound.0 c.loop-done.invariant.bytes c.in_ok-n.ensures.bytes.0;
}
