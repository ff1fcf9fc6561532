-- Tokens written one behind the other.
use Rattle.std.specs.Prelude.{ℕ, ◌+◌, ◌-◌, ◌*◌, ◌≤◌, min, ◌≡◌, List, [], ◌++◌, length, take, drop}
use Rattle.std.proofs.Common.{refl, sym, ap, ◌∙◌, append_assoc, append-nil, take-append-drop, length-append, length-take-le, take_at, drop-drop, arith}
use Rattle.std.proofs.Math.Seq.{take-length, drop-append-add}
use Rattle.std.proofs.lemmas.Slice.{put_mid-paste}
use borrow.Rule.Slice.PartMut.{put_mid}
use Rattle.base.specs.Blocks.{copied}
use Rattle.grammar.specs.Forest.{Token}
use Rattle.plain.specs.Tokens.{token_size, token_bytes, length_token_bytes, token_bytes_append}

-- out' is out with the tokens v from token `at` on, up to token j
pub record Added (v : List Token) (out out' : List ℕ) (at j : ℕ) : Type 0 where
  pub is : out' ≡ take (token_size * at) out ++ token_bytes v ++ drop (token_size * j) out
  pub count : at + length v ≡ j

pub added_none : (out : List ℕ) (at : ℕ) → Added [] out out at at
added_none out at =
    let q : take (token_size * at) out ++ [] ++ drop (token_size * at) out ≡ out = rw (append-nil (take (token_size * at) out)) (take-append-drop (token_size * at) out) in
    record { is = sym q; count = omega arith }

-- a copy of the tokens' bytes
pub added_copy : (v : List Token) (out out' src : List ℕ) (at j : ℕ) → src ≡ token_bytes v → at + length v ≡ j → token_size * j ≤ length out → out' ≡ copied out (token_size * at) src → Added v out out' at j
unfolding copied
added_copy v out out' src at j e n l c =
    let ls : length src ≡ token_size * length v = ap length e ∙ length_token_bytes v in
    let q : min (length src) (length out - token_size * at) ≡ length src = omega arith in
    let d : token_size * at + length src ≡ token_size * j = omega arith in
    record { is = c ∙ rw (q, take-length src, d, e); count = n }

-- tokens behind tokens
pub added_more : {u v : List Token} {out out' out'' : List ℕ} {at i j : ℕ} → token_size * i ≤ length out → Added u out out' at i → Added v out' out'' i j → Added (u ++ v) out out'' at j
added_more {u} {v} {out} {out'} {out''} {at} {i} {j} l h k =
    let front : List ℕ = take (token_size * at) out ++ token_bytes u in
    let lt : length (take (token_size * at) out) ≡ token_size * at = length-take-le (token_size * at) out (omega (arith, h.count)) in
    let lf : length front ≡ token_size * i = omega (arith, length-append (take (token_size * at) out) (token_bytes u), lt, length_token_bytes u, h.count) in
    let t : take (token_size * i) out' ≡ front = ap (take (token_size * i)) h.is ∙ take_at front (drop (token_size * i) out) (token_size * i) lf in
    let s : length front + token_size * length v ≡ token_size * j = omega (arith, lf, k.count) in
    let z : token_size * i + token_size * length v ≡ token_size * j = omega (arith, k.count) in
    let d : drop (token_size * j) out' ≡ drop (token_size * j) out =
    ap (drop (token_size * j)) h.is ∙ ap (λ (x : ℕ). drop x (front ++ drop (token_size * i) out)) (sym s) ∙ drop-append-add front (drop (token_size * i) out) (token_size * length v)
    ∙ drop-drop (token_size * length v) (token_size * i) out ∙ ap (λ (x : ℕ). drop x out) z
    in
    record {
      is = k.is ∙ rw (t, d, token_bytes_append u v, append_assoc (take (token_size * at) out) (token_bytes u) (token_bytes v));
      count = omega (arith, length-append u v, h.count, k.count);
    }

-- a part of the bytes, written as a whole
pub copied_part : (w part src : List ℕ) (at k : ℕ) → part ≡ src → k ≡ length src → at + k ≤ length w → put_mid at k w part ≡ copied w at src
unfolding copied
copied_part w part src at k e n l =
    let q : min (length src) (length w - at) ≡ k = omega arith in
    rw q (put_mid-paste at k w part src k e refl n)
