-- The new sentence of an edit, from its three parts.
use Rattle.std.specs.Prelude.{ℕ, zero, suc, ◌+◌, ◌-◌, ◌*◌, ◌/◌, ◌≤◌, min, ◌≡◌, refl, List, [], ◌∷◌, ◌++◌, length, take, drop}
use Rattle.std.proofs.Common.{sym, ap, ◌∙◌, append_assoc, length-take, drop_of_length-le, take_all, take-take, take_at, drop-drop, arith}
use Rattle.std.proofs.Math.Logic.{by_cases}
use Rattle.std.proofs.Math.Seq.{drop-nil}
use Rattle.std.proofs.Math.Decide.{dec_lt}
use Rattle.base.specs.Bytes.{Bytes}
use borrow.Rule.Slice.PartMut.{put_mid}
use Rattle.grammar.specs.Forest.{Token}
use Rattle.trees.specs.Nodes.{leaves_of}
use Rattle.trees.specs.Coded.{nodes_from}
use Rattle.plain.specs.Tokens.{token_size, token_bytes, length_token_bytes, tokens_from, tokens_part, length_tokens}
use Rattle.edits.specs.Keeping.{edit_of, edited}
use Rattle.sentences.specs.Adding.{Added, added_copy, added_more, copied_part}
use Rattle.sentences.specs.Leaves.{leaves_from, leaves_whole, Gave, Skipped}

-- the first `limit` tokens of the new sentence, r of them, stand at the beginning of out'; the old one is that of the n nodes, and b are the m lent tokens
pub record NewSentence (nodes : List ℕ) (n place removed : ℕ) (b : List ℕ) (m limit : ℕ) (out out' : List ℕ) (r : ℕ) : Type 0 where
  pub added : Added (take limit (edited (edit_of place removed (tokens_from b m 0)) (leaves_of (nodes_from nodes n 0)))) out out' 0 r

-- ---- the lent tokens

take_tokens : (b : List ℕ) (k m i : ℕ) → k ≤ m → take k (tokens_from b m i) ≡ tokens_from b k i
take_tokens b zero m i l = refl
take_tokens b (suc k) zero i l = absurd (omega arith)
take_tokens b (suc k) (suc m) i l = rw (take_tokens b k m (i + 1) (omega arith))

front_bytes : (b : List ℕ) (k : ℕ) → Bytes b → token_size * k ≤ length b → take (token_size * k) b ≡ token_bytes (tokens_from b k 0)
front_bytes b k f l =
    let q : 0 + k ≡ k = omega arith in
    let e : b ≡ token_bytes (tokens_from b k 0) ++ drop (token_size * k) b = rw q at (tokens_part b k 0 f (omega arith)) in
    ap (take (token_size * k)) e ∙ take_at (token_bytes (tokens_from b k 0)) (drop (token_size * k) b) (token_size * k) (omega (arith, length_token_bytes (tokens_from b k 0), length_tokens b k 0))

-- as many of them as there is room for
pub tokens_put : (out part b : List ℕ) (at end size k m : ℕ) → size ≡ min (length b) (token_size * end - token_size * at) → part ≡ take size b → k ≡ size → Bytes b → at ≤ end → token_size * end ≤ length out
    → length b ≡ token_size * m → Added (take (end - at) (tokens_from b m 0)) out (put_mid (token_size * at) k out part) at (at + size / token_size)
tokens_put out part b at end size k m es ep ek f l lo lb =
    let n : ℕ = min m (end - at) in
    let q : size ≡ token_size * n = omega arith in
    let d : size / token_size ≡ n = omega arith in
    let t : take (end - at) (tokens_from b m 0) ≡ tokens_from b n 0 =
    by_cases (dec_lt m (end - at))
    (λ o. let z : n ≡ m = omega arith in rw z (take_all (end - at) (tokens_from b m 0) (omega (arith, length_tokens b m 0))))
    (λ o. let z : n ≡ end - at = omega arith in rw z (take_tokens b (end - at) m 0 (omega arith)))
    in
    let s : take size b ≡ token_bytes (tokens_from b n 0) = rw q (front_bytes b n f (omega arith)) in
    let c = copied_part out part (take size b) (token_size * at) k ep (omega (arith, length-take size b)) (omega arith) in
    rw (t, d) (added_copy (tokens_from b n 0) out (put_mid (token_size * at) k out part) (take size b) at (at + n) s (omega (arith, length_tokens b n 0)) (omega arith) c)

-- ---- one behind the other

take_parts : {A : Type 0} (k : ℕ) (u v : List A) → take k (u ++ v) ≡ take k u ++ take (k - length (take k u)) v
take_parts zero u v = refl
take_parts (suc k) [] v = let q : suc k - 0 ≡ suc k = omega arith in rw q
take_parts (suc k) (x ∷ u) v = let q : suc k - suc (length (take k u)) ≡ k - length (take k u) = omega arith in rw q (ap (λ (r : List _). x ∷ r) (take_parts k u v))

-- as far as `limit`: the tokens before the place, those put there, and those behind the removed run, each as far as there is room
parts : (w ins : List Token) (place removed limit end a b : ℕ) → end ≡ min place limit → a ≡ length (take end w) → b ≡ a + length (take (limit - a) ins)
    → take limit (take place w ++ (ins ++ drop (place + removed) w)) ≡ take end w ++ take (limit - a) ins ++ take (limit - b) (drop removed (drop end w))
parts w ins place removed limit end a b e ea eb =
    let behind : List Token = drop (place + removed) w in
    let f : take limit (take place w) ≡ take end w =
    by_cases (dec_lt limit place)
    (λ l. let q : end ≡ limit = omega arith in rw q (take-take limit place w (omega arith)))
    (λ l. let q : end ≡ place = omega arith in rw q (take_all limit (take place w) (omega (arith, length-take place w))))
    in
    let g : take (limit - b) behind ≡ take (limit - b) (drop removed (drop end w)) =
    by_cases (dec_lt limit place)
    (λ l. let q : end ≡ limit = omega arith in
    by_cases (dec_lt (length w) limit)
    (λ m. let y : behind ≡ [] = drop_of_length-le w {i = place + removed} (omega arith) in
    let z : drop end w ≡ [] = drop_of_length-le w {i = end} (omega arith) in
    rw (y, z, drop-nil removed))
    (λ m. let z : limit - b ≡ 0 = omega (arith, length-take end w) in rw z))
    (λ l. let q : place ≡ end = omega arith in rw (q, drop-drop removed end w))
    in
    let x : limit - length (take limit (take place w)) ≡ limit - a = omega (arith, ap length f) in
    let y : limit - a - length (take (limit - a) ins) ≡ limit - b = omega arith in
    take_parts limit (take place w) (ins ++ behind) ∙ rw (x, f, take_parts (limit - a) ins behind, y, g)
    (sym (append_assoc (take end w) (take (limit - a) ins) (take (limit - b) (drop removed (drop end w)))))

pub formed : (nodes b : List ℕ) (n place removed m limit end node at : ℕ) (out out₁ : List ℕ) → end ≡ min place limit → token_size * limit ≤ length out → at ≤ end
    → Gave nodes n 0 out 0 end node at out₁ → (next : ℕ) (out₂ : List ℕ) → next ≤ limit → Added (take (limit - at) (tokens_from b m 0)) out₁ out₂ at next
    → (from : ℕ) → Skipped nodes n node removed from 0 → (last r : ℕ) (out₃ : List ℕ) → Gave nodes n from out₂ next limit last r out₃
    → NewSentence nodes n place removed b m limit out out₃ r
formed nodes b n place removed m limit end node at out out₁ e room l h next out₂ l₂ h₂ from s last r out₃ h₃ =
    let w : List Token = leaves_from nodes n 0 in
    let ins : List Token = tokens_from b m 0 in
    let z : end - 0 ≡ end = omega arith in
    let g : Added (take end w) out out₁ 0 at = rw z at h.added in
    let behind : leaves_from nodes n from ≡ drop removed (drop end w) = s.is ∙ ap (drop removed) (h.rest ∙ ap (λ (x : ℕ). drop x w) z) in
    let g₃ : Added (take (limit - next) (drop removed (drop end w))) out₂ out₃ next r = rw behind at h₃.added in
    let q : take limit (take place w ++ (ins ++ drop (place + removed) w)) ≡ take end w ++ take (limit - at) ins ++ take (limit - next) (drop removed (drop end w)) =
    parts w ins place removed limit end at next e (omega (arith, g.count)) (omega (arith, h₂.count))
    in
    record { added = rw (← leaves_whole nodes n, q) (added_more (omega arith) (added_more (omega arith) g h₂) g₃) }
