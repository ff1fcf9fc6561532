-- An image is that of one grammar, or it has one first bad offset, and never both.
use Rattle.std.specs.Prelude.{◌≡◌, refl, ℕ, ◌+◌, ◌≤◌, ◌<◌, List, [], ◌∷◌, ◌++◌, length, take, drop, get_or}
use Rattle.std.proofs.Common.{ap, sym, ◌∙◌, append_assoc, append-nil, length-append, arith}
use Rattle.std.proofs.Math.Seq.{take-append_seam, drop-append_seam}
use Rattle.base.specs.Choose.{never}
use Rattle.grammar.specs.Limits.{record_mark, head_mark, production_mark}
use Rattle.grammar.specs.Each.{Each, each_join, each_parts, each_head, each_map}
use Rattle.grammar.specs.Grammar.{Production, Grammar, Allowed, WellFormed, extended}
use Rattle.grammar.specs.Image.{production_bytes, productions_bytes, image_of, Image, Begins, NoMore, Bad, bad_head, bad_production}

-- ---- a record tells its production

parted : (xs ys : List ℕ) {u v : List ℕ} → length xs ≡ length ys → xs ++ u ≡ ys ++ v → (xs ≡ ys) × (u ≡ v)
parted xs ys {u} {v} n e = (
  sym (take-append_seam xs u) ∙ ap (take (length xs)) e ∙ ap (λ (k : ℕ). take k (ys ++ v)) n ∙ take-append_seam ys v,
  sym (drop-append_seam xs u) ∙ ap (drop (length xs)) e ∙ ap (λ (k : ℕ). drop k (ys ++ v)) n ∙ drop-append_seam ys v,
)

pub production_one : (P Q : Production) {u v : List ℕ} → production_bytes P ++ u ≡ production_bytes Q ++ v → (P ≡ Q) × (u ≡ v)
production_one P Q {u} {v} e =
    let l : P.left ≡ Q.left = ap (λ (b : List ℕ). get_or b 2 0) e in
    let q = parted P.body Q.body (ap (λ (b : List ℕ). get_or b 3 0) e) (ap (drop 4) e) in
    (λ i. record { left = l i; body = q.0 i }, q.1)

-- how two runs of productions at the beginning of the same bytes stand to each other
data Compared (Ps Qs : List Production) (u v : List ℕ) : Type 0 where
  same : Ps ≡ Qs → u ≡ v → Compared Ps Qs u v
  shorter : (P : Production) (more : List Production) → Qs ≡ Ps ++ P ∷ more → u ≡ production_bytes P ++ (productions_bytes more ++ v) → Compared Ps Qs u v
  longer : (P : Production) (more : List Production) → Ps ≡ Qs ++ P ∷ more → v ≡ production_bytes P ++ (productions_bytes more ++ u) → Compared Ps Qs u v

compare : (Ps Qs : List Production) {u v : List ℕ} → productions_bytes Ps ++ u ≡ productions_bytes Qs ++ v → Compared Ps Qs u v
compare [] [] e = same refl e
compare [] (Q ∷ Qs) {u} {v} e = shorter Q Qs refl (e ∙ append_assoc (production_bytes Q) (productions_bytes Qs) v)
compare (P ∷ Ps) [] {u} {v} e = longer P Ps refl (sym e ∙ append_assoc (production_bytes P) (productions_bytes Ps) u)
compare (P ∷ Ps) (Q ∷ Qs) {u} {v} e = go (compare Ps Qs q.1)
  where
    q : (P ≡ Q) × (productions_bytes Ps ++ u ≡ productions_bytes Qs ++ v)
    q = production_one P Q (sym (append_assoc (production_bytes P) (productions_bytes Ps) u) ∙ e ∙ append_assoc (production_bytes Q) (productions_bytes Qs) v)

    go : Compared Ps Qs u v → Compared (P ∷ Ps) (Q ∷ Qs) u v
    go (same a b) = same (λ i. q.0 i ∷ a i) b
    go (shorter R more a b) = shorter R more (λ i. sym q.0 i ∷ a i) b
    go (longer R more a b) = longer R more (λ i. q.0 i ∷ a i) b

-- ---- images

head_same : (G H : Grammar) (u v : List ℕ) → image_of G ++ u ≡ image_of H ++ v → (G.t ≡ H.t) × (G.n ≡ H.n) × (G.start ≡ H.start)
head_same G H u v e = (ap (λ (b : List ℕ). get_or b 2 0) e, ap (λ (b : List ℕ). get_or b 3 0) e, ap (λ (b : List ℕ). get_or b 4 0) e)

-- a grammar that goes on where G stops shows a production that makes G longer
goes_on : (G H : Grammar) (P : Production) (more : List Production) → WellFormed G → WellFormed H → G.t ≡ H.t → G.n ≡ H.n
    → H.productions ≡ G.productions ++ P ∷ more → WellFormed (extended G P)
goes_on G H P more g h et en e =
    let all : Each (Allowed G.t G.n) (G.productions ++ P ∷ more) = rw (et, en, ← e) h.each in
    record {
      head = g.head;
      few = omega (arith, h.few, ap length e, length-append G.productions (P ∷ more), length-append G.productions (P ∷ []));
      each = each_join g.each (Each.cons (each_head (each_parts G.productions all).1) Each.nil);
    }

-- two beginnings that no production makes longer are one
begins_one : {bytes : List ℕ} (G H : Grammar) {u v : List ℕ} → Begins bytes G u → Begins bytes H v → NoMore G u → NoMore H v → (G ≡ H) × (u ≡ v)
begins_one G H {u} {v} g h a b = go (compare G.productions H.productions (ap (drop 5) e))
  where
    e : image_of G ++ u ≡ image_of H ++ v
    e = sym g.is ∙ h.is

    hd : (G.t ≡ H.t) × (G.n ≡ H.n) × (G.start ≡ H.start)
    hd = head_same G H u v e

    go : Compared G.productions H.productions u v → (G ≡ H) × (u ≡ v)
    go (same p q) = (λ i. record { t = hd.0 i; n = hd.1 i; start = hd.2 i; productions = p i }, q)
    go (shorter P more p q) = absurd (a P _ (goes_on G H P more g.formed h.formed hd.0 hd.1 p) q)
    go (longer P more p q) = absurd (b P _ (goes_on H G P more h.formed g.formed (sym hd.0) (sym hd.1) p) q)

-- nothing stands first in nothing
no_more_nil : (G : Grammar) → NoMore G []
no_more_nil G P more f e = never (cc)

whole : {bytes : List ℕ} {G : Grammar} → Image bytes G → Begins bytes G []
whole {bytes} {G} i = record { formed = i.formed; is = i.is ∙ sym (append-nil (image_of G)) }

-- two grammars with the same image are equal
pub image_one : {bytes : List ℕ} {G H : Grammar} → Image bytes G → Image bytes H → G ≡ H
image_one {G = G} {H = H} i j = (begins_one G H (whole i) (whole j) (no_more_nil G) (no_more_nil H)).0

-- an image has no bad offset, and no bytes have two
pub good_not_bad : {bytes : List ℕ} {G : Grammar} {k : ℕ} → Image bytes G → Bad bytes k → ⊥
good_not_bad {G = G} i (bad_head h) = h (G.t, G.n, G.start, productions_bytes G.productions, i.formed.head, i.is)
good_not_bad {G = G} i (bad_production H rest b ne st) = ne (sym (begins_one G H (whole i) b (no_more_nil G) st).1)

pub bad_one : {bytes : List ℕ} {j k : ℕ} → Bad bytes j → Bad bytes k → j ≡ k
bad_one (bad_head a) (bad_head b) = refl
bad_one (bad_head a) (bad_production H v h ne st) = absurd (a (H.t, H.n, H.start, productions_bytes H.productions ++ v, h.formed.head, h.is))
bad_one (bad_production G u g ne st) (bad_head b) = absurd (b (G.t, G.n, G.start, productions_bytes G.productions ++ u, g.formed.head, g.is))
bad_one (bad_production G u g ne st) (bad_production H v h ne' st') = ap (λ (K : Grammar). length (image_of K)) (begins_one G H g h st st').0

-- an image is made of bytes
module _ {G : Grammar} (f : WellFormed G) where
  low : (x : ℕ) → x ≤ G.t + G.n → x < 256
  low x l = omega (arith, f.head.terminals.1, f.head.nonterminals.1)

  mark : (x : ℕ) → x ≤ 255 → x < 256
  mark x l = omega arith

  runs : (Ps : List Production) → Each (Allowed G.t G.n) Ps → Each (λ (b : ℕ). b < 256) (productions_bytes Ps)
  runs [] e = Each.nil
  runs (P ∷ Ps) (Each.cons a e) =
      each_join
      (Each.cons (mark record_mark (omega arith))
      (Each.cons (mark production_mark (omega arith))
      (Each.cons (low P.left a.left.1)
      (Each.cons (mark (length P.body) (omega (arith, a.short))) (each_map (λ x s. low x s.1) a.symbols)))))
      (runs Ps e)

  pub image_bytes : Each (λ (b : ℕ). b < 256) (image_of G)
  image_bytes =
      Each.cons (mark record_mark (omega arith))
      (Each.cons (mark head_mark (omega arith))
      (Each.cons (low G.t (omega arith))
      (Each.cons (low G.n (omega arith)) (Each.cons (low G.start f.head.start.1) (runs G.productions f.each)))))
