-- Reading an image record by record: what the reader's functions promise, and the laws that their proofs cite.
use Rattle.std.specs.Prelude.{◌≡◌, refl, Bool, true, false, ◌⊎◌, Option, Some, None, ℕ, ◌+◌, ◌-◌, ◌*◌, ◌≤◌, ◌<◌, List, [], ◌∷◌, ◌++◌, length, take, drop, get_or}
use Rattle.std.specs.Bool.{MatchBool}
use Rattle.std.specs.List.{AllWithin, HoldsAt, slice_range}
use Rattle.std.proofs.Common.{ap, ap₂, inl, inr, sym, ◌∙◌, append_assoc, append-nil, length-append, take-append-drop, drop-cons, length-take-le, arith}
use Rattle.std.proofs.Math.Seq.{take-append_seam, drop-append_seam}
use Rattle.base.specs.Tells.{Tells, tells_yes, tells_no}
use Rattle.base.specs.Blocks.{zeros, copied, part_tail}
use Rattle.grammar.specs.Limits.{max_productions, max_body, record_mark, head_mark, production_mark, head_size, prefix_size}
use Rattle.grammar.specs.Each.{Each, each_join, each_parts, each_head, each_at, each_from}
use Rattle.grammar.specs.Grammar.{Production, Grammar, AllowedHead, Allowed}
use Rattle.grammar.specs.Image.{head_bytes, production_bytes, productions_bytes, image_of, Begins, HeadFirst, Bad, bad_production}
use Rattle.grammar.specs.declared.Head.{Head}
use Rattle.grammar.specs.Rows.{row_size, rows_size, rows_of, length_rows_of, rows_none, rows_more}

-- ---- lists by their first bytes

cut4 : (b : List ℕ) → 4 ≤ length b → b ≡ get_or b 0 0 ∷ get_or b 1 0 ∷ get_or b 2 0 ∷ get_or b 3 0 ∷ drop 4 b
cut4 [] l = absurd (omega arith)
cut4 (x ∷ []) l = absurd (omega arith)
cut4 (x ∷ y ∷ []) l = absurd (omega arith)
cut4 (x ∷ y ∷ z ∷ []) l = absurd (omega arith)
cut4 (x ∷ y ∷ z ∷ w ∷ b) l = refl

cut5 : (b : List ℕ) → 5 ≤ length b → b ≡ get_or b 0 0 ∷ get_or b 1 0 ∷ get_or b 2 0 ∷ get_or b 3 0 ∷ get_or b 4 0 ∷ drop 5 b
cut5 b l = cut4 b (omega arith) ∙ ap (λ (r : List ℕ). get_or b 0 0 ∷ get_or b 1 0 ∷ get_or b 2 0 ∷ get_or b 3 0 ∷ r) (drop-cons b 4 0 l)

-- ---- the head

module _ (b : List ℕ) where
  pub head_short : length b < head_size → HeadFirst b → ⊥
  head_short l h = omega (arith, ap length h.5)

  pub head_mark_lem : (get_or b 0 0 ≡ record_mark → ⊥) → HeadFirst b → ⊥
  head_mark_lem n h = n (ap (λ (u : List ℕ). get_or u 0 0) h.5)

  pub head_mark2 : (get_or b 1 0 ≡ head_mark → ⊥) → HeadFirst b → ⊥
  head_mark2 n h = n (ap (λ (u : List ℕ). get_or u 1 0) h.5)

  -- what stands behind the marks of a head is allowed
  allowed_of : HeadFirst b → AllowedHead (get_or b 2 0) (get_or b 3 0) (get_or b 4 0)
  allowed_of h = rw h.5 h.4

  pub head_wrong : (t n s : ℕ) → t ≡ get_or b 2 0 → n ≡ get_or b 3 0 → s ≡ get_or b 4 0 → (AllowedHead t n s → ⊥) → HeadFirst b → ⊥
  head_wrong t n s et en es k h = k (rw (et, en, es) (allowed_of h))

-- the image has a head, and it says t, n and s
pub record Headed (bytes : List ℕ) (t n s : ℕ) : Type 0 where
  pub allowed : AllowedHead t n s
  pub is : bytes ≡ head_bytes t n s ++ drop head_size bytes

module _ (b : List ℕ) where
  pub headed : (t n s : ℕ) → head_size ≤ length b → get_or b 0 0 ≡ record_mark → get_or b 1 0 ≡ head_mark
      → t ≡ get_or b 2 0 → n ≡ get_or b 3 0 → s ≡ get_or b 4 0 → AllowedHead t n s → Headed b t n s
  headed t n s l m k et en es a =
      record {
        allowed = a;
        is =
            cut5 b l
            ∙ ap₂ (λ (x y : ℕ). x ∷ y ∷ get_or b 2 0 ∷ get_or b 3 0 ∷ get_or b 4 0 ∷ drop 5 b) m k
            ∙ ap₂ (λ (x y : ℕ). record_mark ∷ head_mark ∷ x ∷ y ∷ get_or b 4 0 ∷ drop 5 b) (sym et) (sym en)
            ∙ ap (λ (x : ℕ). record_mark ∷ head_mark ∷ t ∷ n ∷ x ∷ drop 5 b) (sym es);
      }

  pub headed_long : (t n s : ℕ) → Headed b t n s → head_size ≤ length b
  headed_long t n s h = omega (arith, ap length h.is)

-- the head that the bytes begin with, and no production yet; or none
pub data HeadRead (bytes : List ℕ) : Option Head → Type 0 where
  head_read : (h : Head) → Headed bytes h.t h.n h.start → h.count ≡ 0 → HeadRead bytes (Some h)
  head_none : (HeadFirst bytes → ⊥) → HeadRead bytes None

pub ruleset heads = (head_short, head_mark_lem, head_mark2, head_wrong, head_none, head_read, headed)

pub headed_of : {bytes : List ℕ} {h : Head} → HeadRead bytes (Some h) → Headed bytes h.t h.n h.start
headed_of (head_read h a z) = a

pub counted_of : {bytes : List ℕ} {h : Head} → HeadRead bytes (Some h) → h.count ≡ 0
counted_of (head_read h a z) = z

-- ---- a body

-- all are symbols, 1..last
abbrev pub Symbols : ℕ → List ℕ → Type 0
Symbols last b = Each (λ x. (1 ≤ x) × (x ≤ last)) b

-- what `all` finds: each byte is one, or some byte is none
pub tells_symbols : (last : ℕ) (b : List ℕ) (r : Bool)
    → MatchBool r (AllWithin (λ x. (1 ≤ x) × (x ≤ last)) b 0 (length b)) ((k : ℕ) × (k < length b) × HoldsAt (λ x. (x < 1) ⊎ (last < x)) b k)
    → Tells (Symbols last b) r
tells_symbols last b true h = tells_yes (each_from b (λ k l. h k 0 (omega arith) l))
tells_symbols last b false h = tells_no (λ e. out (each_at b h.0 e h.1) (h.2 0))
  where
    out : (1 ≤ get_or b h.0 0) × (get_or b h.0 0 ≤ last) → (get_or b h.0 0 < 1) ⊎ (last < get_or b h.0 0) → ⊥
    out i (inl l) = omega arith
    out i (inr l) = omega arith

-- ---- a production record

-- what stands first in `rest`: a production record of that size, or none
pub data Starts (t n : ℕ) (rest : List ℕ) : Option ℕ → Type 0 where
  starts : (P : Production) (more : List ℕ) → Allowed t n P → rest ≡ production_bytes P ++ more → Starts t n rest (Some (length (production_bytes P)))
  starts_not : ((P : Production) (more : List ℕ) → Allowed t n P → rest ≡ production_bytes P ++ more → ⊥) → Starts t n rest None

module _ (t n : ℕ) (b : List ℕ) where
  pub starts_short : length b < prefix_size → Starts t n b None
  starts_short l = starts_not (λ P more a e. omega (arith, ap length e))

  pub starts_mark : (get_or b 0 0 ≡ record_mark → ⊥) → Starts t n b None
  starts_mark k = starts_not (λ P more a e. k (ap (λ (u : List ℕ). get_or u 0 0) e))

  pub starts_mark2 : (get_or b 1 0 ≡ production_mark → ⊥) → Starts t n b None
  starts_mark2 k = starts_not (λ P more a e. k (ap (λ (u : List ℕ). get_or u 1 0) e))

  pub starts_low : (left : ℕ) → left ≡ get_or b 2 0 → left ≤ t → Starts t n b None
  starts_low left q l = starts_not (λ P more a e. omega (arith, ap (λ (u : List ℕ). get_or u 2 0) e, a.left.0))

  pub starts_high : (left : ℕ) → left ≡ get_or b 2 0 → t + n < left → Starts t n b None
  starts_high left q l = starts_not (λ P more a e. omega (arith, ap (λ (u : List ℕ). get_or u 2 0) e, a.left.1))

  pub starts_long : (k : ℕ) → k ≡ get_or b 3 0 → max_body < k → Starts t n b None
  starts_long k q l = starts_not (λ P more a e. omega (arith, ap (λ (u : List ℕ). get_or u 3 0) e, a.short))

  -- what stands behind the four bytes, as the part of the slice that the pattern takes
  abbrev part_behind : List ℕ
  part_behind = take (length b - 4) (drop 4 b)

  -- the body of k symbols
  abbrev body_part : ℕ → List ℕ
  body_part k = take k (drop 4 b)

  pub starts_cut : (k : ℕ) → k ≡ get_or b 3 0 → (k < 0) ⊎ (length part_behind < k) → Starts t n b None
  starts_cut k q (inl l) = absurd (omega arith)
  starts_cut k q (inr l) =
      starts_not
      (λ P more a e. omega (arith, ap (λ (u : List ℕ). get_or u 3 0) e, ap (λ (u : List ℕ). length (drop 4 u)) e, length-append P.body more, ap length (part_tail b 4)))

  pub part_body : (k : ℕ) (u : List ℕ) → u ≡ slice_range part_behind 0 k → u ≡ body_part k
  part_body k u e = let z : k - 0 ≡ k = omega arith in e ∙ rw (z, part_tail b 4)

  pub starts_symbols : (k : ℕ) (r : Bool) → k ≡ get_or b 3 0 → Tells (Symbols (t + n) (body_part k)) r → r ≡ false → Starts t n b None
  starts_symbols k r w h e =
      starts_not
      (λ P more a d. let m : k ≡ length P.body = w ∙ ap (λ (u : List ℕ). get_or u 3 0) d in
      let q : body_part k ≡ P.body = ap₂ (λ (i : ℕ) (u : List ℕ). take i (drop 4 u)) m d ∙ take-append_seam P.body more in
      h.no e (rw q a.symbols))

  pub starts_good : (left k : ℕ) (r : Bool) → prefix_size ≤ length b → get_or b 0 0 ≡ record_mark → get_or b 1 0 ≡ production_mark
      → left ≡ get_or b 2 0 → t < left → left ≤ t + n → k ≡ get_or b 3 0 → k ≤ max_body → k ≤ length part_behind
      → Tells (Symbols (t + n) (body_part k)) r → r ≡ true → Starts t n b (Some (4 + k))
  starts_good left k r l m o q g h w s c e y =
      let long : length (body_part k) ≡ k = length-take-le k (drop 4 b) (rw (part_tail b 4) at c) in
      let P : Production = record { left = left; body = body_part k } in
      let size : length (production_bytes P) ≡ 4 + k = omega (arith, long) in
      let is : b ≡ production_bytes P ++ drop k (drop 4 b) =
      cut4 b l
      ∙ ap₂ (λ (x y : ℕ). x ∷ y ∷ get_or b 2 0 ∷ get_or b 3 0 ∷ drop 4 b) m o
      ∙ ap₂ (λ (x y : ℕ). record_mark ∷ production_mark ∷ x ∷ y ∷ drop 4 b) (sym q) (sym w ∙ sym long)
      ∙ ap (λ (u : List ℕ). record_mark ∷ production_mark ∷ left ∷ length (body_part k) ∷ u) (sym (take-append-drop k (drop 4 b)))
      in
      rw (← size) (starts P (drop k (drop 4 b)) (record { left = (g, h); short = omega (arith, long); symbols = e.yes y }) is)

pub ruleset starting = (starts_short, starts_mark, starts_mark2, starts_low, starts_high, starts_long, starts_cut)

-- ---- the productions, one after the other

abbrev pub read_so_far : ℕ → ℕ → ℕ → List Production → Grammar
read_so_far t n s Ps = record { t = t; n = n; start = s; productions = Ps }

-- the reader stands before `rest`, at that offset, with that many productions in the rows
pub record Reading (bytes : List ℕ) (t n s : ℕ) (rest rows : List ℕ) (count offset : ℕ) : Type 0 where
  pub got : List Production
  pub begins : Begins bytes (read_so_far t n s got) rest
  pub counted : count ≡ length got
  pub passed : offset ≡ length (image_of (read_so_far t n s got))
  pub laid : rows ≡ rows_of got

productions_append : (Ps Qs : List Production) → productions_bytes (Ps ++ Qs) ≡ productions_bytes Ps ++ productions_bytes Qs
productions_append [] Qs = refl
productions_append (P ∷ Ps) Qs =
    ap (λ (l : List ℕ). production_bytes P ++ l) (productions_append Ps Qs) ∙ sym (append_assoc (production_bytes P) (productions_bytes Ps) (productions_bytes Qs))

productions_more : (Ps : List Production) (P : Production) → productions_bytes (Ps ++ (P ∷ [])) ≡ productions_bytes Ps ++ production_bytes P
productions_more Ps P = productions_append Ps (P ∷ []) ∙ ap (λ (l : List ℕ). productions_bytes Ps ++ l) (append-nil (production_bytes P))

-- the parts of `rest` behind a record, and behind its mark
module _ (rest : List ℕ) (P : Production) (more : List ℕ) (d : rest ≡ production_bytes P ++ more) where
  behind : take (length rest - length (production_bytes P)) (drop (length (production_bytes P)) rest) ≡ more
  behind = part_tail rest (length (production_bytes P)) ∙ ap (drop (length (production_bytes P))) d ∙ drop-append_seam (production_bytes P) more

  inside : take (length (production_bytes P) - 2) (drop 2 rest) ≡ P.left ∷ length P.body ∷ P.body
  inside =
      let m : length (production_bytes P) - 2 ≡ length (P.left ∷ length P.body ∷ P.body) = omega arith in
      ap₂ (λ (k : ℕ) (u : List ℕ). take k (drop 2 u)) m d ∙ take-append_seam (P.left ∷ length P.body ∷ P.body) more

pub reading_start : (bytes rows : List ℕ) (t n s count : ℕ) → Headed bytes t n s → count ≡ 0 → rows ≡ zeros rows_size
    → Reading bytes t n s (take (length bytes - head_size) (drop head_size bytes)) rows count head_size
reading_start bytes rows t n s count h e z =
    record {
      got = [];
      begins =
          record {
            formed = record { head = h.allowed; few = omega arith; each = Each.nil };
            is = h.is ∙ ap (λ (u : List ℕ). head_bytes t n s ++ u) (sym (part_tail bytes head_size));
          };
      counted = e;
      passed = refl;
      laid = z ∙ rows_none;
    }

module _ (bytes : List ℕ) (t n s : ℕ) (rest rows : List ℕ) (count offset : ℕ) (r : Reading bytes t n s rest rows count offset) where
  abbrev G : Grammar
  G = read_so_far t n s r.got

  pub reading_fits : offset + length rest ≡ length bytes
  reading_fits = sym (ap length r.begins.is ∙ length-append (image_of G) rest ∙ ap (λ (k : ℕ). k + length rest) (sym r.passed))

  pub reading_rows : length rows ≡ rows_size
  reading_rows = ap length r.laid ∙ length_rows_of r.got r.begins.formed.each r.begins.formed.few

  some_left : (length rest ≡ 0 → ⊥) → rest ≡ [] → ⊥
  some_left k e = k (ap length e)

  pub reading_full : (length rest ≡ 0 → ⊥) → count ≡ max_productions → Bad bytes offset
  reading_full k e =
      rw r.passed
      (bad_production G rest r.begins (some_left k) (λ P more f d. omega (arith, f.few, length-append r.got (P ∷ []), r.counted)))

  pub reading_bad : (length rest ≡ 0 → ⊥) → Starts t n rest None → Bad bytes offset
  reading_bad k (starts_not f) =
      rw r.passed (bad_production G rest r.begins (some_left k) (λ P more w d. f P more (each_head (each_parts r.got w.each).1) d))

  pub reading_more : (size : ℕ) (rows' : List ℕ) → count ≤ max_productions → (count ≡ max_productions → ⊥) → Starts t n rest (Some size)
      → rows' ≡ copied rows (count * row_size) (take (size - 2) (drop 2 rest))
      → Reading bytes t n s (take (length rest - size) (drop size rest)) rows' (count + 1) (offset + size)
  reading_more size rows' c k (starts P more a d) w =
      record {
        got = r.got ++ (P ∷ []);
        begins =
            record {
              formed =
                  record {
                    head = r.begins.formed.head;
                    few = omega (arith, length-append r.got (P ∷ []), r.counted);
                    each = each_join r.begins.formed.each (Each.cons a Each.nil);
                  };
              is =
                  r.begins.is
                  ∙ ap (λ (u : List ℕ). image_of G ++ u) d
                  ∙ sym (append_assoc (image_of G) (production_bytes P) more)
                  ∙ ap₂ (λ (u v : List ℕ). head_bytes t n s ++ u ++ v) (sym (productions_more r.got P)) (sym (behind rest P more d));
            };
        counted = omega (arith, length-append r.got (P ∷ []), r.counted);
        passed = omega (arith, r.passed, ap length (productions_more r.got P), length-append (productions_bytes r.got) (production_bytes P));
        laid =
            w
            ∙ ap₂ (λ (u v : List ℕ). copied u (count * row_size) v) r.laid (inside rest P more d)
            ∙ ap (λ (j : ℕ). copied (rows_of r.got) (j * row_size) (P.left ∷ length P.body ∷ P.body)) r.counted
            ∙ rows_more r.got r.begins.formed.each P a.short (omega (arith, r.counted));
      }
