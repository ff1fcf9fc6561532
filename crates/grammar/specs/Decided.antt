-- Every image has an outcome: it is well formed, or it has a first bad offset. With `Images` and `Outcome`: exactly one.
use Rattle.std.specs.Prelude.{◌≡◌, refl, true, false, Result, Option, Some, None, ◌⊎◌, ℕ, zero, suc, ◌+◌, ◌-◌, ◌≤◌, ◌<◌, List, [], ◌∷◌, length, take, drop, get_or}
use Rattle.std.proofs.Common.{inl, inr, arith}
use Rattle.std.proofs.Math.Logic.{by_cases}
use Rattle.std.proofs.Math.Decide.{ℕ_discrete, dec_lt, dec_le}
use Rattle.base.specs.Tells.{tells_yes, tells_no}
use Rattle.grammar.specs.Limits.{max_terminals, max_nonterminals, max_productions, max_body, record_mark, head_mark, production_mark, head_size, prefix_size}
use Rattle.grammar.specs.Each.{Each, each_head, each_tail}
use Rattle.grammar.specs.Grammar.{Grammar, AllowedHead}
use Rattle.grammar.specs.Image.{Image, Bad}
use Rattle.grammar.specs.Reading.{head_short, head_mark_lem, head_mark2, head_wrong, headed, HeadRead, head_read, head_none, Symbols, Starts, starts_short, starts_mark, starts_mark2, starts_low, starts_high, starts_long, starts_cut, starts_symbols, starts_good, Reading, reading_start, reading_full, reading_bad, reading_more}
use Rattle.grammar.specs.Outcome.{Reads, reads_good, reads_bad, reads_headless, reads_end}
use Rattle.grammar.specs.declared.Head.{Head}
use Rattle.grammar.specs.declared.BadRecord.{BadRecord}

both : {P Q : Type 0} → Dec P → Dec Q → Dec (P × Q)
both (yes p) (yes q) = yes (p, q)
both (yes p) (no n) = no (λ h. n h.1)
both (no n) q = no (λ h. n h.0)

within : (low high x : ℕ) → Dec ((low ≤ x) × (x ≤ high))
within low high x = both (dec_le low x) (dec_le x high)

symbols_told : (last : ℕ) (b : List ℕ) → Dec (Symbols last b)
symbols_told last [] = yes Each.nil
symbols_told last (x ∷ b) = go (within 1 last x) (symbols_told last b)
  where
    go : Dec ((1 ≤ x) × (x ≤ last)) → Dec (Symbols last b) → Dec (Symbols last (x ∷ b))
    go (yes p) (yes e) = yes (Each.cons p e)
    go (yes p) (no n) = no (λ h. n (each_tail h))
    go (no n) d = no (λ h. n (each_head h))

-- the head, or that there is none
head_some : (b : List ℕ) → (o : Option Head) × HeadRead b o
head_some b =
    by_cases (dec_lt (length b) head_size) (λ l. (None, head_none (head_short b l)))
    (λ l. by_cases (ℕ_discrete (get_or b 0 0) record_mark)
    (λ m. by_cases (ℕ_discrete (get_or b 1 0) head_mark)
    (λ k. by_cases (allowed (get_or b 2 0) (get_or b 3 0) (get_or b 4 0))
    (λ a. (_, head_read (record { t = get_or b 2 0; n = get_or b 3 0; start = get_or b 4 0; count = 0 }) (headed b _ _ _ (omega arith) m k refl refl refl a) refl))
    (λ w. (None, head_none (head_wrong b _ _ _ refl refl refl w))))
    (λ k. (None, head_none (head_mark2 b k))))
    (λ m. (None, head_none (head_mark_lem b m))))
  where
    allowed : (t n s : ℕ) → Dec (AllowedHead t n s)
    allowed t n s = go (within 1 max_terminals t) (within 1 max_nonterminals n) (within (suc t) (t + n) s)
      where
        go : Dec ((1 ≤ t) × (t ≤ max_terminals)) → Dec ((1 ≤ n) × (n ≤ max_nonterminals)) → Dec ((t < s) × (s ≤ t + n)) → Dec (AllowedHead t n s)
        go (yes a) (yes b) (yes c) = yes (record { terminals = a; nonterminals = b; start = c })
        go (yes a) (yes b) (no c) = no (λ h. c h.start)
        go (yes a) (no b) c = no (λ h. b h.nonterminals)
        go (no a) b c = no (λ h. a h.terminals)

-- what stands first
starts_some : (t n : ℕ) (b : List ℕ) → (o : Option ℕ) × Starts t n b o
starts_some t n b =
    by_cases (dec_lt (length b) prefix_size) (λ l. (None, starts_short t n b l))
    (λ l. by_cases (ℕ_discrete (get_or b 0 0) record_mark)
    (λ m. by_cases (ℕ_discrete (get_or b 1 0) production_mark)
    (λ o. by_cases (dec_le (get_or b 2 0) t) (λ h. (None, starts_low t n b _ refl h))
    (λ g. by_cases (dec_lt (t + n) (get_or b 2 0)) (λ h. (None, starts_high t n b _ refl h))
    (λ h. by_cases (dec_lt max_body (get_or b 3 0)) (λ s. (None, starts_long t n b _ refl s))
    (λ s. by_cases (dec_lt (length (take (length b - 4) (drop 4 b))) (get_or b 3 0)) (λ c. (None, starts_cut t n b _ refl (inr c)))
    (λ c. by_cases (symbols_told (t + n) (take (get_or b 3 0) (drop 4 b)))
    (λ e. (Some (4 + get_or b 3 0), starts_good t n b _ _ true (omega arith) m o refl (omega arith) (omega arith) refl (omega arith) (omega arith) (tells_yes e) refl))
    (λ e. (None, starts_symbols t n b _ false refl (tells_no e) refl)))))))
    (λ o. (None, starts_mark2 t n b o)))
    (λ m. (None, starts_mark t n b m)))

abbrev Read : List ℕ → Type 0
Read bytes = (r : Result Head BadRecord) × (w : List ℕ) × Reads bytes r w

-- from each place of the reader
read_on : (fuel : ℕ) {bytes : List ℕ} {t n s : ℕ} {rest rows : List ℕ} {count offset : ℕ} → Reading bytes t n s rest rows count offset
    → count ≤ max_productions → max_productions - count ≤ fuel → Read bytes
read_on zero {rest = rest} {rows = rows} r c f =
    by_cases (ℕ_discrete (length rest) 0) (λ e. (_, _, reads_end _ _ _ _ _ _ _ _ r e))
    (λ k. (_, _, reads_bad (reading_full _ _ _ _ _ _ _ _ r k (omega arith))))
read_on (suc fuel) {bytes = bytes} {t = t} {n = n} {s = s} {rest = rest} {rows = rows} {count = count} {offset = offset} r c f =
    by_cases (ℕ_discrete (length rest) 0) (λ e. (_, _, reads_end _ _ _ _ _ _ _ _ r e))
    (λ k. by_cases (ℕ_discrete count max_productions) (λ e. (_, _, reads_bad (reading_full _ _ _ _ _ _ _ _ r k e)))
    (λ e. go e k (starts_some t n rest) (λ size rows' m. read_on fuel m)))
  where
    go : (count ≡ max_productions → ⊥) → (length rest ≡ 0 → ⊥) → (o : Option ℕ) × Starts t n rest o
        → ((size : ℕ) (rows' : List ℕ) → Reading bytes t n s (take (length rest - size) (drop size rest)) rows' (count + 1) (offset + size) → count + 1 ≤ max_productions → max_productions - (count + 1) ≤ fuel → Read bytes)
        → Read bytes
    go e k (None, h) on = (_, _, reads_bad (reading_bad _ _ _ _ _ _ _ _ r k h))
    go e k (Some size, h) on = on size _ (reading_more _ _ _ _ _ _ _ _ r size _ c e h refl) (omega arith) (omega arith)

-- every image has an outcome
pub read_some : (bytes : List ℕ) → (r : Result Head BadRecord) × (w : List ℕ) × Reads bytes r w
read_some bytes = go (head_some bytes)
  where
    go : (o : Option Head) × HeadRead bytes o → Read bytes
    go (Some g, head_read h a z) = read_on max_productions (reading_start bytes _ _ _ _ _ a z refl) (omega arith) (omega arith)
    go (None, h) = (_, _, reads_headless bytes _ h refl)

-- an image is well formed, or has a first bad offset
pub image_or_bad : (bytes : List ℕ) → ((G : Grammar) × Image bytes G) ⊎ ((k : ℕ) × Bad bytes k)
image_or_bad bytes = let q = read_some bytes in go q.2
  where
    go : {r : Result Head BadRecord} {w : List ℕ} → Reads bytes r w → ((G : Grammar) × Image bytes G) ⊎ ((k : ℕ) × Bad bytes k)
    go (reads_good G i) = inl (G, i)
    go (reads_bad {k = k} b) = inr (k, b)
