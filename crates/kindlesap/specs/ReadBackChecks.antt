-- The laws that the proof of read back cites: what each check on the way says of the call.
use Rattle.std.specs.Prelude.{ℕ, ◌-◌, ◌*◌, ◌≤◌, ◌<◌, ◌≡◌, refl, Option, Some, None, Result, Ok, Err, List, ◌++◌, length, take, drop}
use Rattle.std.proofs.Common.{ap, take_all, arith}
use Rattle.std.specs.Option.{ok_or}
use Rattle.base.specs.Choose.{never}
use Rattle.grammar.specs.Grammar.{Grammar}
use Rattle.walks.specs.Closing.{Reads}
use Rattle.base.specs.Bytes.{get16}
use Rattle.grammar.specs.Forest.{Token, yield}
use Rattle.grammar.specs.Rows.{grammar_in}
use Rattle.grammar.specs.declared.Head.{Head}
use Rattle.trees.specs.Area.{tokens_place, Valid}
use Rattle.walks.specs.Reading.{valid_header}
use Rattle.plain.specs.Tokens.{token_size, token_bytes}
use Rattle.matching.specs.Measure.{few_tokens}
use Rattle.sentences.specs.Adding.{Added}
use Rattle.sentences.specs.Leaves.{leaves_from, leaves_whole, Gave}
use Rattle.altering.specs.Treed.{Treed, treed, untreed, leaves, treed_fits}
use Rattle.replies.specs.declared.Reply.{Reply}
use Rattle.replies.specs.declared.Reason.{Reason}
use Rattle.replies.specs.declared.Reason.TheVariants as reasons
use Rattle.replies.specs.declared.Reply.TheVariants.{Accepted, Refused}
use Rattle.calls.specs.Order.{Outcome, refused, passed, accepting, exactly}
use Rattle.calls.specs.Checks.{Sized, area, needed}
use Rattle.calls.specs.ReadBack.{read_counts, read_back_with, read_back_call}
use Rattle.calls.proofs.CheckLaws.{valid_of, valid_sized, valid_holds, given_passed}
use Rattle.calls.specs.CheckLaws.{Fit}
use Rattle.kindlesap.specs.declared.checks.Analysis.{Analysis}
use Rattle.kindlesap.specs.GrammarChecks.{Checks, checked_refused}

-- there are no more tokens than slots
pub tokens_fit : (rows : List ℕ) (head : Head) (S : ℕ) (tree nodes : List ℕ) (o m : ℕ)
    → Treed (grammar_in rows head) S tree nodes o → m ≡ get16 tree tokens_place → m ≤ S
tokens_fit rows head S tree nodes o m h e =
    let l = treed_fits rows head S tree nodes o h in
    let y = (valid_header h.valid).tokens in
    omega (arith, e, y, l, h.count, few_tokens h.valid.tree)

-- ---- of a tree, or else reply 5
module _ {G : Grammar} {S : ℕ} {b w : List ℕ} {r : Result ℕ Reason} where
  pub tree_read : (o : Option ℕ) → Reads G S b w o → r ≡ ok_or o reasons.WrongTree → (n : ℕ) → r ≡ Ok n → Treed G S b w n
  tree_read (Some k) h e n q = let t : k ≡ n = cc in treed n h (ap Some t)
  tree_read None h e n q = never (cc)

  pub tree_wrong : (o : Option ℕ) → Reads G S b w o → r ≡ ok_or o reasons.WrongTree → (p : Reason) → r ≡ Err p
      → (p ≡ reasons.WrongTree) × (Valid G S b → ⊥)
  tree_wrong (Some k) h e p q = never (cc)
  tree_wrong None h e p q = (cc, untreed h refl)

-- replies 1 to 3
pub read_3 : (tree output : List ℕ) {image : List ℕ} {k : Analysis} {r : Result Head Reason} (p : Reason)
    → Checks image k r → r ≡ Err p
    → Outcome (read_back_call image tree output) output (Refused p) output
read_3 tree output p h e = checked_refused (read_back_with tree output) output p h e

module _ (rows : List ℕ) (head : Head) {image : List ℕ} (f : Fit image (grammar_in rows head))
    (tree output : List ℕ) where
  by_3 : {r : Reply} {output' : List ℕ} → Outcome (read_back_with tree output (grammar_in rows head)) output r output'
      → Outcome (read_back_call image tree output) output r output'
  by_3 o = given_passed (read_back_with tree output) f o

  pub read_5 : (p : Reason) → (p ≡ reasons.WrongTree) × (area (length tree)).Fail reasons.WrongTree
      → Outcome (read_back_call image tree output) output (Refused p) output
  read_5 p n = rw n.0 (by_3 (refused n.1))

  pub read_none : (S : ℕ) → Sized S (length tree) → (Valid (grammar_in rows head) S tree → ⊥)
      → Outcome (read_back_call image tree output) output (Refused reasons.WrongTree) output
  read_none S z n = by_3 (passed z (refused (exactly (λ t h. n (valid_of z h)))))

  module _ (S : ℕ) (nodes : List ℕ) (o : ℕ) (h : Treed (grammar_in rows head) S tree nodes o) (m : ℕ)
      (e : m ≡ get16 tree tokens_place) where
    counted : m ≡ length (yield h.valid.tree)
    counted = let y = (valid_header h.valid).tokens in omega (arith, e, y)

    pub read_11 : (need : ℕ) → need ≡ token_size * m → length output < need
        → Outcome (read_back_call image tree output) output (Refused (reasons.ShortOutput need)) output
    read_11 need q l =
        let n : need ≡ needed h.valid.tree = omega (arith, q, counted) in
        rw n (by_3 (passed (valid_sized h.valid) (passed (valid_holds h.valid) (refused (exactly (λ x. omega (arith, n, l, x)))))))

    pub read_done : (output' : List ℕ) (i j : ℕ) → token_size * m ≤ length output
        → Gave nodes o 0 output 0 m i j output'
        → Outcome (read_back_call image tree output) output (Accepted (read_counts o)) output'
    read_done output' i j l u =
        let w : List Token = yield h.valid.tree in
        let t : take (m - 0) (leaves_from nodes o 0) ≡ w = rw (leaves_whole nodes o, leaves rows head S tree nodes o h) (take_all (m - 0) w (omega (arith, counted))) in
        let a : Added w output output' 0 j = rw t at u.added in
        let q : token_size * j ≡ needed h.valid.tree = omega (arith, a.count) in
        let s : output' ≡ token_bytes w ++ drop (needed h.valid.tree) output = rw (← q) a.is in
        by_3 (passed (valid_sized h.valid) (passed (valid_holds h.valid) (passed (omega (arith, counted, l)) (accepting (record { counts = ap read_counts h.count; bytes = s })))))
