-- The laws that the proof of edit cites: what each check on the way says of the call.
use Rattle.std.specs.Prelude.{ℕ, ◌+◌, ◌*◌, ◌≤◌, ◌≡◌, Result, Err, List, length}
use Rattle.std.proofs.Common.{arith}
use Rattle.base.specs.Bytes.{get16}
use Rattle.base.specs.Choose.{never}
use Rattle.grammar.specs.Grammar.{Grammar}
use Rattle.grammar.specs.Forest.{yield}
use Rattle.tables.specs.Tables.{Tables}
use Rattle.trees.specs.Area.{work_areas, tokens_place, Valid}
use Rattle.plain.specs.Tokens.{BadToken}
use Rattle.plain.specs.Outcome.{Counted}
use Rattle.edits.specs.Keeping.{edit_of}
use Rattle.altering.specs.Outcome.{tokens_in}
use Rattle.editing.specs.Editing.{Finds, finds_tree, finds_none, finds_short, tokens_counted, Renews}
use Rattle.replies.specs.Reply.{reply_of}
use Rattle.replies.specs.declared.Counts.{Counts}
use Rattle.replies.specs.declared.Reply.{Reply}
use Rattle.replies.specs.declared.Reason.{Reason}
use Rattle.replies.specs.declared.Reason.TheVariants as reasons
use Rattle.replies.specs.declared.Reply.TheVariants.{Refused}
use Rattle.calls.specs.Order.{Outcome, refused, passed, exactly, at}
use Rattle.calls.specs.Checks.{Sized, area}
use Rattle.calls.specs.Edit.{edit_with, edit_call}
use Rattle.calls.proofs.CheckLaws.{valid_of, valid_sized, valid_holds, given_passed}
use Rattle.calls.specs.CheckLaws.{Fit}
use Rattle.grammar.specs.declared.Head.{Head}
use Rattle.kindlesap.specs.declared.checks.Analysis.{Analysis}
use Rattle.kindlesap.specs.GrammarChecks.{Checks, checked_refused}
use Rattle.kindlesap.specs.ParseChecks.{counted}

-- replies 1 to 3
pub edit_3 : (tables tokens : List ℕ) (place removed room : ℕ) (tree : List ℕ) {image : List ℕ}
    {k : Analysis} {r : Result Head Reason} (p : Reason) → Checks image k r → r ≡ Err p
    → Outcome (edit_call image tables tokens place removed room tree) tree (Refused p) tree
edit_3 tables tokens place removed room tree p h e =
    checked_refused (edit_with tables tokens place removed room tree) tree p h e

module _ {image : List ℕ} {G : Grammar} (f : Fit image G) (tables tokens : List ℕ) (place removed room : ℕ)
    (tree : List ℕ) where
  by_3 : {r : Reply} {tree' : List ℕ} → Outcome (edit_with tables tokens place removed room tree G) tree r tree'
      → Outcome (edit_call image tables tokens place removed room tree) tree r tree'
  by_3 o = given_passed (edit_with tables tokens place removed room tree) f o

  pub edit_4 : (Tables G tables → ⊥)
      → Outcome (edit_call image tables tokens place removed room tree) tree (Refused reasons.WrongTables) tree
  edit_4 n = by_3 (refused (exactly n))

  module _ (t : Tables G tables) where
    pub edit_5 : (p : Reason) → (p ≡ reasons.WrongTree) × (area (length tree)).Fail reasons.WrongTree
        → Outcome (edit_call image tables tokens place removed room tree) tree (Refused p) tree
    edit_5 p n = rw n.0 (by_3 (passed t (refused n.1)))

    pub edit_5_6 : (S : ℕ) → Sized S (length tree) → {work : List ℕ} {r : Result ℕ Reason} (p : Reason)
        → Finds G S tree room work r → r ≡ Err p → Outcome (edit_call image tables tokens place removed room tree) tree (Refused p) tree
    edit_5_6 S z p (finds_tree h l m) e = never (cc)
    edit_5_6 S z p (finds_none n) e =
        let q : p ≡ reasons.WrongTree = cc in
        rw q (by_3 (passed t (passed z (refused (exactly (λ _ h. n (valid_of z h)))))))
    edit_5_6 S z p (finds_short v l) e =
        let q : p ≡ reasons.ShortWork (work_areas * length tree) = cc in
        rw q (by_3 (passed t (passed (valid_sized v) (passed (valid_holds v) (refused (exactly (λ m. omega (arith, l, m))))))))

    module _ (S : ℕ) (v : Valid G S tree) where
      module _ (l : work_areas * length tree ≤ room) where
        pub edit_7 : {k : ℕ} → BadToken G.t tokens k
            → Outcome (edit_call image tables tokens place removed room tree) tree (Refused (reasons.BadToken k)) tree
        edit_7 b =
            by_3 (passed t (passed (valid_sized v) (passed (valid_holds v) (passed l (refused (at b))))))

        module _ {m : ℕ} (u : Counted G.t tokens m) (k : ℕ)
            (c : k ≡ get16 tree tokens_place) where
          count_is : k ≡ length (yield v.tree)
          count_is = tokens_counted v k c

          pub edit_8 : (place + removed ≤ k → ⊥)
              → Outcome (edit_call image tables tokens place removed room tree) tree (Refused (reasons.BeyondTokens k)) tree
          edit_8 o =
              rw count_is (by_3 (passed t (passed (valid_sized v) (passed (valid_holds v) (passed l (passed (counted u).sentence (refused (exactly (λ i. o (omega (arith, i, count_is)))))))))))

          pub edit_rest : place + removed ≤ k → (r : Result Counts Reason) (tree' : List ℕ)
              → Renews G S (edit_of place removed (tokens_in tokens)) tree r tree'
              → Outcome (edit_call image tables tokens place removed room tree) tree (reply_of r) tree'
          edit_rest o r tree' h =
              by_3 (passed t (passed (valid_sized v) (passed (valid_holds v) (passed l (passed (counted u).sentence (passed (omega (arith, o, count_is)) (h.all v)))))))
