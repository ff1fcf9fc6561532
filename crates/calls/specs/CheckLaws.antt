-- Images that replies 1 to 3 let pass, and why they refuse the others.
use Rattle.std.specs.Prelude.{ℕ, List}
use Rattle.grammar.specs.Grammar.{Grammar}
use Rattle.grammar.specs.Derivation.{Useless, Lowest}
use Rattle.grammar.specs.Prediction.{Prepared, Conflict}
use Rattle.grammar.specs.Image.{Image, Bad}
use Rattle.replies.specs.declared.Reason.{Reason}
use Rattle.replies.specs.declared.Reason.TheVariants as reasons

-- the image is that of a grammar that is well formed, has no useless nonterminal and is LL(1)
pub record Fit (image : List ℕ) (G : Grammar) : Type 0 where
  pub reads : Image image G
  pub prepared : Prepared G

-- the reason of the three replies
pub data Unfit (image : List ℕ) : Reason → Type 0 where
  bad_image : {k : ℕ} → Bad image k → Unfit image (reasons.BadGrammar k)
  useless : {G : Grammar} {M : ℕ} → Image image G → Lowest (Useless G) M → Unfit image (reasons.UselessSymbol M)
  conflict : {G : Grammar} {M : ℕ} → Image image G → ((N : ℕ) → Useless G N → ⊥) → Lowest (Conflict G) M
      → Unfit image (reasons.NotLl1 M)
