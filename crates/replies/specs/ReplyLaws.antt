-- Laws of the reply: its first four bytes are its number; no refusal has number 0.
use Rattle.std.specs.Prelude.{ℕ, ◌+◌, ◌-◌, ◌%◌, ◌≤◌, ◌<◌, min, ◌≡◌, refl, ◌↔◌, List, length, take, drop}
use Rattle.std.proofs.Common.{sym, ap, ◌∙◌, take-take, length-take-le, arith}
use Rattle.std.proofs.lemmas.List.{take-append-le}
use Rattle.base.specs.Bytes.{le_bytes}
use Rattle.base.specs.Blocks.{copied}
use Rattle.replies.specs.Reply.{number_of, word_size, reply_bytes}
use Rattle.replies.specs.declared.Reason.{Reason}
use Rattle.replies.specs.declared.Reply.{Reply}
use Rattle.replies.specs.declared.Reason.TheVariants.{BadGrammar, UselessSymbol, NotLl1, WrongTables, WrongTree, ShortWork, BadToken, BeyondTokens, Syntax, NoRoom, ShortOutput}
use Rattle.replies.specs.declared.Reply.TheVariants.{Accepted, Refused}

-- a refusal's number is not 0, and is one byte
pub refused_number : (p : Reason) → (1 ≤ number_of (Refused p)) × (number_of (Refused p) < 256)
refused_number (BadGrammar k) = (omega arith, omega arith)
refused_number (UselessSymbol k) = (omega arith, omega arith)
refused_number (NotLl1 k) = (omega arith, omega arith)
refused_number WrongTables = (omega arith, omega arith)
refused_number WrongTree = (omega arith, omega arith)
refused_number (ShortWork k) = (omega arith, omega arith)
refused_number (BadToken k) = (omega arith, omega arith)
refused_number (BeyondTokens k) = (omega arith, omega arith)
refused_number (Syntax k x) = (omega arith, omega arith)
refused_number NoRoom = (omega arith, omega arith)
refused_number (ShortOutput k) = (omega arith, omega arith)

number_small : (r : Reply) → number_of r < 256
number_small (Accepted c) = omega arith
number_small (Refused p) = (refused_number p).1

-- what is copied to the beginning of a slice begins as it does
take_copied : (k : ℕ) (b s : List ℕ) → k ≤ length b → k ≤ length s → take k (copied b 0 s) ≡ take k s
unfolding copied
take_copied k b s l m =
    let n : ℕ = min (length s) (length b - 0) in
    let e : length (take n s) ≡ n = length-take-le n s (omega arith) in
    take-append-le k (take n s) (drop (0 + n) b) (omega (arith, e)) ∙ take-take k n s (omega arith)

-- the number's bytes come first
number_first : (r : Reply)
    → (word_size ≤ length (reply_bytes r)) × (take word_size (reply_bytes r) ≡ le_bytes word_size (number_of r))
unfolding reply_bytes le_bytes
number_first r = (omega arith, refl)

same_number : (m n : ℕ) → m < 256 → n < 256 → le_bytes word_size m ≡ le_bytes word_size n → m ≡ n
unfolding le_bytes
same_number m n l k e = let q : m % 256 ≡ n % 256 = cc in omega arith

-- so a slice that holds them tells it
pub number_told : (b b' : List ℕ) (r : Reply) → word_size ≤ length b → b' ≡ copied b 0 (reply_bytes r) → (n : ℕ)
    → n < 256 → (take word_size b' ≡ le_bytes word_size n) ↔ (number_of r ≡ n)
number_told b b' r l e n k =
    let f = number_first r in
    let q : take word_size b' ≡ le_bytes word_size (number_of r) = ap (take word_size) e ∙ take_copied word_size b (reply_bytes r) l f.0 ∙ f.1 in
    (λ h. same_number (number_of r) n (number_small r) k (sym q ∙ h), λ h. q ∙ ap (le_bytes word_size) h)
