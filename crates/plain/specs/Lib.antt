-- Meaning: the plain parse.
pub mod Plain
-- Meaning: trees that fit, viable beginnings.
pub mod Exactly
pub mod Viable
-- Laws: one verdict; the parse over a forest; forests but for slots.
pub mod One
pub mod Traced
pub mod Alike
pub mod Tokens
pub mod Parsing
pub mod Machine
pub mod Text
pub mod Outcome
pub mod Lending
