-- Meaning: what document 01 says of grammars.
pub mod Limits
pub mod Grammar
pub mod Image
pub mod Derivation
pub mod Prediction
pub mod Forest
pub mod Reference
-- Laws of the meaning.
pub mod Each
pub mod Trees
pub mod Images
pub mod Single
pub mod Rules
pub mod Formed
-- The reader: the rows that it leaves, how it goes, what it promises, and that every image has an outcome.
pub mod Rows
pub mod RowRules
pub mod Reading
pub mod Outcome
pub mod Decided
