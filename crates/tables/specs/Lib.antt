-- Meaning: the tables.
pub mod Tables
-- Laws: there is one such list of bytes; how the code finds and writes it.
pub mod One
pub mod Cells
pub mod Short
pub mod Points
pub mod Implied
pub mod Grid
pub mod Live
pub mod Writing
pub mod Checking
pub mod Outcome
