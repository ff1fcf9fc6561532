-- Meaning: the text that the program prints.
pub mod Text
-- A number's digits are the fewest that hold it.
pub mod Digits
-- The laws that the proofs of the code cite.
pub mod Writing
pub mod Rows
pub mod Printing
-- Document 01's example.
pub mod Example
