-- Document 01's example: what the program prints for it.
pub mod Example
