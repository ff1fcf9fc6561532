-- Laws: what words of bits say, that a sweep keeps it true, that words which a sweep leaves as they are say everything.
pub mod Closures
pub mod Words
pub mod Growth
pub mod Facts
pub mod Still
pub mod Complete
pub mod Known
pub mod Sweeps
pub mod Bounds
pub mod Rounds
pub mod Decidable
