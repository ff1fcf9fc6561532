-- The laws that the proofs of the calls cite: what each check says.
pub mod GrammarChecks
pub mod AreaChecks
pub mod PrepareChecks
pub mod ParseChecks
pub mod EditChecks
pub mod ReadBackChecks
