-- Laws of the meaning: stems.
pub mod Paths
pub mod Stems
-- Laws for the code: which productions a lookahead hits, the listing of them, useless symbols, conflicts.
pub mod Hits
pub mod Listing
pub mod Idle
pub mod Verdict
