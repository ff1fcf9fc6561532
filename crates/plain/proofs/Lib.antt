-- Theorems: which sentences are accepted; reply 9's place; every parse ends.
pub mod Exactly
pub mod Viable
pub mod Ends
-- Laws: a parse of the parts of a work area.
pub mod Joined
-- Law: a parse that stops before the end, of a place with room; in proofs/, since `at_rest` is what an edit of a definition breaks.
pub mod Rest
-- Laws: a turn of a parse whose nodes and symbols stand in one work area.
pub mod Whole
