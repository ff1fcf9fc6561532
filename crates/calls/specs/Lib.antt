-- Meaning: a call as checks in their order; document 01's checks; the calls.
pub mod Order
pub mod Checks
pub mod Prepare
pub mod Parse
pub mod Edit
pub mod ReadBack
-- What the laws of the calls, in proofs/, speak of.
pub mod OrderLaws
pub mod CheckLaws
pub mod Verdicts
pub mod Demand2
pub mod Demand3
pub mod RoundTrips
