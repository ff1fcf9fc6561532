-- Laws of every call, and of the checks.
pub mod OrderLaws
pub mod CheckLaws
-- Each call has one outcome only.
pub mod CallsUnique
-- The plain parse decides.
pub mod Verdicts
-- The demands at the calls.
pub mod Demand2
pub mod Demand3
-- Across calls.
pub mod RoundTrips
