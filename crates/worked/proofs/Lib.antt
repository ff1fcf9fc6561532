-- The bytes of the reference grammar's tables at their places.
pub mod Entries
-- Every example of the table holds.
pub mod Examples
-- The contracts rule out poor programs.
pub mod Poor
