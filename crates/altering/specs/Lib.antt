-- The old tree as it was walked, and what an edit comes to.
pub mod Treed
pub mod Outcome
-- The new tree's nodes get their slots.
pub mod Settling
pub mod Parts
-- The ways through the code.
pub mod Altering
pub mod Course
-- Laying out and walking undo each other.
pub mod LaidWalked
