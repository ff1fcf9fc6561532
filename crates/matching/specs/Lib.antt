-- How long a node's subtree is and how many tokens it has; where the nodes of a token begin.
pub mod Measure
pub mod Finding
-- What a kept node hands on, and subtrees that are carried along.
pub mod Handing
pub mod Carrying
pub mod Kids
-- The old node of each new one: one turn, then all of them, and the lists as they stand in the work area.
pub mod Matching
pub mod Through
pub mod Noted
