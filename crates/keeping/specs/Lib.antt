-- The slots that the new nodes hold, and their marks.
pub mod Matched
pub mod Marking
-- The other nodes get theirs: the lowest free slot, one node, all of them.
pub mod Filling
-- The new tree with its slots.
pub mod Result
-- What stays while the slots are marked and given.
pub mod Seen
