-- The fields of a slot, and the walk of an area as a relation.
pub mod Slots
pub mod Frames
-- Which slots were visited, how the walk goes on, and what it finds.
pub mod Marks
pub mod Going
pub mod Reading
-- Bodies as numbers, frames and marks in bytes, and the code.
pub mod Digits
pub mod Words
pub mod Stacked
pub mod Judging
pub mod Turning
pub mod Walking
pub mod Closing
