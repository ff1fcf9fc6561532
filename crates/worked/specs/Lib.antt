-- The reference grammar's words and cells, computed.
pub mod Words
pub mod Ready
pub mod Entries
pub mod Sums
-- A parse that can be run.
pub mod Run
-- Which slots an edit keeps, and tests of a new tree, computed.
pub mod Match
pub mod Alter
-- Trees with right slots and tags have an area, and accepted sentences such a tree.
pub mod Laid
pub mod Ordered
-- Edits and calls of parse as rows of the table.
pub mod EditRows
pub mod Edits
pub mod Calls
-- The table of examples, and poor programs that the contract rules out.
pub mod Examples
pub mod Poor
