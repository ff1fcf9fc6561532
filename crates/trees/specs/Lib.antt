-- Meaning: the tree area, and that a forest has one.
pub mod Area
pub mod AreaOne
pub mod Members
-- A forest and the list of its nodes, and that list in bytes.
pub mod Nodes
pub mod Coded
pub mod Listing
-- An area laid out from the list: slots written and left, trees that become children, node by node.
pub mod Spread
pub mod Slots
pub mod Adopting
pub mod Laying
