-- Meaning: which slots an edit keeps.
pub mod Keeping
-- The nodes of a forest by number.
pub mod Places
-- Derivation trees and the lookaheads at their nodes.
pub mod Guided
-- At most one node of a symbol starts with a token.
pub mod Stems
-- A new node keeps one slot at most, and a slot is kept by one at most.
pub mod One
-- The two trees of an edit, and what their sentences share.
pub mod Edited
-- A kept node has the same symbol and production in both trees.
pub mod Productions
-- Every node that starts before the place is kept.
pub mod Before
-- A kept node that starts after the removed run carries its whole subtree along.
pub mod After
-- So does every kept node that the edit doesn't touch.
pub mod Along
-- What the tree area keeps of a subtree that is carried along.
pub mod Untouched
-- A slot is kept exactly by the rule.
pub mod KeptSlots
-- The slots of the new tree: given in one way only, and enough of them.
pub mod Giving
-- The kept nodes and those given up are the old tree's.
pub mod Counts
-- An edit has one new tree and one set of counts.
pub mod Uniqueness
-- Laws: how much of the new sentence a parse looks at.
pub mod Cut
