-- Laws: tokens written one behind the other; the leaves of a node list; the new sentence; what its parse stands on; tokens behind the nodes.
pub mod Adding
pub mod Leaves
pub mod Forming
pub mod Grounding
pub mod Behind
