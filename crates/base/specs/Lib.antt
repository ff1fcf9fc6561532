-- The proof kit that every crate above uses. It has laws and no meaning of its own.
pub mod Choose
pub mod Loop
pub mod Tells
pub mod Bits
pub mod Bytes
pub mod Blocks
pub mod Filled
pub mod Written
