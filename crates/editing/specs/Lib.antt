-- What the checks of edit say, and what an alteration says of the rest of the call.
pub mod Editing
