-- Laws: a parse of the first lent tokens, in the work area.
pub mod Front
