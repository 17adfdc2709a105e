-- What the code writes of a record: D by the degrees, the fields by the neighbours, and all of it together.
pub mod Unary
pub mod Fields
pub mod Whole
