-- Laws that the answers of several functions share: what the code computes, in terms of the definitions.
pub mod Joined
pub mod Turned
pub mod Tops
pub mod Stored
pub mod Entries
pub mod Halves
pub mod Passes
pub mod Found
pub mod Windows
pub mod FromBit
