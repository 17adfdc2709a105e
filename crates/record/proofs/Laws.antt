-- Laws that the answers of several functions share: what the code computes, in terms of the definitions.
pub mod Reading
pub mod Telling
pub mod Writing
pub mod Refiled
