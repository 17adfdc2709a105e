-- Laws about the index, and about the loop figure.
pub mod Sections
pub mod Ones
pub mod Starts
pub mod Marking
pub mod Bytes
pub mod Taken
pub mod Figures
