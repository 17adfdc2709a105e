-- Laws on theorems 9 and 10: roots, looms, wires and sections, counted.
pub mod Sums
pub mod Places
pub mod Entries
pub mod Edges
pub mod Parted
pub mod Names
pub mod Roots
pub mod Looms
pub mod Loops
pub mod Sections
