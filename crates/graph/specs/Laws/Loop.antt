-- Laws on theorem 8: the invariant of a loop that searches.
pub mod Machine
pub mod Arrays
pub mod Stack
pub mod Invariant
