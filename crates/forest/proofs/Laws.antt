-- Laws about what the code computes: the search over the work slice, the roots, the lowpoints, the sections.
pub mod Graphs
pub mod Stores
pub mod Tied
pub mod Stepping
pub mod Rooting
pub mod Begins
pub mod Lowest
pub mod Lifted
pub mod Marked
pub mod Listed
pub mod Owned
pub mod Bridged
pub mod Numbers
pub mod Fronts
pub mod Building
pub mod Loops
pub mod Figuring
