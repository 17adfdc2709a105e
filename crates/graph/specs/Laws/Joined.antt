-- Laws on joined, the forest of a whole graph, and theorems 4 and 7.
pub mod Chains
pub mod Reach
pub mod Spanning
pub mod Starts
pub mod Roots
