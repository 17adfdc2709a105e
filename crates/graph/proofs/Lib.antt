-- How many different numbers stand in a list, how many sections there are, and theorem 10.
pub mod Different
pub mod Sections
pub mod Theorems
