-- Laws on theorem 1: entries, visit numbers, and what is read by climbing.
pub mod Entries
pub mod Numbers
pub mod Climbs
pub mod Ancestors
