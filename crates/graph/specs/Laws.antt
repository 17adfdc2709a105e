-- The laws. Each group, and each file of a group, rests only on those above it in its list; the numbers are those of
-- `Theorems`.
pub mod Places
pub mod Tree
pub mod Run
pub mod Joined
pub mod Edges
pub mod Bridges
pub mod Heads
pub mod Loop
pub mod Counts
