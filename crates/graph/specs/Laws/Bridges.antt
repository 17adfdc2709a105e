-- Laws on theorem 5: bridges, and the lowpoints that find them.
pub mod Crossings
pub mod Stores
pub mod Lowpoints
pub mod Sweep
