-- Laws on theorem 6: heads, and the climbs that find them.
pub mod Sections
pub mod Walks
pub mod Limits
