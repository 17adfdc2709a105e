-- Laws about what the code computes.
pub mod Ones
pub mod Ordered
pub mod Marked
pub mod Asking
pub mod Stepping
pub mod Climbing
pub mod Singles
pub mod Visiting
pub mod Paired
pub mod Tabling
pub mod TableRules
pub mod Rooms
pub mod Knowing
pub mod Looking
pub mod Alike
pub mod Answering
