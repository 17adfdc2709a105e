-- Laws on tests, numbers in order, mentions, places and their pairs.
pub mod Basics
pub mod CountUp
pub mod Mentions
pub mod Pairing
pub mod Each
