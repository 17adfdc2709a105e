-- Laws that the answers of several functions share: what a loop over the places has passed, and what the rules' tests
-- then tell.
pub mod Mentions
pub mod Parts
pub mod Counts
pub mod Loops
pub mod Strays
pub mod Totals
pub mod Turned
pub mod Mutual
pub mod Reversed
pub mod Orderly
