-- The index: the definitions that the contracts cite, and the laws about them.
pub mod Index
pub mod Operations
pub mod Steps
pub mod Graphs
pub mod Lows
pub mod Marks
pub mod Numbered
pub mod Laws
