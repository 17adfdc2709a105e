-- A graph in two arrays: the definitions that the contracts cite, and the laws about them.
pub mod Arrays
pub mod Places
pub mod Tally
pub mod Reverse
pub mod Laws
