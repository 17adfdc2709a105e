-- Laws on theorem 3: what the search does.
pub mod Arcs
pub mod Segments
pub mod Descent
pub mod Order
