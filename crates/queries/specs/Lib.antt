-- The queries: the definitions that the contracts cite, and the laws about them.
pub mod View
pub mod Seen
pub mod Queries
pub mod Operations
pub mod Answers
pub mod Steps
pub mod Written
pub mod Table
pub mod Lookup
pub mod Given
pub mod Filling
pub mod Looking
pub mod Laws
pub mod Demands
pub mod Examples
