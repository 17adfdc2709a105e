-- Laws about the queries: answers settle values, order Q, numbers of 16 bits, answers on a view that shows a forest,
-- the view and the bits of a built index, Lookup beside the single calls, and which refusals are given.
pub mod Settled
pub mod Framed
pub mod Asked
pub mod Inside
pub mod Small
pub mod Marks
pub mod Shown
pub mod Built
pub mod Ready
pub mod Answered
pub mod Edges
pub mod Columns
pub mod Figured
pub mod Sectioned
pub mod Twelve
pub mod Asks
pub mod Looked
pub mod Given
