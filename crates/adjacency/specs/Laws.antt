-- Laws about the definitions, one idea a file.
pub mod Rows
pub mod Anywhere
pub mod Kept
pub mod Known
pub mod Tells
pub mod Stores
pub mod InOrder
pub mod Zeros
pub mod Totals
