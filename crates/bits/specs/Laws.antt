-- Laws about the definitions, one idea a file. Code is not spoken of here.
pub mod Digits
pub mod Bytes
pub mod Fields
pub mod Joined
pub mod Formula
pub mod Puts
pub mod Packing
pub mod Rank
pub mod Select
pub mod Spans
pub mod Begun
