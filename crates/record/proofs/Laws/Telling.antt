-- What rules 6, 8 and 16 tell, and what Unpack and File answer and leave.
pub mod InTurn
pub mod Unpacking
pub mod Filing
