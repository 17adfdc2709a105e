-- Records: the definitions that the contracts cite, and the laws about them.
pub mod Record
pub mod Starts
pub mod Rules
pub mod Answers
pub mod Sized
pub mod Operations
pub mod Filing
pub mod Laws
pub mod Steps
