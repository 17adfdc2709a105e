-- Laws behind the answers.
pub mod Coded
