-- Laws about rules and answers, one idea a file.
pub mod First
pub mod Told
pub mod Settled
