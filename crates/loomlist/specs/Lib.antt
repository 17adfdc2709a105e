-- What the program's contracts cite.
pub mod Text
