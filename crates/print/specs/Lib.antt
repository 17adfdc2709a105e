-- What contracts here cite.
pub mod Told
