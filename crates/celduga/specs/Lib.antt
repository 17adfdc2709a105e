-- The C interface: how an answer is one number, and that every answer fits.
pub mod Code
pub mod Laws
