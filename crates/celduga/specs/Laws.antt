-- Laws about the numbers that the C interface returns: the two halves can be told apart, and every value fits the low
-- one.
pub mod Halves
pub mod Small
