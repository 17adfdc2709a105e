-- The laws that the answers share; each function's answers stand in a folder of its name.
pub mod Laws
-- Theorems, beside those of specs/Demands.antt.
pub mod Demands
