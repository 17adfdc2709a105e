-- Bit strings: the definitions that the contracts cite, the laws about them, and worked examples.
pub mod Bits
pub mod Steps
pub mod Formula
pub mod Spans
pub mod Laws
mod Examples
