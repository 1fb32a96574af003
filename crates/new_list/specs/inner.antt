-- A write by growths, each new block filled before the next one.
pub mod Write
pub mod Put
