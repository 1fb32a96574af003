-- The filling of one new block.
pub mod Fill
