-- The definition that an inner contract of `programs` cites.
pub mod Place
