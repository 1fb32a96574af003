-- Records made of plain numbers, for laws and inner contracts that have those.
pub mod Ways
