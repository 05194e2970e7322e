pub mod Range
pub mod Patterns
pub mod Orders
