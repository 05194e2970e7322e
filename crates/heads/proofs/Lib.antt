pub mod Comparing
pub mod Fields
pub mod Ordering
