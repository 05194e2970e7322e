pub mod Digits
pub mod Sets
pub mod Told
pub mod Counts
pub mod Order
