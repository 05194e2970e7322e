pub mod Nths
pub mod Holding
pub mod Sorting
pub mod Less
