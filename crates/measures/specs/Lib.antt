pub mod Scales
pub mod Values
pub mod Ranks
pub mod Cards
pub mod Writing
pub mod Sheets
