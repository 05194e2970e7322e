pub mod Ascents
pub mod Folding
