pub mod Parts
pub mod Rules
pub mod Sheets
pub mod Printing
