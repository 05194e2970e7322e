pub mod Width
pub mod Known
pub mod Members
pub mod Numbers
pub mod Counting
pub mod Steps
