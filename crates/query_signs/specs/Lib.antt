pub mod Marks
pub mod Reads
pub mod Expected
