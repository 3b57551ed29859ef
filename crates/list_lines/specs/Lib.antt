-- The lines that the list program prints.
pub mod Printing
