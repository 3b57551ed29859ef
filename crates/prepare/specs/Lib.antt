-- The texts that a service needs, in the paper's order, and what is ready once they are read.
pub mod Texts
pub mod Ready
