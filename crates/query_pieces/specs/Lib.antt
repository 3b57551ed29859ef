pub mod Walk
pub mod Named
pub mod Faults
pub mod Steps
