-- The rules' lines by places.
pub mod Forms
pub mod Faults
pub mod Stored
pub mod Policies
pub mod Steps
pub mod Loaded
