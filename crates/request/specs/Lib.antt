-- The request by places: its identities, its form, what is stored, and what reading it gives.
pub mod Claims
pub mod Forms
pub mod Faults
pub mod Stored
pub mod RequestReads
