-- The rules in words: layout, view, well-formed words, stores.
pub mod Layout
pub mod View
pub mod Fits
pub mod Agree
pub mod Stores
pub mod Enforced
