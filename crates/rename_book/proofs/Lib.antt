-- The laws of the renaming.
pub mod RenameLaws
