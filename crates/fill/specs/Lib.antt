-- Stretches of words.
pub mod Filled
pub mod FilledLaws
pub mod Examples
