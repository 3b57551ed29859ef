-- The laws of the printed renaming.
pub mod FrontLaws
