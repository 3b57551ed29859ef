-- The laws of the printed lamp.
pub mod LampTextLaws
