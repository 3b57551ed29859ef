-- The laws of the lamp.
pub mod LampLaws
