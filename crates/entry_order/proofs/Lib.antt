-- The laws behind the slots.
pub mod SlotLaws
