-- The reasoning behind the node names' service.
pub mod NameLaws
