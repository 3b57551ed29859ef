-- The laws behind the query writer.
pub mod ValueLaws
pub mod ModelLaws
pub mod InsideLaws
