pub mod FaultLaws
pub mod SuitLaws
pub mod PutLaws
pub mod EntryLaws
