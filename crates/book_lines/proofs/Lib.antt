-- Why a line is read as the definition reads it.
pub mod PieceLaws
pub mod LineLaws
pub mod EntryForms
pub mod LineSteps
