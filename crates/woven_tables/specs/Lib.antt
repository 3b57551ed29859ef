-- The woven pattern in words: its tables and what they say, what is asked of a pattern, and what storing its parts does.
pub mod Tables
pub mod Steps
pub mod Reading
pub mod ClauseSteps
