-- The laws that the code rests on: of sums, of names without their case, of later names from their end, of names by number, of walks along a chain, and
-- of lengths.
pub mod Totals
pub mod CaseLaws
pub mod LaterLaws
pub mod NumberLaws
pub mod WalkLaws
pub mod EndLaws
pub mod MarkLaws
pub mod LengthLaws
pub mod SuffixLaws
pub mod StuckLaws
