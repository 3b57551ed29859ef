-- Which names are marked, the text with `_b` behind them as the code puts it, and how far it is put.
pub mod Marks
pub mod Words
pub mod Renamed
pub mod Progress
pub mod Examples
