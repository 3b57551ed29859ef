-- Small facts of logic: on tests, alone and joined by `and` and `or`, and on what stands in a list.
pub mod Tests
pub mod Lists
pub mod Flags
pub mod Parts
