-- Laws of comparisons, for the proofs of the comparisons and of their callers.
pub mod CompareLaws
