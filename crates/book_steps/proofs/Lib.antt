-- Why a line's faults are those of the definition, and why what is stored is the line.
pub mod StepLaws
pub mod OwnerLaws
pub mod RelLaws
