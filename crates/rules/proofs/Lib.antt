-- Laws of the rules' lines.
pub mod FormLaws
pub mod TestLaws
pub mod StoreLaws
pub mod CategoryLaws
pub mod PolicyFaults
pub mod PolicyStores
pub mod StepLaws
pub mod LoadLaws
