pub mod EachLaws
pub mod ShownLaws
pub mod MismatchLaws
pub mod AcceptLaws
pub mod DoubtLaws
pub mod WhyLaws
pub mod WholeLaws
pub mod SpliceLaws
