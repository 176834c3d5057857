pub mod DeriveLaws
pub mod EqualLaws
