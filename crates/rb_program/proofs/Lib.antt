pub mod WrittenLaws
pub mod ColonLaws
pub mod ShownLaws
pub mod EndLaws
pub mod LookLaws
pub mod ToldLaws
pub mod HandedLaws
pub mod NoteLaws
