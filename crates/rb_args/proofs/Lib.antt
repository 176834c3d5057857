pub mod ChoiceLaws
pub mod CommandLaws
pub mod RuleLaws
