pub mod AppendLaws
pub mod EqualLaws
pub mod OutboxLaws
