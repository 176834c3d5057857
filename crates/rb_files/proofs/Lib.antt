pub mod FindLaws
pub mod IgnoredLaws
pub mod NameLaws
pub mod PlaceLaws
pub mod WalkLaws
