pub mod AdviceLaws
pub mod ReadLaws
pub mod TellingLaws
pub mod TextLaws
pub mod WalkLaws
