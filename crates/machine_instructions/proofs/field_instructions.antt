pub mod OnTop
pub mod Referred
pub mod Instances
pub mod StaticSlots
pub mod Elements
