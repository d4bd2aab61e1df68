pub mod Adding
pub mod OpenedHeap
pub mod OpenedClasses
pub mod OpenedStates
