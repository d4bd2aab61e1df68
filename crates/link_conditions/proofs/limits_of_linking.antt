pub mod TextLaws
pub mod CellLaws
pub mod ClimbLaws
pub mod MainLaws
