pub mod InstructionLaws
pub mod StartLaws
