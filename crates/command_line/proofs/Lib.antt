pub mod ClashLemmas
pub mod CommandLineLemmas
mod CommandNames
pub mod EscapedTextLemmas
pub mod GoalLemmas
pub mod ParserLemmas
pub mod PathLemmas
pub mod PolicyLemmas
pub mod ProgramLemmas
mod SweepLemmas
mod TraceLemmas
