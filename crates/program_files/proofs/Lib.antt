pub mod GivenLemmas
pub mod HandedLemmas
