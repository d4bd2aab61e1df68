pub mod racy_states
