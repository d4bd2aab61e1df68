pub mod Elements
pub mod Heap
pub mod Layout
pub mod java_threads
pub mod lock_word
pub mod monitor
pub mod monitor_events
