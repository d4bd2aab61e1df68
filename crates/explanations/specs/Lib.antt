pub mod thread_explanations
