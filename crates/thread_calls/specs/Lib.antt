pub mod thread_methods
