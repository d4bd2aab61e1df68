pub mod method_links
pub mod selection_tables
