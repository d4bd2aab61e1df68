pub mod linkable_code
pub mod linked_bodies
pub mod linked_instructions
pub mod linked_places
