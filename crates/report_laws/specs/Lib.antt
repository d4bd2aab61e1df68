pub mod printed_parts
