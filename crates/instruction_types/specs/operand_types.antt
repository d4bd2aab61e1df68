pub mod View
pub mod RowView
pub mod Local
