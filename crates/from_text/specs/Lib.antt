pub mod FromText
