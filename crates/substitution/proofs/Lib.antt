pub mod SubstituteTurns
pub mod Laws
pub mod Examples
