pub mod Laws
pub mod DigitLaws
pub mod WordLaws
pub mod Examples
