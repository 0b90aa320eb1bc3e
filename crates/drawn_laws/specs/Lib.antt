-- The specs of `drawn_laws`.
pub mod DrawnLaws
