-- The specs of `listing_text`.
pub mod Listing
