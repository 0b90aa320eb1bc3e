-- The specs of `links_at`.
pub mod LinksAt
