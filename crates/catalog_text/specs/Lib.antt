pub mod Catalog
pub mod Things
