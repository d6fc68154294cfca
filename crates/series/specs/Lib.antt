pub mod Sittings
pub mod Promises
pub mod ListPromises
