pub mod Sits
pub mod Refused
pub mod Sitting
pub mod Left
pub mod Decodes
pub mod Instances
pub mod ListPromises
