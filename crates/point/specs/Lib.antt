pub mod Points
pub mod Alike
pub mod Cases
pub mod Promises
