pub mod Cases
pub mod Points
