pub mod OneOutcome
pub mod HeldReads
pub mod Instances
