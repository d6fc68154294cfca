pub mod FileLaws
pub mod Whole
pub mod FileInstances
pub mod Answered
