pub mod Rows
pub mod Windows
pub mod Writing
pub mod Reading
pub mod Answers
pub mod Cases
pub mod Promises
