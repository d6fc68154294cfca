pub mod States
pub mod Codes
pub mod Calls
pub mod Lists
pub mod Parts
pub mod Promises
