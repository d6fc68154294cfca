pub mod States
pub mod Calls
pub mod Words
pub mod Parts
pub mod Promises
pub mod Lists
pub mod Filling
