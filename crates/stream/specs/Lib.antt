pub mod Bits
pub mod Refusals
pub mod Calls
pub mod Fits
pub mod Cases
pub mod Promises
