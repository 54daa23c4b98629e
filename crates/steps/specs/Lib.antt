pub mod Acting
pub mod Promises
pub mod Parts
pub mod Turns
