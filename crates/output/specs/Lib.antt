pub mod Output
pub mod Promises
pub mod Stream
