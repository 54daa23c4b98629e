pub mod Bytes
pub mod Typed
