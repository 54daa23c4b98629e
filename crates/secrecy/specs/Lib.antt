pub mod Secrecy
pub mod Leaks
pub mod Looks
pub mod Samples
