pub mod Chains
pub mod Parts
pub mod PlaceTests
pub mod Sequence
pub mod Readings
pub mod Bytes
