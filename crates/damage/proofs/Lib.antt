pub mod Told
pub mod Images
