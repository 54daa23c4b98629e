pub mod Pinned
pub mod Mapped
pub mod Reads
