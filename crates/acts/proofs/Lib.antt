pub mod Pages
pub mod Slots
pub mod Pinning
pub mod Mapping
pub mod Damage
pub mod Accesses
pub mod Answers
