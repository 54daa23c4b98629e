pub mod Choice
pub mod Search
pub mod Bits
pub mod Cut
