pub mod Stealth
