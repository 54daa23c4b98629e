pub mod Guarantee
pub mod Resumes
pub mod Images
pub mod Policies
pub mod Secrecy
