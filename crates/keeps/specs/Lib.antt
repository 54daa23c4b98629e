pub mod Allowed
pub mod Numbers
pub mod Resumes
pub mod Images
