pub mod Typing
pub mod Pages
pub mod Decimal
pub mod Answers
