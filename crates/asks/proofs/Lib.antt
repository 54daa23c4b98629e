pub mod Folds
pub mod Maps
pub mod Tables
pub mod Row
pub mod Pages
pub mod Actions
