pub mod Words
pub mod View
pub mod FreshBytes
pub mod Calls
pub mod Policies
pub mod Columns
pub mod Values
