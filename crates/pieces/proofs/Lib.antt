pub mod Bytes
pub mod Heading
pub mod AtHand
pub mod Feeding
pub mod Answers
