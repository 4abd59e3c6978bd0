pub mod Rules
pub mod Ending
pub mod Streams
pub mod Sites
pub mod Named
