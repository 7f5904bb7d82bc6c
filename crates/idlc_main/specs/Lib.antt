pub mod Files
pub mod Answer
pub mod Called
pub mod Descriptions
pub mod Fault
pub mod Tables
pub mod Service
pub mod Dumps
