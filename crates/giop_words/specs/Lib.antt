pub mod Bodies
pub mod Requests
pub mod Said
pub mod Faults
