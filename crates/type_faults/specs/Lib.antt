-- Which faults the types of a specification have, beside the first.
pub mod Parts
pub mod AllFaults
pub mod inner
