pub mod CallFaults
