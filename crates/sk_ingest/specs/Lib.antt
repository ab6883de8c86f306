pub mod Stops
pub mod Ingests
pub mod Takers
pub mod FedAndRead
pub mod Supplies
pub mod ItemWindows
