-- what public contracts rest on
pub mod Faults
pub mod Ends
pub mod Printed
pub mod StatusAnswers
pub mod Sources
