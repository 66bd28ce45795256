-- what public contracts rest on
pub mod ByteParts
pub mod ColumnBytes
pub mod Layouts
pub mod Parts
pub mod ColumnReader
pub mod Reader
-- words of private contracts
pub mod Written
pub mod Builder
pub mod FileRules
pub mod Heading
pub mod Borrowed
