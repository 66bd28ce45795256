mod Answered
mod Decimal
pub mod Moments
pub mod NumberFile
