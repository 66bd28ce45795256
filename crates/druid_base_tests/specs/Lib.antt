-- words of private contracts
pub mod Others
