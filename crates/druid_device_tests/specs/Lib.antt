-- words of private contracts
pub mod TwoFolders
