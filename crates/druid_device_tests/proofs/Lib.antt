pub mod TwoFolders
