mod Calls
mod Lost
mod Model
mod Names
mod Order
mod Walks
