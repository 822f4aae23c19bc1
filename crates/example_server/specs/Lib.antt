pub mod Accounts
pub mod Answers
pub mod Connection
pub mod Connections
pub mod Held
pub mod Serving
pub mod Staff
