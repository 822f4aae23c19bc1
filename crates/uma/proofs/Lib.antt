pub mod Shared
mod Knows
mod NoneLeft
mod Ready
mod Freed
mod Refusing
mod Lines
