mod Balanced
mod Crossed
mod Holding
mod Rounds
