mod Finding
mod Settling
mod Reached
