mod Ends
mod Parts
mod Found
