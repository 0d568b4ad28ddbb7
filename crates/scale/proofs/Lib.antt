mod Bounds
mod Written
