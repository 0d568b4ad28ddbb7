mod Starting
mod VoidCells
mod Those
mod Pressing
mod Constraining
mod Judging
mod Hourly
