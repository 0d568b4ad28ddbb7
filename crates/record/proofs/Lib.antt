mod Filling
mod Taking
mod Frames
mod Whole
