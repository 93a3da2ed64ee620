mod Parts
mod Spelled
