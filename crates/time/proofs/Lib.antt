mod Tighter
mod Sums
