mod Within
mod Counting
mod Ending
