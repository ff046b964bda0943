mod Counting
mod Judging
