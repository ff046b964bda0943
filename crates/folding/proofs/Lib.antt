mod Ends
mod Gives
