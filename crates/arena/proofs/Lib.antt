mod Cuts
mod Tilings
