mod Named
mod Quoted
