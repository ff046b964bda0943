mod Seeing
mod Likes
mod Examples
