mod Rises
mod Shaped
