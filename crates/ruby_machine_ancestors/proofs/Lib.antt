mod Going
mod Gathered
