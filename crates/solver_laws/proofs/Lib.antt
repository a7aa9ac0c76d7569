mod Going
mod Settling
