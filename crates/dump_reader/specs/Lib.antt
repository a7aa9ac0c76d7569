pub mod Goods
pub mod Sources
pub mod Draft
pub mod Dump
pub mod Sound
