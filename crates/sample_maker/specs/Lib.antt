pub mod Draws
pub mod Dump
pub mod Script
pub mod Texts
