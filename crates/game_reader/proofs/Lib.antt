pub mod Chain
pub mod Codes
pub mod KeysKept
pub mod OneGame
pub mod SoundLinks
pub mod WantedKeys
pub mod Loops
