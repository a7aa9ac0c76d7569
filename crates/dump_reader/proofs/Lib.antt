pub mod Folds
pub mod SoundDraft
pub mod SoundDump
pub mod SoundGoods
