pub mod SoundMachines
