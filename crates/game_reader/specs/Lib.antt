pub mod Keys
pub mod Games
pub mod Lists
pub mod Links
