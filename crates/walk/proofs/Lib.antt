pub mod PassLaws
pub mod SoundLaws
