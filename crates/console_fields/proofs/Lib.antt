pub mod Scans
pub mod LetterKinds
