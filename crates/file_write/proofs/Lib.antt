pub mod RecordLaws
pub mod TagLoop
pub mod WriteReplies
