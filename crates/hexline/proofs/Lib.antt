pub mod LineLaws
pub mod EntryKindLaws
pub mod KindLaws
pub mod StandingLaws
pub mod AcceptLaws
pub mod HexlineExamples
