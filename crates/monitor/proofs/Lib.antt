pub mod ValidLaws
pub mod NeedsLaws
pub mod MonitorLaws
pub mod ReadLaws
pub mod MonitorExamples
