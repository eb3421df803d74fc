pub mod LineLaws
pub mod CutLaws
pub mod NumberLaws
pub mod DecimalLaws
pub mod FormatLaws
pub mod FieldLaws
pub mod CommandLaws
pub mod ConsoleExamples
