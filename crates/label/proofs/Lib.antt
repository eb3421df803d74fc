pub mod BitLaws
pub mod WordLaws
pub mod ListingLaws
pub mod SingleLaws
pub mod RegionLaws
pub mod LabelLaws
pub mod CallerLaws
pub mod LabelExamples
