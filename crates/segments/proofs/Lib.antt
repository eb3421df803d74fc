pub mod CallsLaws
pub mod CallSoundLaws
pub mod DecidesLaws
