mod BodyLemmas
pub mod BrokenLemmas
mod HearLemmas
pub mod SendLemmas
mod ServingLemmas
pub mod Talking
