pub mod DialogueLemmas
pub mod EventLemmas
pub mod LegLemmas
pub mod ReactionLemmas
pub mod ServedLemmas
