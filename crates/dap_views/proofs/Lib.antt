pub mod NextLemmas
