pub mod Growing
mod HeaderLemmas
mod ReadsBack
