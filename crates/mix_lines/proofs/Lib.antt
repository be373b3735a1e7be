mod LinesLemmas
mod NumberLemmas
mod Positions
mod WordsLemmas
