mod CheckLemmas
mod EndingLemmas
mod OpeningLemmas
mod RunLemmas
mod SavingLemmas
