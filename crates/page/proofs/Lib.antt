mod EngineLemmas
mod TalkLemmas
mod Words
