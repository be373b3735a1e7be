mod MessageLemmas
mod ServedLemmas
mod TokenLemmas
