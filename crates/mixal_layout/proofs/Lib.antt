mod AlikeLemmas
