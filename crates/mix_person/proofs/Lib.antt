mod PersonLemmas
