mod ArithmeticLemmas
mod FormulaLemmas
mod TextLemmas
