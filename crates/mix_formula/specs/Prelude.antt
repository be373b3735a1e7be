-- The names of this crate that most files cite, passed on from one place. Declares nothing.
pub use Rattle.mix_formula.specs.Arithmetic.{within}
pub use Rattle.mix_formula.specs.Formula.{part_by, product_by}
unfoldable pub use Rattle.mix_formula.specs.Formula.{links, product_operator, sum_at, sum_operator}
pub use Rattle.mix_formula.specs.Found.{is_count}
unfoldable pub use Rattle.mix_formula.specs.Given.{given_of}
pub use Rattle.mix_formula.specs.Names.{NameValue, all_named, has_given, named, names_of, value_in}
pub use Rattle.mix_formula.specs.Rows.{RowValue, all_rows}
pub use Rattle.mix_formula.specs.Text.{unblanked}
unfoldable pub use Rattle.mix_formula.specs.Text.{after_word, bracket_of, is_name, word_in}
pub use Rattle.mix_formula.specs.declared.arithmetic.Reckoned.{Reckoned}
pub use Rattle.mix_formula.specs.declared.names.Named.{Named}
