-- The names of this crate that most files cite, passed on from one place. Declares nothing.
pub use Rattle.mixal_text.specs.Address.{APartValue}
unfoldable pub use Rattle.mixal_text.specs.Address.{address_of}
pub use Rattle.mixal_text.specs.Atom.{is_other}
unfoldable pub use Rattle.mixal_text.specs.Atom.{atom_value}
pub use Rattle.mixal_text.specs.Expression.{whole_expression}
pub use Rattle.mixal_text.specs.Line.{LineValue, op_of_line}
unfoldable pub use Rattle.mixal_text.specs.Line.{line_of}
unfoldable pub use Rattle.mixal_text.specs.Local.{local_of}
pub use Rattle.mixal_text.specs.Misread.{IsWithin, misread, or_at}
pub use Rattle.mixal_text.specs.Names.{NamesValue}
pub use Rattle.mixal_text.specs.Operator.{outcome_of}
pub use Rattle.mixal_text.specs.Part.{is_comma, up_to}
unfoldable pub use Rattle.mixal_text.specs.Parts.{part_span}
pub use Rattle.mixal_text.specs.Steps.{◌>>=◌}
unfoldable pub use Rattle.mixal_text.specs.Symbol.{symbol_of}
unfoldable pub use Rattle.mixal_text.specs.WValue.{w_value_of}
pub use Rattle.mixal_text.specs.Words.{is_nonblank, length_with_one, pieces_of}
unfoldable pub use Rattle.mixal_text.specs.Words.{after_blanks}
pub use Rattle.mixal_text.specs.declared.misread.Misread.{Misread}
