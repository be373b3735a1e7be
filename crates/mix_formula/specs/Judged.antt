-- How the count of a line agrees with its formula.
use Rattle.std.specs.Prelude.{List, if◌then◌else◌}
use Rattle.mix_formula.specs.declared.analysis.Judged.{Judged}
use Rattle.mix_formula.specs.declared.analysis.Verdict.{Verdict}
use Rattle.mix_formula.specs.declared.analysis.Verdict.TheVariants.{Agrees, Differs, Gave, Open}
use Rattle.mix_formula.specs.declared.value.Value.{Value}
use Rattle.mix_formula.specs.declared.value.Value.TheVariants.{Known, Unknown, Unreadable, TooLarge}
use Rattle.mix_formula.specs.Formula.{value_of}
use Rattle.mix_formula.specs.Found.{is_count}
use Rattle.mix_formula.specs.Names.{NameValue, has_given}
use Rattle.mix_formula.specs.Rows.{RowValue, formula_of}

-- where a value is the count, a line whose count gave a name its value is told as such
abbrev pub verdict_of : List NameValue → RowValue → Value → Verdict
verdict_of names row (Known n) = if is_count (Known n) row.count then if has_given names row.line then Gave else Agrees else Differs
verdict_of names row Unknown = Open
verdict_of names row (Unreadable place) = Open
verdict_of names row TooLarge = Open

-- the value of its formula, and whether it is the count
abbrev pub judged_by : List NameValue → RowValue → Value × Verdict
judged_by names row = (value_of names (formula_of row), verdict_of names row (value_of names (formula_of row)))

abbrev pub judged_seen : Judged → Value × Verdict
judged_seen judged = (judged.value, judged.verdict)
