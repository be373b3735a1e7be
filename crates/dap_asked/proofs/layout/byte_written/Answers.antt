-- A numeral is read as its number, and what is none is read as none.
use Rattle.std.proofs.Common.{◌∙◌}
use Rattle.std.specs.Str.Parse.{without_leading_plus}
use Rattle.dap_asked.proofs.ReferenceLemmas.{written, unwritten}
use Rattle.dap_asked.proofs.layout.byte_written.Goals as goal

pub returns-in-Ok-clause-is : goal.returns-in-Ok-clause-is
returns-in-Ok-clause-is c =
    c.within.ensures.is ∙ written c.args.radix c.in-Ok.byte (without_leading_plus c.args.text.now) c.in-Ok.ensures.value.0.0 c.in-Ok.ensures.value.1

pub returns-in-Err-clause-is : goal.returns-in-Err-clause-is
returns-in-Err-clause-is c = unwritten c.args.radix (without_leading_plus c.args.text.now) c.in-Err.ensures.value
