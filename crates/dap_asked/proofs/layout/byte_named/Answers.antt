-- The text begins with `0x`, or it does not.
use Rattle.dap_asked.proofs.ReferenceLemmas.{named_by_hex, named_by_decimal}
use Rattle.dap_asked.proofs.layout.byte_named.Goals as goal

pub returns-in-Some-clause-is : goal.returns-in-Some-clause-is
returns-in-Some-clause-is c = named_by_hex c.args.reference.now c.in-Some.digits.now c.byte_written.result c.in-Some.ensures.cases c.byte_written.ensures.is

pub returns-in-None-clause-is : goal.returns-in-None-clause-is
returns-in-None-clause-is c = named_by_decimal c.args.reference.now c.byte_written-in-None.result c.in-None.ensures.cases c.byte_written-in-None.ensures.is
