-- The offset is a number of 64 bits.
use Rattle.std.proofs.Common.{rules, ap, ◌∙◌, SFits, to_z-of_z, w64}
use Rattle.dap_asked.specs.Layout.{byte_of_reference}
use Rattle.dap_asked.proofs.memory.byte_asked.Goals as goal

pub returns-clause-is : goal.returns-clause-is
returns-clause-is c =
    let fits : SFits w64 c.integer_asked.result = search rules in
    c.byte_of_reference.ensures.is ∙ ap (byte_of_reference c.args.reference.now) (to_z-of_z fits ∙ c.integer_asked.ensures)
