-- Where the run came to no end nothing is saved.
use Rattle.std.proofs.Common.{Ok, refl}
use Rattle.mix_tool.proofs.keep.save_files.Goals as goal

pub returns-in-Refused-clause-kept : goal.returns-in-Refused-clause-kept
returns-in-Refused-clause-kept g c = rw (c.in-Ok.is, c.in-Refused.is) (Ok tt, Ok tt, refl, refl, refl, refl)

pub returns-in-NoTable-clause-kept : goal.returns-in-NoTable-clause-kept
returns-in-NoTable-clause-kept g c = rw (c.in-Ok.is, c.in-NoTable.is) (Ok tt, Ok tt, refl, refl, refl, refl)

pub returns-in-Err-clause-kept : goal.returns-in-Err-clause-kept
returns-in-Err-clause-kept g c = rw c.in-Err.is (Ok tt, Ok tt, refl, refl, refl, refl)
