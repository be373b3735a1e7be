-- A reference that names no byte.
use Rattle.dap_asked.proofs.MemoryLemmas.{no_start}
use Rattle.dap_asked.proofs.memory.start_of.Goals as goal

pub returns-in-None-clause-refused : goal.returns-in-None-clause-refused
returns-in-None-clause-refused c = no_start c.args.request.now c.in-Some.reference.now c.in-Some.ensures c.in-None.ensures.is
