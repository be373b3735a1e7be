use Rattle.mixal_asm.proofs.KeepLemmas.{ready_by, machine_next, equ_next, orig_next, con_next, alf_next}
use Rattle.mixal_asm.proofs.draft.Draft.code_line.Goals.{in-Machine+in_ok-machine_line-in-Machine, in-Equ+in_ok-equ_line-in-Equ, in-Orig+in_ok-orig_line-in-Orig, in-Con+in_ok-con_line-in-Con, in-Alf+in_ok-alf_line-in-Alf}
use Rattle.mixal_asm.proofs.draft.Draft.code_line.Goals as goal

pub returns-clause-ready : goal.returns-clause-ready
returns-clause-ready c = elim c.match-op.branch [
  | in-Machine+in_ok-machine_line-in-Machine w ↦ ready_by _ _ _ c.requires.lines (machine_next _ _ _ _ _ _ _ w.in_ok-machine_line-in-Machine.ensures.ok c.requires.unplaced) w.self-is
  | in-Equ+in_ok-equ_line-in-Equ w ↦ ready_by _ _ _ c.requires.lines (equ_next _ _ _ _ _ w.in_ok-equ_line-in-Equ.ensures.ok c.requires.unplaced) w.self-is
  | in-Orig+in_ok-orig_line-in-Orig w ↦ ready_by _ _ _ c.requires.lines (orig_next _ _ _ _ _ w.in_ok-orig_line-in-Orig.ensures.ok c.requires.unplaced) w.self-is
  | in-Con+in_ok-con_line-in-Con w ↦ ready_by _ _ _ c.requires.lines (con_next _ _ _ _ _ w.in_ok-con_line-in-Con.ensures.ok c.requires.unplaced) w.self-is
  | in-Alf+in_ok-alf_line-in-Alf w ↦ ready_by _ _ _ c.requires.lines (alf_next _ _ _ _ _ w.in_ok-alf_line-in-Alf.ensures.ok c.requires.unplaced) w.self-is
]
