-- Which status a run has.
use Rattle.std.proofs.Common.{◌≡◌, ◌≤◌, ℕ, Result, Ok, Err, IfOk, arith}
use Rattle.std.specs.Prelude.{OnOk}
use Rattle.mix_run.specs.Prelude.{IsStatus}
use Rattle.mix_run.specs.declared.fault.ToolFault.{ToolFault}
use Rattle.mix_run.specs.declared.print.PrintAnswer.{PrintAnswer}
use Rattle.mix_run.specs.declared.print.steps.RunEnd.{RunEnd}
use Rattle.mix_run.specs.declared.print.PrintAnswer.TheVariants as answers
use Rattle.mix_run.specs.declared.print.steps.RunEnd.TheVariants as ends
use Rattle.mix_tool.specs.Ending.{status_of_end, status_of_print, status_of_run}

-- a run has a status of 0 to 3
pub run_range : (run : Result ℕ ToolFault) (status : ℕ) → status ≡ status_of_run run → IfOk run IsStatus → status ≤ 3
run_range (Ok s) status e h = rw e h.0
run_range (Err fault) status e h = rw e (omega arith)

-- what holds where a run ends well holds where its status is not 2
pub run_well : (run : Result ℕ ToolFault) (status : ℕ) (P : Type 0) → status ≡ status_of_run run → (status ≡ 2 → ⊥) → OnOk run P → P
run_well (Ok s) status P e n h = h
run_well (Err fault) status P e n h = absurd (n e)

-- the status of a run is 0 to 3
pub print_range : (run : Result PrintAnswer ToolFault) (status : ℕ) → status ≡ status_of_print run → status ≤ 3
print_range (Err fault) status e = omega (arith, e)
print_range (Ok (answers.Refused fault)) status e = omega (arith, e)
print_range (Ok (answers.NoTable refusal)) status e = omega (arith, e)
print_range (Ok (answers.Ran ran)) status e = go ran.end e
  where
    go : (end : RunEnd) → status ≡ status_of_end end → status ≤ 3
    go ends.Halted is = omega (arith, is)
    go (ends.Faulted fault) is = omega (arith, is)
    go (ends.Conflicting conflict) is = omega (arith, is)
    go ends.UsedUp is = omega (arith, is)
