use Rattle.std.proofs.Common.{◌≡◌, ◌++◌, List, ℕ, length}
use Rattle.std.specs.Io.KnownBytes.{Appends}
use Rattle.mix_lines.specs.Lines.{lines}
use Rattle.mix_run.specs.Output.{replies_of}
use Rattle.mix_session.specs.Reply.{told_of_both}
use Rattle.mix_run.proofs.commands.execute_lines.Given as goal

-- what was written so far, and the replies to the lines that are left, are the replies to all
abbrev pub invariant-loop-rest : goal.invariant-loop-rest
invariant-loop-rest g l =
    let whole = replies_of l.echo l.fn.session (lines l.script) in
    let left = replies_of l.echo l.session (lines l.rest) in
    record {
      written : (done : List ℕ) × Appends (g.W.Out.told l.fn.out) (g.W.Out.told l.out) done × (whole.bytes ≡ done ++ left.bytes);
      told : told_of_both l.told left.told ≡ whole.told;
      failed : g.W.Out.failed l.out ≡ g.W.Out.failed l.fn.out;
    }

abbrev pub decreases-loop-rest : goal.decreases-loop-rest
decreases-loop-rest g l = length l.rest
