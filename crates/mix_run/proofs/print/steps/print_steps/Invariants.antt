use Rattle.std.proofs.Common.{◌≡◌, ◌≤◌, ◌+◌, ◌-◌, ◌++◌, List, ℕ}
use Rattle.std.specs.Io.KnownBytes.{Appends}
use Rattle.mix_run.specs.Prelude.{counted, printed, steps_of, HasCounts, conflicts_after}
use Rattle.mix_run.proofs.print.steps.print_steps.Given as goal

-- what was printed so far, and what the steps that are left print, is what all of them print; and so are the conflicts
abbrev pub invariant-loop-left : goal.invariant-loop-left
invariant-loop-left g l =
    let whole = steps_of l.options l.fn.world in
    let rest = printed l.options (l.options.steps - l.left + 1) l.left l.records.watch.transfers l.world in
    record {
      within : l.left ≤ l.options.steps;
      written : (done : List ℕ) × Appends (g.W.Out.told l.fn.out) (g.W.Out.told l.out) done × (whole.bytes ≡ done ++ rest.bytes);
      end : rest.end ≡ whole.end;
      world : rest.world ≡ whole.world;
      met : conflicts_after l.records.watch.conflicts rest.met ≡ counted whole.met;
      room : l.records.watch.conflicts.count ≤ l.options.steps - l.left;
      failed : g.W.Out.failed l.out ≡ g.W.Out.failed l.fn.out;
      counts : HasCounts l.world l.records.rows;
    }

abbrev pub decreases-loop-left : goal.decreases-loop-left
decreases-loop-left g l = l.left
