use Rattle.std.proofs.Common.{◌≡◌, ◌≤◌, false, length, drop}
use Rattle.std.specs.List.{list_any}
use Rattle.mix_lines.specs.Lines.{is_line_feed}
use Rattle.mix_run.proofs.talk.pending.whole_len.Given as goal

-- no line feed stands past the first bytes
abbrev pub invariant-loop-len : goal.invariant-loop-len
invariant-loop-len l = (l.len ≤ length l.text) × (list_any is_line_feed (drop l.len l.text) ≡ false)

abbrev pub decreases-loop-len : goal.decreases-loop-len
decreases-loop-len l = l.len
