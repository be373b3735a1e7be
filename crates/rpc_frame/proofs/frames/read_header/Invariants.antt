use Rattle.std.proofs.Common.{◌≡◌, ◌-◌, ◌≤◌, None, length}
use Rattle.mix_lines.specs.Lines.{whole_lines}
use Rattle.rpc_frame.specs.Frame.{header_in}
use Rattle.rpc_frame.proofs.frames.read_header.Given as goal

abbrev pub invariant-loop-rest : goal.invariant-loop-rest
invariant-loop-rest l = record {
  shorter : length l.rest ≤ length l.text;
  header : header_in None 0 (whole_lines l.text) ≡ header_in l.length (length l.text - length l.rest) (whole_lines l.rest);
}

abbrev pub decreases-loop-rest : goal.decreases-loop-rest
decreases-loop-rest l = length l.rest
