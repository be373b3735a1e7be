use Rattle.std.proofs.Common.{rules}
use Rattle.mix_files.proofs.CutLemmas.{Split, next_line, marker_line}
use Rattle.mix_files.proofs.bundle.split_at_marker.Goals as goal

pub returns-then-eq-clause-before : goal.returns-then-eq-clause-before
returns-then-eq-clause-before c =
    let split : Split _ _ _ = record { lines = c.split_whole_line.ensures.lines; parts = c.split_whole_line.ensures.parts } in
    (marker_line c.args.marker.now c.args.text.now _ _ _ _ c.loop-marker.invariant split c.line_text.ensures (search rules)).0

pub returns-then-eq-clause-after : goal.returns-then-eq-clause-after
returns-then-eq-clause-after c =
    let split : Split _ _ _ = record { lines = c.split_whole_line.ensures.lines; parts = c.split_whole_line.ensures.parts } in
    (marker_line c.args.marker.now c.args.text.now _ _ _ _ c.loop-marker.invariant split c.line_text.ensures (search rules)).1

pub loop-marker-preserved : goal.loop-marker-preserved
loop-marker-preserved c =
    let split : Split _ _ _ = record { lines = c.split_whole_line.ensures.lines; parts = c.split_whole_line.ensures.parts } in
    next_line c.args.marker.now c.args.text.now _ _ _ _ c.loop-marker.invariant split c.line_text.ensures (search rules)
