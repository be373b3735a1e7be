use Rattle.std.proofs.Common.{◌≡◌, ◌++◌, List, ℕ, Option, length, false}
use Rattle.mix_lines.specs.Lines.{lines}
use Rattle.mix_run.specs.Prelude.{Answered, Saved}
use Rattle.mix_run.specs.Stretch.{answer_of, each_line}
use Rattle.mix_run.proofs.talk.heard.answer_lines.Given as goal

-- the first lines were answered
abbrev pub invariant-loop-rest : goal.invariant-loop-rest
invariant-loop-rest g l = record {
  answered : (front : List (List ℕ)) × (lines l.text ≡ front ++ lines l.rest)
      × ((d : Option (List Saved)) → Answered (each_line (answer_of l.talker) l.fn.moment front) l.moment l.told false d d (g.W.Out.told l.fn.out) (g.W.Out.told l.out));
  failed : g.W.Out.failed l.out ≡ g.W.Out.failed l.fn.out;
}

abbrev pub decreases-loop-rest : goal.decreases-loop-rest
decreases-loop-rest g l = length l.rest
