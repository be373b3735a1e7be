use Rattle.std.proofs.Common.{◌≡◌, ◌++◌, List, ℕ, length, false}
use Rattle.mix_lines.specs.Lines.{lines}
use Rattle.mix_run.specs.Prelude.{Answered, Files, Knows, talk_of, Program}
use Rattle.mix_run.proofs.talk.heard.answer_text.Given as goal

-- the first lines were answered
abbrev pub invariant-loop-rest : goal.invariant-loop-rest
invariant-loop-rest g l = record {
  answered : (front : List (List ℕ)) × (lines l.text ≡ front ++ lines l.rest)
      × ((all : Files) → Knows (g.O.Opener.holds l.fn.files) all l.talker (lines l.text)
      → Answered (talk_of all l.fn.moment l.talker front) l.moment l.told false
      (g.O.Opener.saved l.fn.files) (g.O.Opener.saved l.files) (g.W.Out.told l.fn.out) (g.W.Out.told l.out));
  failed : g.W.Out.failed l.out ≡ g.W.Out.failed l.fn.out;
  unasked : g.O.Opener.asked l.files ≡ g.O.Opener.asked l.fn.files;
  held : g.O.Opener.holds l.files ≡ g.O.Opener.holds l.fn.files;
  untouched : l.talker ≡ Program → l.files ≡ l.fn.files;
}

abbrev pub decreases-loop-rest : goal.decreases-loop-rest
decreases-loop-rest g l = length l.rest
