-- What the lines of a talk do, one after the other.
use Rattle.std.specs.Prelude.{ℕ, Bool, false, List, [], ◌∷◌, ◌++◌, if◌then◌else◌}
use Rattle.mix_lines.specs.Lines.{words}
use Rattle.mix_person.specs.Person.{name_in}
use Rattle.mix_session.specs.declared.reply.Told.{Told}
use Rattle.mix_session.specs.declared.reply.Told.TheVariants.{Accepted}
use Rattle.mix_session.specs.Reply.{told_of_both}
use Rattle.mix_run.specs.Asked.{after_lines, is_quit}
use Rattle.mix_run.specs.Opening.{Files, Saved}
use Rattle.mix_run.specs.Output.{replies}
use Rattle.mix_run.specs.Recall.{meant, recalled}
use Rattle.mix_run.specs.Reload.{moment_of, reloaded}
use Rattle.mix_run.specs.Saves.{saves_of}
use Rattle.mix_run.specs.Sources.{act_of, lines_under}
use Rattle.mix_run.specs.declared.talk.aside.Talker.{Talker}
use Rattle.mix_run.specs.declared.talk.heard.Act.{Act}
use Rattle.mix_run.specs.declared.talk.heard.Act.TheVariants as act
use Rattle.mix_run.specs.declared.talk.moment.Moment.{Moment}

-- a stretch of a talk: the moment that it leads to, the replies, whether each command was accepted, whether a line ended the talk, and what was saved
pub record Stretch : Type 0 where
  pub moment : Moment
  pub bytes : List ℕ
  pub told : Told
  pub over : Bool
  pub saved : List Saved

-- a moment at which nothing is said or saved
abbrev pub silent : Moment → Stretch
silent m = record { moment = m; bytes = []; told = Accepted; over = false; saved = [] }

-- one stretch, and the next one, unless the first ends the talk
abbrev pub joined : Stretch → Stretch → Stretch
joined first next =
    if first.over then first
    else record {
      moment = next.moment;
      bytes = first.bytes ++ next.bytes;
      told = told_of_both first.told next.told;
      over = next.over;
      saved = first.saved ++ next.saved;
    }

-- some lines, each at the moment that the ones before it led to
abbrev pub each_line : (Moment → List ℕ → Stretch) → Moment → List (List ℕ) → Stretch
each_line one m [] = silent m
each_line one m (line ∷ rest) = let first = one m line in joined first (each_line one first.moment rest)

-- a line is answered: the lines of a script that it stands for are executed in the session of this moment
abbrev pub answer_of : Talker → Moment → List ℕ → Stretch
answer_of talker m line =
    let asked = meant m.session talker m.recall line in
    let said = replies m.session asked in
    record {
      moment = moment_of (after_lines m.session asked) (recalled m.session talker m.recall line) m.origin;
      bytes = said.bytes;
      told = said.told;
      over = is_quit talker line;
      saved = [];
    }

-- what was done is saved, and a blank line repeats nothing
abbrev pub saving : Moment → List ℕ → Stretch
saving m line =
    record (silent (moment_of m.session (record m.recall { again = [] }) m.origin)) { saved = saves_of m.origin m.recall.done line }

-- a typed line: it is answered, it saves what was done, the lines of the file that it names are answered, or it reloads the source
abbrev pub typed_by : Files → Act → Talker → Moment → List ℕ → Stretch
typed_by all act.Answer talker m line = answer_of talker m line
typed_by all act.Save talker m line = saving m line
typed_by all act.Source talker m line = each_line (answer_of talker) m (lines_under all (name_in (words line)))
typed_by all act.Reload talker m line = silent (reloaded (all m.origin.name) m)

abbrev pub typed_line : Files → Talker → Moment → List ℕ → Stretch
typed_line all talker m line = typed_by all (act_of talker line) talker m line

-- the typed lines of a talk
abbrev pub talk_of : Files → Moment → Talker → List (List ℕ) → Stretch
talk_of all m talker typed = each_line (typed_line all talker) m typed
