-- What a part of a talk does, of which the rest is still to come: how the code says it of the bytes that it has read.
use Rattle.std.specs.Prelude.{◌≡◌, Bool, true, false, ℕ, List, ◌++◌, Option}
use Rattle.std.specs.List.{list_any}
use Rattle.std.specs.Io.KnownBytes.{Appends}
use Rattle.mix_lines.specs.Lines.{is_line_feed, lines}
use Rattle.mix_session.specs.declared.reply.Told.{Told}
use Rattle.mix_run.specs.Opening.{Files, Saved, noted}
use Rattle.mix_run.specs.Sources.{Knows}
use Rattle.mix_run.specs.Stretch.{Stretch, talk_of}
use Rattle.mix_run.specs.Talk.{is_whole}
use Rattle.mix_run.specs.declared.talk.aside.Talker.{Talker}
use Rattle.mix_run.specs.declared.talk.moment.Moment.{Moment}

-- a stretch of the talk was answered, and led to this moment
pub record Answered (was : Stretch) (now : Moment) (said : Told) (ends : Bool) (before kept : Option (List Saved)) (old new : Option (List ℕ)) : Type 0 where
  pub moment : now ≡ was.moment
  pub told : said ≡ was.told
  pub over : ends ≡ was.over
  pub written : Appends old new was.bytes
  pub saved : kept ≡ noted before was.saved

-- some bytes were heard: the whole lines among them are answered, and what is left is part of a line
pub record Hears (held : Option Files) (m : Moment) (talker : Talker) (bytes left : List ℕ) (now : Moment) (said : Told) (ends : Bool) (before kept : Option (List Saved)) (old new : Option (List ℕ)) : Type 0 where
  pub front : List ℕ
  pub parts : bytes ≡ front ++ left
  pub whole : is_whole front ≡ true
  pub part : list_any is_line_feed left ≡ false
  pub answered : (all : Files) → Knows held all talker (lines front) → Answered (talk_of all m talker (lines front)) now said ends before kept old new
