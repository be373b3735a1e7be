use Rattle.std.proofs.Common.{◌≡◌, ◌≤◌, List, ℕ, length, false}
use Rattle.std.specs.Io.KnownBytes.{Consumes}
use Rattle.mix_run.specs.Hearing.{Hears}
use Rattle.mix_run.specs.declared.talk.aside.Talker.TheVariants.{Program}
use Rattle.mix_run.proofs.talk.input.talk.Given as goal

-- what was read so far is heard
abbrev pub invariant-loop-reads : goal.invariant-loop-reads
invariant-loop-reads g l = record {
  heard : (bytes : List ℕ) × Consumes (g.R.In.rest l.fn.streams.input) (g.R.In.rest l.streams.input) bytes × (l.reads ≤ length bytes)
      × Hears (g.O.Opener.holds l.fn.files) l.fn.moment l.fn.streams.talker bytes l.pending.items l.moment l.told false
      (g.O.Opener.saved l.fn.files) (g.O.Opener.saved l.files) (g.W.Out.told l.fn.streams.out) (g.W.Out.told l.streams.out);
  read : g.R.In.failed l.streams.input ≡ g.R.In.failed l.fn.streams.input;
  written : g.W.Out.failed l.streams.out ≡ g.W.Out.failed l.fn.streams.out;
  unasked : g.O.Opener.asked l.files ≡ g.O.Opener.asked l.fn.files;
  held : g.O.Opener.holds l.files ≡ g.O.Opener.holds l.fn.files;
  untouched : l.fn.streams.talker ≡ Program → l.files ≡ l.fn.files;
}
