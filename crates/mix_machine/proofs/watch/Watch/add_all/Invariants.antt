use Rattle.std.proofs.Common.{◌≡◌, drop}
use Rattle.mix_machine.specs.Watch.{with_all}
use Rattle.mix_machine.proofs.watch.Watch.add_all.Given as goal

abbrev pub invariant-loop-place : goal.invariant-loop-place
invariant-loop-place l = record {
  locations : with_all (drop l.place-index l.places) l.self.locations ≡ with_all l.places l.initial.self.locations;
  seen : l.self.seen ≡ l.initial.self.seen;
}
