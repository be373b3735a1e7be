-- Where steps end that are done one after the other.
use Rattle.std.specs.Prelude.{Bool, false, Option, None, Some}
use Rattle.mix_machine.specs.Watch.{WatchState, stops_at}
use Rattle.mix_machine.specs.World.{WorldState}
use Rattle.mix_machine.specs.declared.many.Many.{Many}
use Rattle.mix_machine.specs.declared.many.Many.TheVariants.{Freely, Until}

-- what is watched, if anything is
abbrev pub watch_in : Many → Option WatchState
watch_in Freely = None
watch_in (Until watch) = Some watch

-- whether steps end at a machine: where what is watched stops them
abbrev pub ends_if : Option WatchState → WorldState → Bool
ends_if None w = false
ends_if (Some watch) w = stops_at watch w

abbrev pub ends_at : Many → WorldState → Bool
ends_at many = ends_if (watch_in many)
