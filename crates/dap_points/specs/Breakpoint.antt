-- A breakpoint of a client at a cell: which arrivals of a run stop it there.
use Rattle.std.specs.Prelude.{◌-◌, ◌==◌, ◌&&◌, Bool, true, Option, None, Some, if◌then◌else◌}
use Rattle.mix_machine.specs.World.{WorldState}
use Rattle.dap_points.specs.Comparison.{compares}
use Rattle.dap_points.specs.declared.points.comparison.Comparison.{Comparison}
use Rattle.dap_points.specs.declared.points.breakpoint.Breakpoint.{Breakpoint}

-- without a condition, it always does
abbrev pub holds : WorldState → Option Comparison → Bool
holds w None = true
holds w (Some comparison) = compares w comparison

-- whether a run arrives at a breakpoint: the machine is at its cell, and its condition holds
abbrev pub arrives : WorldState → Breakpoint → Bool
arrives w b = (b.cell == w.loc) && holds w b.condition

-- that arrival is one less of those that it takes until the breakpoint stops a run
abbrev pub with_arrival : WorldState → Breakpoint → Breakpoint
with_arrival w b = if arrives w b then record b { left = b.left - 1 } else b

-- whether a run stops there, that arrival counted
abbrev pub stops : WorldState → Breakpoint → Bool
stops w b = arrives w b && b.left == 0
