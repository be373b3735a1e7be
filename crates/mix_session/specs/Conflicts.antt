-- Which changes conflict with a transfer under way, a conflict in words, and what `show conflicts` writes.
use Rattle.std.specs.Prelude.{ℕ, zero, suc, ◌+◌, ◌-◌, List, [], ◌∷◌, ◌++◌, codes, length, Bool, Option, None, Some, is_some}
use Rattle.std.specs.Fmt.{decimal}
use Rattle.mix_word.specs.Text.{location_text}
use Rattle.mix_machine.specs.Prelude.{TransfersState, no_transfers, transfers_after, conflict_of, kind_of}
use Rattle.mix_machine.specs.declared.transfers.Conflict.{Conflict}
use Rattle.mix_machine.specs.declared.units.kind.UnitKind.{UnitKind}
use Rattle.mix_machine.specs.declared.transfers.Direction.{Direction}
use Rattle.mix_machine.specs.declared.transfers.Direction.TheVariants as way
use Rattle.mix_machine.specs.declared.units.kind.UnitKind.TheVariants as unit
use Rattle.mix_session.specs.Change.{world_at, change_at, change_front, writes_text}
use Rattle.mix_session.specs.Each.{texts}
use Rattle.mix_session.specs.Timeline.{Timeline}
use Rattle.mix_session.specs.declared.condition.Condition.{Condition}
use Rattle.mix_session.specs.declared.condition.Condition.TheVariants as condition

-- the transfers under way after the first n of all changes
abbrev pub transfers_at : Timeline → ℕ → TransfersState
transfers_at t zero = no_transfers
transfers_at t (suc n) = transfers_after (transfers_at t n) (world_at t n) (change_at t (suc n))

-- with which cell of which transfer under way before it the change of a number conflicts, counted from 1
unfoldable pub conflict_at : Timeline → ℕ → Option Conflict
conflict_at t n = conflict_of (transfers_at t (n - 1)) (world_at t (n - 1)) (change_at t n)

-- whether the last change done conflicts with one
abbrev pub last_conflicts : Timeline → Bool
last_conflicts t = is_some (conflict_at t (length t.changes))

-- the last column: the cell, the unit, and when its transfer ends
unfoldable pub conflict_column : Conflict → List ℕ
conflict_column c = codes "  cell " ++ location_text c.cell ++ codes ", unit " ++ decimal c.unit ++ codes " until " ++ decimal c.transfer.until

-- a conflict in words: how the cell is used, and what the unit does with it meanwhile, `cell 2001 is altered while unit 18 prints it until 726`
abbrev pub use_text : Direction → List ℕ
use_text way.Input = codes " is used while unit "
use_text way.Output = codes " is altered while unit "

abbrev pub output_text : UnitKind → List ℕ
output_text unit.Printer = codes " prints it until "
output_text _ = codes " writes it until "

abbrev pub transfer_text : Direction → UnitKind → List ℕ
transfer_text way.Input kind = codes " reads into it until "
transfer_text way.Output kind = output_text kind

unfoldable pub conflict_text : Conflict → List ℕ
conflict_text c =
    codes "cell " ++ location_text c.cell ++ use_text c.transfer.way ++ decimal c.unit ++ transfer_text c.transfer.way (kind_of c.unit)
    ++ decimal c.transfer.until

-- the line of a change that conflicts, by its columns; nothing of another
abbrev pub conflict_line : List ℕ → Option Conflict → List ℕ
conflict_line front None = []
conflict_line front (Some c) = front ++ conflict_column c ++ 10 ∷ []

-- the same of the change of a number, whose columns are those of `show last`
abbrev pub conflict_line_at : Timeline → ℕ → List ℕ
conflict_line_at t n = conflict_line (change_front n (change_at t n) (world_at t (n - 1)) (world_at t n)) (conflict_at t n)

-- the reply of `show conflicts`: the lines of the changes done that conflict
abbrev pub conflicts_text : Timeline → List ℕ
conflicts_text t = texts (conflict_line_at t) 1 (length t.changes + 1)

-- the reply of `show writes`: the lines of the changes done that meet a condition; where that is a conflict, they say with what
abbrev pub met_text : Condition → Timeline → List ℕ
met_text (condition.Alters part) t = writes_text (condition.Alters part) t
met_text (condition.At place) t = writes_text (condition.At place) t
met_text condition.Conflicts t = conflicts_text t
