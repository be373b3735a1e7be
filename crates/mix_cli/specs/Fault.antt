-- What is answered to a command line that gives no plan.
use Rattle.std.specs.Prelude.{◌≡◌, ◌≢◌, ℕ}
use Rattle.clap.specs.Values.{kind_of}
use Rattle.clap.specs.declared.error.Error.{Error}
use Rattle.clap.specs.declared.error.kind.ErrorKind.{ErrorKind}
use Rattle.clap.specs.declared.error.kind.ErrorKind.TheVariants.{DisplayHelp, DisplayVersion, OutOfMemory}
use Rattle.mix_cli.specs.declared.fault.LineFault.{LineFault}
use Rattle.mix_cli.specs.declared.fault.LineFault.TheVariants.{Line, Memory, Vain}

-- out of memory in clap is told as out of memory, its other errors as they are
abbrev pub IsFaultOf : Error → LineFault → Type 0
IsFaultOf error Memory = kind_of error ≡ OutOfMemory
IsFaultOf error (Line told) = (told ≡ error) × (kind_of error ≢ OutOfMemory)
IsFaultOf error (Vain told) = ⊥

-- help and the version end with 0, all else with 2
abbrev pub status_of_kind : ErrorKind → ℕ
status_of_kind DisplayHelp = 0
status_of_kind DisplayVersion = 0
status_of_kind _ = 2

abbrev pub status_of_fault : LineFault → ℕ
status_of_fault Memory = 2
status_of_fault (Vain told) = 2
status_of_fault (Line told) = status_of_kind (kind_of told)
