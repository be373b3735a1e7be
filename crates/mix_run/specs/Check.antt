-- What a check of sources writes, and its status.
use Rattle.std.specs.Prelude.{◌≡◌, ℕ, Bool, List, [], ◌∷◌, ◌++◌, Result, Ok, Err, if◌then◌else◌}
use Rattle.std.specs.List.{list_any}
use Rattle.mix_check.specs.Report.{Report, has_faults}
use Rattle.mix_run.specs.Fault.{IsMemoryOrRead}
use Rattle.mix_run.specs.Output.{Outcome, Ended}
use Rattle.mix_run.specs.declared.check.Reports.{Reports}
use Rattle.mix_run.specs.declared.fault.ToolFault.{ToolFault}

-- a source, and the name by which it is reported
pub record Named : Type 0 where
  pub name : List ℕ
  pub text : List ℕ

-- a text is the reports of some sources, one after the other, as JSON if that is asked for
abbrev pub AreReports : Bool → List Named → List ℕ → Type 0
AreReports json [] text = text ≡ []
AreReports json (source ∷ sources) text =
    (first : List ℕ) × (rest : List ℕ) × Report json source.name source.text first × AreReports json sources rest × (text ≡ first ++ rest)

abbrev pub some_faulty : List Named → Bool
some_faulty sources = list_any (λ source. has_faults source.text) sources

-- the status of a check: 1 if a source has a fault
abbrev pub check_status : Bool → ℕ
check_status faulty = if faulty then 1 else 0

-- a check ends with reports of its sources, and with the status that they have
abbrev pub Checks : Bool → List Named → (Outcome → Type 0) → Type 0
Checks json sources Ends = (text : List ℕ) × AreReports json sources text × Ends (Ended text (check_status (some_faulty sources)))

-- these sources were read and reported; or memory was refused, or a read failed
abbrev pub Reported : Bool → List Named → Result Reports ToolFault → Type 0
Reported json sources (Ok reports) = AreReports json sources reports.text.items × (reports.faulty ≡ some_faulty sources)
Reported json sources (Err fault) = IsMemoryOrRead fault
