-- What is kept of the lines so far, as it agrees with the names that have a value.
use Rattle.std.specs.Prelude.{◌≡◌, ℕ, ◌≤◌, nat_eq, Bool, false, List, map, Option, Some, None, if◌then◌else◌}
use Rattle.mix_word.specs.Word.{WordValue}
use Rattle.mixal_text.specs.Prelude.{NamesValue, ◌>>=◌}
use Rattle.mixal_text.specs.declared.label.Label.{Label}
use Rattle.mixal_text.specs.declared.label.Label.TheVariants as label
use Rattle.mixal_asm.specs.declared.key.Key.{Key}
use Rattle.mixal_text.specs.Address.{APartValue, Name, Literal}
use Rattle.mixal_asm.specs.declared.key.Key.TheVariants as key
use Rattle.mixal_asm.specs.declared.words.Emitted.{Emitted}
use Rattle.mixal_asm.specs.declared.scope.OwnLocal.{OwnLocal}
use Rattle.std.specs.Prelude.{Result, Ok, length}
use Rattle.mixal_asm.specs.declared.fault.AsmKind.{AsmKind}
use Rattle.mixal_asm.specs.declared.row.Shows.TheVariants as shows
use Rattle.mixal_asm.specs.PassOne.{Before, SourceValue, with_row, NamesSoFar, value_of, back_of}
use Rattle.mixal_asm.specs.Assembly.{Answer, More, Done, finished_word, program_at}
use Rattle.mixal_asm.specs.Chain.{Held, emitted_of}

-- a word as it is by these names
abbrev pub held_word : NamesSoFar → Emitted → Held
held_word names emitted = record { emitted = emitted; word = finished_word names emitted.word emitted.awaits }

abbrev pub held_by : NamesSoFar → List Emitted → List Held
held_by names emitted = map (held_word names) emitted

-- the location is 0 to 4000, and each word is as it is by the names
pub record IsDraft (here : ℕ) (names : NamesSoFar) (held : List Held) : Type 0 where
  pub within : here ≤ 4000
  pub finished : held ≡ held_by names (emitted_of held)

-- what a word waits for has no value
abbrev pub IsOpen : NamesSoFar → Option Key → Type 0
IsOpen names None = Unit {0}
IsOpen names (Some name) = value_of names name ≡ None

-- ---- what dB means on a line whose own LOC is dH: the dH before it

abbrev pub back_on_line : NamesSoFar → Option OwnLocal → ℕ → Option WordValue
back_on_line names None d = back_of names d
back_on_line names (Some own) d = if nat_eq own.digit d then own.back else back_of names d

abbrev pub scope_value : NamesSoFar → Option OwnLocal → NamesValue
scope_value names own = record { value = λ symbol. value_of names (key.Name symbol); back = back_on_line names own }

abbrev pub own_local : NamesSoFar → Option Label → Option OwnLocal
own_local names None = None
own_local names (Some (label.Name symbol)) = None
own_local names (Some (label.Local d)) = Some (record { digit = d; back = back_of names d })

-- ---- an A-part that was read

-- what an A-part waits for has no value: a symbol by what was read, and a literal since none has its place yet
abbrev pub IsDue : NamesSoFar → APartValue → Type 0
IsDue names (Name symbol) = value_of names (key.Name symbol) ≡ None
IsDue names _ = Unit {0}

abbrev pub HasNoLiteral : NamesSoFar → Type 0
HasNoLiteral names = (j : ℕ) → value_of names (key.Literal j) ≡ None

-- a word and the row of its line, which shows it by its number
abbrev pub shown_word : SourceValue → ℕ → Result Before AsmKind → Result Before AsmKind
shown_word source count emitted = do
  next ← emitted
  Ok (with_row next source (shows.Word count))

-- whether what may be there passes a test
abbrev pub passes : {A : Type 0} → (A → Bool) → Option A → Bool
passes test None = false
passes test (Some x) = test x

-- between two lines: no literal has its place, and there are not too many lines
pub record IsReady (b : Before) : Type 0 where
  pub unplaced : HasNoLiteral b.names
  pub lines : length b.rows ≤ 20000

-- what a line gives, by the lines so far with it and, at END, the start of their program
abbrev pub answer_at : Before → Option ℕ → Answer
answer_at b None = More b
answer_at b (Some start) = Done (program_at b start)

-- where a line was not END, the next can follow
abbrev pub WaitsFor : Option ℕ → Before → Type 0
WaitsFor None b = IsReady b
WaitsFor (Some start) b = Unit {0}
