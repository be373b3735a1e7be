-- What a person saves: under the name that a typed line gives, the bundle of what was done so far.
use Rattle.std.specs.Prelude.{ℕ, Bool, List, [], ◌∷◌, Option, None, Some, nat_lt, length, if◌then◌else◌}
use Rattle.std.specs.Str.{bytes_eq}
use Rattle.mix_lines.specs.Lines.{words}
use Rattle.mix_run.specs.Bundle.{OriginValue, bundle_of}
use Rattle.mix_run.specs.Opening.{Saved}
use Rattle.mix_run.specs.Output.{max_bundle_bytes}
use Rattle.mix_run.specs.declared.replaces.Replaces.{Replaces}
use Rattle.mix_run.specs.declared.replaces.Replaces.TheVariants as replaces
use Rattle.mix_person.specs.Person.{kind_of, name_in}
use Rattle.mix_person.specs.declared.person.Line.{Line}
use Rattle.mix_person.specs.declared.person.Line.TheVariants as line_kind

-- what a file of this name may hold to be replaced: `save!` replaces anything; the file that the session was begun with, a bundle; any other, what was
-- saved before
abbrev pub replaced_by : Line → Bool → Replaces
replaced_by line_kind.SaveOver begun = replaces.Anything
replaced_by other begun = if begun then replaces.Bundle else replaces.Nothing

-- a bundle under a name; without a name there is none, nor is one saved that is longer than a bundle may be
abbrev pub saves_under : OriginValue → List ℕ → Line → Option (List ℕ) → List Saved
saves_under origin bundle kind None = []
saves_under origin bundle kind (Some name) =
    if nat_lt max_bundle_bytes (length bundle) then []
    else record { name = name; text = bundle; over = replaced_by kind (bytes_eq name origin.name) } ∷ []

-- what a typed line saves
abbrev pub saves_of : OriginValue → List ℕ → List ℕ → List Saved
saves_of origin done line = saves_under origin (bundle_of origin done) (kind_of (words line)) (name_in (words line))
