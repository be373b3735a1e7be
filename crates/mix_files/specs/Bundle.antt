-- The parts of a bundle: source, deck and script, parted by two marker lines.
use Rattle.std.specs.Prelude.{ℕ, Bool, List, [], codes, length, nat_lt, if◌then◌else◌}
use Rattle.std.specs.List.{after_first, before_first, concat}
use Rattle.std.specs.Str.{bytes_eq}
use Rattle.mix_lines.specs.Lines.{text_of_line, whole_lines}

-- whether a line is exactly a marker, but for its line end
abbrev pub is_marker : List ℕ → List ℕ → Bool
is_marker marker line = bytes_eq (text_of_line line) marker

-- the bytes of a text before the first line that is the marker, or all where none is
unfoldable pub before_marker : List ℕ → List ℕ → List ℕ
before_marker marker text = concat (before_first (is_marker marker) (whole_lines text))

-- the bytes of a text after the first line that is the marker, or none where none is
unfoldable pub after_marker : List ℕ → List ℕ → List ℕ
after_marker marker text = concat (after_first (is_marker marker) (whole_lines text))

pub record Cut : Type 0 where
  pub source : List ℕ
  pub deck : List ℕ
  pub script : List ℕ

-- the script follows the first line %SCRIPT
abbrev pub before_script : List ℕ → List ℕ
before_script bundle = before_marker (codes "%SCRIPT") bundle

-- of what stands before it, the deck follows the first line %DEVICES
abbrev pub cut_of : List ℕ → Cut
cut_of bundle =
    let front = before_script bundle in
    record {
      source = before_marker (codes "%DEVICES") front;
      deck = after_marker (codes "%DEVICES") front;
      script = after_marker (codes "%SCRIPT") bundle;
    }

-- how many bytes a bundle may have
abbrev pub max_bundle_bytes : ℕ
max_bundle_bytes = 41943040

-- the source and the deck of a text: those of a bundle; a text that is longer than a bundle may be is a source alone
unfoldable pub parts_of : List ℕ → Cut
parts_of text = if nat_lt max_bundle_bytes (length text) then record { source = text; deck = []; script = [] } else cut_of text
