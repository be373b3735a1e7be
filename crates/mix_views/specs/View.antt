-- What a person sees of a session beside what a script shows, by the words of a line.
use Rattle.std.specs.Prelude.{ℕ, ◌==◌, ◌&&◌, Bool, false, List, [], ◌∷◌, codes, is_some, length, if◌then◌else◌}
use Rattle.std.specs.Str.{str_eq_ignore_ascii_case}
use Rattle.mix_word.specs.Word.{plus}
use Rattle.mix_nodes.specs.Read.{shape_of}
use Rattle.mix_passages.specs.Reading.{passages_in}
use Rattle.mix_session.specs.Prelude.{names_of, SessionState, world_of}
use Rattle.mix_views.specs.Analysis.{given_in}

-- whether words ask for nodes; the asterisk in them is the location
abbrev pub is_nodes : SessionState → List (List ℕ) → Bool
is_nodes s words = is_some (shape_of (names_of s.program) (plus (world_of s.timeline).loc) words)

-- whether words after `show` and one of these names stand for a view. Other names are those of commands
abbrev pub is_view_named : SessionState → List ℕ → List (List ℕ) → Bool
is_view_named s name words =
    if str_eq_ignore_ascii_case name (codes "nodes") then is_nodes s words
    else if str_eq_ignore_ascii_case name (codes "passages") then is_some (passages_in s words)
    else if str_eq_ignore_ascii_case name (codes "analysis") then is_some (given_in words)
    else str_eq_ignore_ascii_case name (codes "map") && length words == 0

unfoldable pub is_view : SessionState → List (List ℕ) → Bool
is_view s [] = false
is_view s (command ∷ []) = false
is_view s (command ∷ name ∷ words) = str_eq_ignore_ascii_case command (codes "show") && is_view_named s name words
