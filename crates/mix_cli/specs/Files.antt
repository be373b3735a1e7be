-- No plan replaces a file that it needs.
use Rattle.std.specs.Prelude.{ℕ, ◌&&◌, not, Bool, true, false, List, [], ◌∷◌, ◌++◌, Option, Some, None, codes, option_map, string_bytes, if◌then◌else◌}
use Rattle.std.specs.List.{list_all}
use Rattle.std.specs.Str.{bytes_eq}
use Rattle.std.specs.Ordering.{is_eq}
use Rattle.std.specs.Path.{path_cmp, path_join}
use Rattle.mix_plan.specs.declared.plan.Plan.{Plan}
use Rattle.mix_plan.specs.declared.plan.Plan.TheVariants as plan
use Rattle.mix_plan.specs.declared.run.RunPlan.{RunPlan}

-- the path of a name from the current folder; `-` has none: it is standard input for one, and standard output for the other
unfoldable pub path_of : Option (List ℕ) → Option (List ℕ)
path_of None = None
path_of (Some name) = if bytes_eq name (codes "-") then None else Some (path_join (codes ".") name)

-- whether two paths are of one file: they are equal, as those of `./a//b` and `a/b` are; `..` stays, and no link is followed
unfoldable pub is_one_file : Option (List ℕ) → Option (List ℕ) → Bool
is_one_file None other = false
is_one_file (Some path) None = false
is_one_file (Some path) (Some other) = is_eq (path_cmp path other)

abbrev pub are_others : Option (List ℕ) → List (Option (List ℕ)) → Bool
are_others name others = list_all (λ other. not (is_one_file (path_of name) (path_of other))) others

-- the files that a run reads, but for the deck with which its units begin
abbrev pub read_by : RunPlan → List (Option (List ℕ))
read_by run = Some (string_bytes run.source) ∷ option_map string_bytes run.cards ∷ option_map string_bytes run.typewriter ∷ []

-- what the units hold at the end may replace that deck, and no other file that the run reads; a picture replaces none of them, nor the deck that is kept
abbrev pub run_is_apart : RunPlan → Bool
run_is_apart run =
    let keep = option_map string_bytes run.keep in
    are_others keep (read_by run) && are_others (option_map string_bytes run.svg) (keep ∷ option_map string_bytes run.devices ∷ read_by run)

abbrev pub is_apart : Plan → Bool
is_apart (plan.Run run) = run_is_apart run
is_apart other = true
