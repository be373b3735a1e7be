-- The scopes of variables, by their references, and which part of the machine a variable of a scope is.
use Rattle.std.specs.Prelude.{ℕ, ◌+◌, ◌-◌, ◌/◌, ◌==◌, ◌&&◌, List, codes, length, Option, None, Some, nat_lt, option_and_then, if◌then◌else◌}
use Rattle.std.specs.Option.{option_map}
use Rattle.std.specs.Str.{bytes_eq}
use Rattle.mix_lines.specs.Number.{decimal_number}
use Rattle.mix_word.specs.Prelude.{register_named, unit_count}
use Rattle.mix_machine.specs.declared.part.Part.{Part}
use Rattle.mix_machine.specs.declared.part.Part.TheVariants as part
use Rattle.dap_asked.specs.declared.scope.Scope.{Scope}
use Rattle.dap_asked.specs.declared.scope.Scope.TheVariants as scope

-- 1 the registers, 2 the flags, 3 the units, 4 the memory, 100 and more what unit 0 and those after it have written, 1000 to 1039 a hundred cells each
unfoldable pub scope_of : ℕ → Option Scope
scope_of n =
    if n == 1 then Some scope.Registers else if n == 2 then Some scope.Flags else if n == 3 then Some scope.Units else if n == 4 then Some scope.Memory else
    if nat_lt 99 n && nat_lt n (100 + unit_count) then Some (scope.Unit (n - 100)) else if nat_lt 999 n && nat_lt n 1040 then Some (scope.Page (n - 1000)) else None

-- the flags by their names, and with them the location and the clock
abbrev pub flag_named : List ℕ → Option Part
flag_named name =
    if bytes_eq name (codes "over") then Some part.Over else if bytes_eq name (codes "cmp") then Some part.Cmp else
    if bytes_eq name (codes "loc") then Some part.Loc else if bytes_eq name (codes "clock") then Some part.Clock else None

-- a cell of a page by its number, which its name gives in four digits
abbrev pub cell_of_page : ℕ → List ℕ → ℕ → Option Part
cell_of_page page name n = if length name == 4 && nat_lt n 4000 && n / 100 == page then Some (part.Cell n) else None

-- a unit by its number, which its name gives in no more digits than it takes
abbrev pub unit_named : List ℕ → ℕ → Option Part
unit_named name n = if length name == (if nat_lt n 10 then 1 else 2) && nat_lt n unit_count then Some (part.Unit n) else None

-- the part of the machine that the variable of a scope is, by the name that the scope shows, and by no other
unfoldable pub part_of : Scope → List ℕ → Option Part
part_of scope.Registers name = option_map part.Register (register_named name)
part_of scope.Flags name = flag_named name
part_of scope.Units name = option_and_then (unit_named name) (decimal_number name)
part_of scope.Memory name = None
part_of (scope.Unit n) name = None
part_of (scope.Page page) name = option_and_then (cell_of_page page name) (decimal_number name)
