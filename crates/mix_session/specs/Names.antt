-- What the names of a program mean to a command.
use Rattle.mixal_text.specs.Names.{NamesValue}
use Rattle.mixal_asm.specs.Prelude.{names_at, ProgramValue}

-- the finished map, and of dB the last dH
abbrev pub names_of : ProgramValue → NamesValue
names_of program = names_at program.names program.names
