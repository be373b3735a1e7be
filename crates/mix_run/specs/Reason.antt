-- Why a file can't be opened, created or written: the reason of an error, and what is told of it
-- after the name of the file.
use Rattle.std.specs.Prelude.{ℕ, List, codes}
use Rattle.std.specs.declared.io.ErrorKind.{ErrorKind}
use Rattle.std.specs.declared.io.ErrorKind.TheVariants as kind
use Rattle.mix_run.specs.declared.reason.Reason.{Reason}
use Rattle.mix_run.specs.declared.reason.Reason.TheVariants as reason

abbrev pub reason_of : ErrorKind → Reason
reason_of kind.NotFound = reason.Missing
reason_of kind.PermissionDenied = reason.Denied
reason_of kind.IsADirectory = reason.Folder
reason_of kind.NotADirectory = reason.NoFolder
reason_of kind.FilesystemLoop = reason.Loop
reason_of kind.InvalidFilename = reason.LongName
reason_of kind.StorageFull = reason.Full
reason_of kind.ReadOnlyFilesystem = reason.ReadOnly
reason_of _ = reason.Other

-- in the words of the system, where it has some
abbrev pub reason_text : Reason → List ℕ
reason_text reason.Missing = codes ": No such file or directory"
reason_text reason.Denied = codes ": Permission denied"
reason_text reason.Folder = codes ": Is a directory"
reason_text reason.NoFolder = codes ": Not a directory"
reason_text reason.Loop = codes ": Too many levels of symbolic links"
reason_text reason.LongName = codes ": File name too long"
reason_text reason.Full = codes ": No space left on device"
reason_text reason.ReadOnly = codes ": Read-only file system"
reason_text reason.Other = codes ""
