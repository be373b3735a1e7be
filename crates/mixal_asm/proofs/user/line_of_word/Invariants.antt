use Rattle.std.proofs.Common.{◌≡◌, map, length}
use Rattle.mixal_asm.specs.Row.{row_value}
use Rattle.mixal_asm.specs.User.{line_of_word}
use Rattle.mixal_asm.proofs.user.line_of_word.Given as goal

abbrev pub invariant-loop-rest : goal.invariant-loop-rest
invariant-loop-rest l = line_of_word (map row_value l.rows) l.i ≡ line_of_word (map row_value l.rest) l.i

abbrev pub decreases-loop-rest : goal.decreases-loop-rest
decreases-loop-rest l = length l.rest
