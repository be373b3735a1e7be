-- a text made of pieces
use Rattle.std.proofs.Common.{append_assoc}
use Rattle.std.proofs.lemmas.Fmt.{decimal_digit}

pub ruleset pieces = (append_assoc, decimal_digit)
