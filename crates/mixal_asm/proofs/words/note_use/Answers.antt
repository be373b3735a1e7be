use Rattle.std.proofs.Common.{ℕ, ◌∙◌, ap}
use Rattle.std.specs.Map.{keys_of}
use Rattle.indexmap.proofs.SetLemmas.{keys_insert_entry}
use Rattle.mixal_asm.specs.Key.{same_key}
use Rattle.mixal_asm.proofs.words.note_use.Goals as goal

pub returns-in_ok-insert-in-Some-clause-used : goal.returns-in_ok-insert-in-Some-clause-used
returns-in_ok-insert-in-Some-clause-used c =
    rw (c.in-Some.is, ← c.copied.ensures)
    (ap keys_of c.in_ok-insert-in-Some.ensures.entries ∙ keys_insert_entry {X = ℕ} same_key c.args.last.now.entries c.copied.result c.args.at, c.in_ok-insert-in-Some.ensures.updates.0)
