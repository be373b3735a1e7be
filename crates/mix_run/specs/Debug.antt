-- What `debug` takes of a text: of a bundle its source and its deck, unless another deck is given.
use Rattle.std.specs.Prelude.{ℕ, Bool, List}
use Rattle.mix_run.specs.Bundle.{OriginValue, origin_of}
use Rattle.mix_run.specs.Output.{Outcome, output}
use Rattle.mix_run.specs.PrintOutput.{parts_of}
use Rattle.mix_run.specs.UnitsRead.{deck_given}

-- a source or a bundle, a deck that is given in place of its own, and a script, whose commands are echoed or not
unfoldable pub debug_output : Bool → Bool → List ℕ → List ℕ → List ℕ → Outcome
debug_output echo given text deck script =
    let parts = parts_of text in output echo parts.source (deck_given given parts.deck deck) script

-- what a talk about a text of this name is about
abbrev pub origin_given : List ℕ → Bool → List ℕ → List ℕ → OriginValue
origin_given name given text deck = let parts = parts_of text in origin_of name parts.source (deck_given given parts.deck deck)
