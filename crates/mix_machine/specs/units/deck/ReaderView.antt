-- What the fields of a Reader stand for.
use Rattle.mix_machine.specs.units.deck.Deck.{Reading}
use Rattle.mix_machine.specs.declared.units.deck.reader.Reader.TheInside.{Inside}

abbrev pub reading_of : Inside → Reading
reading_of r = record { units = r.units; unit = r.unit; words = r.words.items; given = r.given }
