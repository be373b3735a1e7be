-- One word more is put, after a blank.
use Rattle.std.proofs.Common.{◌++◌, true}
use Rattle.mix_person.specs.Person.{condition_words, spaced}
use Rattle.mix_person.proofs.PersonLemmas.{put_next}
use Rattle.mix_person.proofs.conditions.put_conditions.Goals as goal

pub loop-word-preserved : goal.loop-word-preserved
loop-word-preserved g c =
    let names = g.N.Names.names c.args.names.now in
    put_next names c.loop-word.is_first c.is_or-is_first.result c.in-Some.word.now c.next.new.self c.loop-word.words c.loop-word.text.items
    c.put_in.new.text.items (c.args.text.now.items ++ spaced (condition_words names true c.args.words.now)) c.in-Some.ensures
    c.is_or-is_first.ensures c.in_ok-put_in.ensures c.loop-word.invariant
