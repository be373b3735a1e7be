use Rattle.std.proofs.Common.{refl, arith, ap, sym, ◌+◌, ◌≡◌, [], length, drop}
use Rattle.std.proofs.lemmas.List.{drop_all}
use Rattle.mix_machine.specs.Cells.{with_words, words_of}
use Rattle.mix_machine.proofs.cells.put_words.Goals as goal

pub loop-i-init : goal.loop-i-init
loop-i-init c =
    let units = c.args.units.now in
    let none : drop (length units) units ≡ [] = drop_all (length units) units (omega arith) in
    record {
      within = omega arith;
      len = refl;
      put = sym (ap (λ us. with_words c.args.cells.now (c.args.place + length units) (words_of us)) none);
    }
