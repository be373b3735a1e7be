use Rattle.std.proofs.Common.{Vec, Global, ℕ, List, length, sym, ap, ◌∙◌}
use Rattle.std.proofs.lemmas.List.{length-set}
use Rattle.mixal_asm.proofs.IndexLemmas.{row_noted, row_passed}
use Rattle.mixal_asm.proofs.index.last_rows.Goals as goal
use Rattle.mixal_asm.proofs.index.last_rows.Goals.{in-Some, in-None}

pub loop-i-preserved : goal.loop-i-preserved
loop-i-preserved c = elim c.match-place_of.branch [
  | in-Some w ↦
      (let put = ap (λ (v : Vec ℕ Global). v.items) w.numbers-is ∙ w.note.ensures in
      record {
        count = ap (λ (numbers : List ℕ). length numbers) put ∙ length-set c.loop-i.numbers.items w.in-Some.place c.loop-i.i ∙ c.loop-i.invariant.count;
        last =
            row_noted c.args.words.now c.args.rows.now c.loop-i.i c.index-rows-i.result w.in-Some.place c.loop-i.numbers.items c.match-place_of.numbers.items
            c.loop-i-test.true c.index-rows-i.is (sym c.place_of.ensures ∙ w.in-Some.is) put c.loop-i.invariant.last;
      })
  | in-None w ↦
      rw w.numbers-is
      (record {
        count = c.loop-i.invariant.count;
        last =
            row_passed c.args.words.now c.args.rows.now c.loop-i.i c.index-rows-i.result c.loop-i.numbers.items c.loop-i-test.true c.index-rows-i.is
            (sym c.place_of.ensures ∙ w.in-None.is) c.loop-i.invariant.last;
      })
]
