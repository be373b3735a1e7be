use Rattle.std.proofs.Common.{◌+◌, ◌<◌, ◌∙◌, List, ap, arith, length, refl, slice_index_or, slice_set, sym}
use Rattle.std.proofs.lemmas.List.{get_or_read, length-set}
use Rattle.mix_word.specs.Word.{WordValue, zero_word}
use Rattle.mix_machine.proofs.CopyLemmas.{copied-last}
use Rattle.mix_machine.proofs.cells.copy_each.Goals as goal

pub loop-i-preserved : goal.loop-i-preserved
loop-i-preserved c =
    let cells = c.loop-i.cells in
    let out = c.args.from + c.loop-i.i in
    let into = c.args.to + c.loop-i.i in
    let there : out < length cells = omega (arith, c.requires.there, c.loop-i-test.true, c.loop-i.invariant.len) in
    let read = get_or_read cells out c.index-cells-from.result there c.index-cells-from.is zero_word in
    record {
      len = length-set cells into c.index-cells-from.result ∙ c.loop-i.invariant.len;
      copied = ap (slice_set cells into) read
          ∙ ap (λ (cs : List WordValue). slice_set cs into (slice_index_or cs out zero_word)) c.loop-i.invariant.copied
          ∙ sym (copied-last c.loop-i.i c.args.from c.args.to c.args.cells.now (c.loop-i.i + 1) into out refl refl refl);
    }
