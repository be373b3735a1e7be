use Rattle.std.proofs.Common.{◌≡◌, ◌*◌, ◌++◌, ap, sym, subst, length, replicate, refl, arith}
use Rattle.mix_word.specs.Word.{zero_word}
use Rattle.mix_machine.specs.Prelude.{block_length, UnitState, IsUnit}
use Rattle.mix_machine.specs.units.Keep.{is-with_blocks}
use Rattle.mix_machine.proofs.UnitLemmas.{counted, more-view, more-length}
use Rattle.mix_machine.proofs.units.unit.Unit.add_blocks.Goals as goal

pub overflow_add-self-2 : goal.overflow_add-self-2
overflow_add-self-2 c =
    let e = counted c.self.inside _ c.self.view_is in
    let r = c.requires.room in
    omega arith

pub invariant_of-self-2 : goal.invariant_of-self-2
invariant_of-self-2 c =
    let u = c.self.inside in
    let s = c.args.self.now in
    let gap = c.args.gap in
    let block = c.args.words.now in
    let kind : u.kind ≡ s.kind = ap (λ (t : UnitState). t.kind) c.self.view_is in
    let whole : length block ≡ block_length u.kind = rw kind c.requires.whole in
    let items : c.push_words.new.list.items ≡ u.words.items ++ replicate (gap * block_length u.kind) zero_word ++ block =
    rw (c.push_words.ensures.items, c.push_zeros.ensures.items, c.in_ok-reserve.ensures.items, c.from.ensures, c.from-length.ensures, c.block_length.ensures.is) refl in
    let is_unit = subst IsUnit c.self.view_is c.self.invariant.is_unit in
    record {
      is_unit = subst IsUnit (sym (more-view u s gap block _ c.self.view_is c.self.invariant whole items)) (is-with_blocks s gap block is_unit c.requires.room);
      words = more-length u gap block _ c.self.invariant whole items;
    }

pub returns-clause-added : goal.returns-clause-added
returns-clause-added c =
    let u = c.self.inside in
    let s = c.args.self.now in
    let gap = c.args.gap in
    let block = c.args.words.now in
    let kind : u.kind ≡ s.kind = ap (λ (t : UnitState). t.kind) c.self.view_is in
    let whole : length block ≡ block_length u.kind = rw kind c.requires.whole in
    let items : c.push_words.new.list.items ≡ u.words.items ++ replicate (gap * block_length u.kind) zero_word ++ block =
    rw (c.push_words.ensures.items, c.push_zeros.ensures.items, c.in_ok-reserve.ensures.items, c.from.ensures, c.from-length.ensures, c.block_length.ensures.is) refl in
    more-view u s gap block _ c.self.view_is c.self.invariant whole items
