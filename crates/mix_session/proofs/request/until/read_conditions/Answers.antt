-- Each condition read is one more, and the words after it say the others.
use Rattle.std.proofs.Common.{◌+◌, ◌-◌, ◌<◌, ◌∙◌, arith}
use Rattle.mix_session.specs.Until.{conditions_in, conditions_up_to, others_in}
use Rattle.mix_session.proofs.ReadingLemmas.{read-none, read-more, read-bad, read-other, read-last, read-next}
use Rattle.mix_session.proofs.request.until.read_conditions.Goals as goal

pub loop-read-init : goal.loop-read-init
loop-read-init g c = record {
  leads = rw c.none-conditions.ensures (read-none (g.N.Names.names c.args.names.now) c.args.here c.args.words.now);
  within = rw c.none-conditions.ensures (omega arith);
}

pub returns-in-Err : goal.returns-in-Err
returns-in-Err g c =
    let names = g.N.Names.names c.args.names.now in
    let below : c.loop-read.read < 8 = omega (arith, c.loop-read-test.true) in
    read-bad names c.args.here (conditions_in names c.args.here c.args.words.now) c.loop-read.words c.loop-read.read c.loop-read.conditions c.loop-read.is_in_range
    c.read_first-next.result c.in-Err.refusal below c.loop-read.invariant.leads c.read_first-next.ensures.condition c.in-Err.ensures.bad

pub returns-in-Ok-false : goal.returns-in-Ok-false
returns-in-Ok-false g c =
    let names = g.N.Names.names c.args.names.now in
    let whole = conditions_in names c.args.here c.args.words.now in
    let others = conditions_up_to (8 - (c.loop-read.read + 1)) names c.args.here in
    let below : c.loop-read.read < 8 = omega (arith, c.loop-read-test.true) in
    let more = read-more names c.args.here whole c.loop-read.words c.read_first-next.new.words c.loop-read.read c.loop-read.conditions c.add.new.conditions c.loop-read.is_in_range
    c.in-Ok.next c.read_first-next.result below c.loop-read.invariant.leads c.read_first-next.ensures.left c.read_first-next.ensures.condition c.in-Ok.ensures.read in
    c.all_read.ensures ∙ read-last whole (others_in others c.read_first-next.new.words) c.add.new.conditions c.in-Ok.next more
    (rw c.in-Ok-false.field-0-test at (c.in-Ok-false.ensures.goes_on others))

pub returns-in-Err-read_or : goal.returns-in-Err-read_or
returns-in-Err-read_or g c =
    let names = g.N.Names.names c.args.names.now in
    let whole = conditions_in names c.args.here c.args.words.now in
    let others = conditions_up_to (8 - (c.loop-read.read + 1)) names c.args.here in
    let below : c.loop-read.read < 8 = omega (arith, c.loop-read-test.true) in
    let more = read-more names c.args.here whole c.loop-read.words c.read_first-next.new.words c.loop-read.read c.loop-read.conditions c.add.new.conditions c.loop-read.is_in_range
    c.in-Ok.next c.read_first-next.result below c.loop-read.invariant.leads c.read_first-next.ensures.left c.read_first-next.ensures.condition c.in-Ok.ensures.read in
    read-other whole (others_in others c.read_first-next.new.words) c.add.new.conditions c.in-Ok.next c.in-Err-read_or.refusal more (c.in-Err-read_or.ensures.bad others)

pub loop-read-preserved : goal.loop-read-preserved
loop-read-preserved g c =
    let names = g.N.Names.names c.args.names.now in
    let whole = conditions_in names c.args.here c.args.words.now in
    let others = conditions_up_to (8 - (c.loop-read.read + 1)) names c.args.here in
    let below : c.loop-read.read < 8 = omega (arith, c.loop-read-test.true) in
    let more = read-more names c.args.here whole c.loop-read.words c.read_first-next.new.words c.loop-read.read c.loop-read.conditions c.add.new.conditions c.loop-read.is_in_range
    c.in-Ok.next c.read_first-next.result below c.loop-read.invariant.leads c.read_first-next.ensures.left c.read_first-next.ensures.condition c.in-Ok.ensures.read in
    record {
      leads = read-next whole (others_in others c.read_first-next.new.words) (others c.read_or.new.words) c.add.new.conditions c.in-Ok.next more
          (rw c.in-Ok-true.field-0-test at (c.in-Ok-true.ensures.goes_on others));
      within = omega (arith, c.loop-read.invariant.within, c.in-Ok.ensures.within);
    }
