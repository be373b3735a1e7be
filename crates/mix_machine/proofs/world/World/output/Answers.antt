use Rattle.std.proofs.Common.{sym, ◌∙◌, subst}
use Rattle.mix_machine.specs.law.Wrote.{HasRoom, Wrote, Tried}
use Rattle.mix_machine.proofs.TransferLemmas.{kind-of, blocks-of, out-row, out-replace, out-append}
use Rattle.mix_machine.proofs.world.World.output.Goals as goal

pub print-requires-clause-room : goal.print-requires-clause-room
print-requires-clause-room c =
    let w = c.args.self.now in
    let t = c.args.t in
    let kind = kind-of w t.unit _ _ c.kind-kind.ensures c.unit-unit.ensures in
    let writes = out-row w t _ kind (sym c.has_medium.ensures ∙ c.if-not-has_medium.true) in
    subst (λ xs. HasRoom c.args.kept.now xs) writes c.requires.room

pub replace-requires-clause-room : goal.replace-requires-clause-room
replace-requires-clause-room c =
    let w = c.args.self.now in
    let t = c.args.t in
    let kind = kind-of w t.unit _ _ c.kind-kind.ensures c.unit-unit.ensures in
    let blocks = blocks-of w t.unit _ _ c.blocks-blocks.ensures c.unit-unit.ensures in
    let writes = out-replace w t _ kind (sym c.has_medium.ensures ∙ c.if-not-has_medium.false) (rw blocks at c.if-block-blocks.true) in
    subst (λ xs. HasRoom c.args.kept.now xs) writes c.requires.room

pub append-requires-clause-room : goal.append-requires-clause-room
append-requires-clause-room c =
    let w = c.args.self.now in
    let t = c.args.t in
    let kind = kind-of w t.unit _ _ c.kind-kind.ensures c.unit-unit.ensures in
    let blocks = blocks-of w t.unit _ _ c.blocks-blocks.ensures c.unit-unit.ensures in
    let writes = out-append w t _ kind (sym c.has_medium.ensures ∙ c.if-not-has_medium.false) (rw blocks at c.if-block-blocks.false) in
    subst (λ xs. HasRoom c.args.kept.now xs) writes c.requires.room

pub returns-then-not-has_medium-clause-tried : goal.returns-then-not-has_medium-clause-tried
returns-then-not-has_medium-clause-tried c =
    let w = c.args.self.now in
    let t = c.args.t in
    let kind = kind-of w t.unit _ _ c.kind-kind.ensures c.unit-unit.ensures in
    let writes = out-row w t _ kind (sym c.has_medium.ensures ∙ c.if-not-has_medium.true) in
    subst (λ xs. Tried xs w c.print.new.self c.args.kept.now c.print.new.kept c.print.result) (sym writes) c.print.ensures

pub returns-then-block-blocks-clause-tried : goal.returns-then-block-blocks-clause-tried
returns-then-block-blocks-clause-tried c =
    let w = c.args.self.now in
    let t = c.args.t in
    let kind = kind-of w t.unit _ _ c.kind-kind.ensures c.unit-unit.ensures in
    let blocks = blocks-of w t.unit _ _ c.blocks-blocks.ensures c.unit-unit.ensures in
    let writes = out-replace w t _ kind (sym c.has_medium.ensures ∙ c.if-not-has_medium.false) (rw blocks at c.if-block-blocks.true) in
    record { wrote = subst (λ xs. Wrote xs w c.replace.new.self c.args.kept.now c.replace.new.kept) (sym writes) c.replace.ensures; same = tt; same_kept = tt }

pub returns-else-block-blocks-clause-tried : goal.returns-else-block-blocks-clause-tried
returns-else-block-blocks-clause-tried c =
    let w = c.args.self.now in
    let t = c.args.t in
    let kind = kind-of w t.unit _ _ c.kind-kind.ensures c.unit-unit.ensures in
    let blocks = blocks-of w t.unit _ _ c.blocks-blocks.ensures c.unit-unit.ensures in
    let writes = out-append w t _ kind (sym c.has_medium.ensures ∙ c.if-not-has_medium.false) (rw blocks at c.if-block-blocks.false) in
    subst (λ xs. Tried xs w c.append.new.self c.args.kept.now c.append.new.kept c.append.result) (sym writes) c.append.ensures
