-- One line more: what has been written and what is left to write are the replies to all.
use Rattle.std.proofs.Common.{sym, subst, ◌∙◌}
use Rattle.mix_stream.specs.Stream.{AppendsFront}
use Rattle.mix_run.proofs.RunLemmas.{written-next, begun-at, told-next, all-said, all-told, nil-from_length}
use Rattle.mix_run.proofs.WritesLemmas.{begun-none}
use Rattle.mix_run.proofs.Written.{Appends-same, AppendsFront-all}
use Rattle.mix_run.proofs.commands.execute_lines.Goals as goal

pub returns-in_err-now-clause-begun : goal.returns-in_err-now-clause-begun
returns-in_err-now-clause-begun g c =
    begun-at c.args.echo c.loop-rest.session _ _ _ _ _ _ _ c.split_line.ensures.lines c.loop-rest.invariant.written (begun-none _ _)

pub returns-in_err-write_all-clause-begun : goal.returns-in_err-write_all-clause-begun
returns-in_err-write_all-clause-begun g c =
    begun-at c.args.echo c.loop-rest.session _ _ _ _ _ _ _ c.split_line.ensures.lines c.loop-rest.invariant.written
    (subst (AppendsFront _ _) (c.deref.ensures.value ∙ c.in_ok-now.ensures.1) c.in_err-write_all.ensures.begun)

pub loop-rest-preserved : goal.loop-rest-preserved
loop-rest-preserved g c =
    let split = c.split_line.ensures.lines in
    let now = c.in_ok-now.ensures in
    record {
      written = written-next c.args.echo c.loop-rest.session _ _ _ _ _ _ _ _ split now.0 c.loop-rest.invariant.written
          (Appends-same _ _ _ _ (c.deref.ensures.value ∙ now.1) c.in_ok-write_all.ensures.written);
      told = rw c.and-told.ensures (told-next c.args.echo c.loop-rest.session _ _ _ _ _ _ _ split now.0 c.loop-rest.invariant.told now.2);
      failed = c.in_ok-write_all.ensures.failed.1 (λ e. cc) ∙ c.loop-rest.invariant.failed;
    }

pub returns-clause-replies : goal.returns-clause-replies
returns-clause-replies g c =
    let none = nil-from_length _ (sym c.loop-rest-test.false ∙ c.is_empty.ensures) in
    (all-told c.args.echo c.loop-rest.session _ _ _ none c.loop-rest.invariant.told, all-said c.args.echo c.loop-rest.session _ _ _ _ none c.loop-rest.invariant.written)

pub returns-clause-begun : goal.returns-clause-begun
returns-clause-begun g c =
    let none = nil-from_length _ (sym c.loop-rest-test.false ∙ c.is_empty.ensures) in
    AppendsFront-all _ _ _ (all-said c.args.echo c.loop-rest.session _ _ _ _ none c.loop-rest.invariant.written)
