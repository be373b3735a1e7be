use Rattle.mix_session.specs.declared.altered.Kind.TheVariants.{Cells, Breaks, Units}
use Rattle.mix_session.proofs.NamedLemmas.{covers}
use Rattle.mix_session.proofs.altered.near.Named.by.Goals as goal

pub returns : goal.returns
returns c = λ v w leads.
    let cover = covers c.mark_law.ensures.before c.mark_law.ensures.altered c.mark_law.ensures.same c.args.kept.now v w leads in
    record {
      cells = cover Cells _ c.named_in.ensures.within c.named_in.ensures.others;
      breaks = cover Breaks _ c.named_in-2.ensures.within c.named_in-2.ensures.others;
      units = cover Units _ c.named_in-3.ensures.within c.named_in-3.ensures.others;
    }
