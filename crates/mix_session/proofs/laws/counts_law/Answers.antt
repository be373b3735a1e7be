use Rattle.mix_session.proofs.SumLemmas.{count-of_all, times-of_clock, times-of_loaded, counts-of_cells, times-of_cells}
use Rattle.mix_session.proofs.laws.counts_law.Goals as goal

pub returns : goal.returns
returns c =
    let law = c.change_law.ensures in
    record {
      steps = count-of_all;
      clock = times-of_clock law.forward law.kept;
      loaded = times-of_loaded law.forward law.kept;
      counts = counts-of_cells law.place law.world;
      times = times-of_cells law.place law.world;
    }
