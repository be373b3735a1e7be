use Rattle.mix_machine.proofs.MarkLemmas.{marks-before}
use Rattle.mix_machine.proofs.AlteredLemmas.{altered}
use Rattle.mix_machine.proofs.SameUnit.{same-unit}
use Rattle.mix_machine.proofs.laws.mark_law.Goals as goal

pub returns : goal.returns
returns c =
    record {
      before = λ olds w v part h p e. (marks-before olds w v h e).marks part p;
      world = λ olds w v h e. (marks-before olds w v h e).is_world;
      altered = λ v w change part h p e. altered v w change part h p e;
      same = λ u v. same-unit u v;
    }
