use Rattle.mix_machine.proofs.Counting.{counted, few_kept, few_in_all}
use Rattle.mix_machine.proofs.laws.kept_count_law.Goals as goal

pub returns : goal.returns
returns c = record { counted = counted; most = few_kept; all = few_in_all }
