use Rattle.std.proofs.Common.{refl, subst, sym}
use Rattle.std.specs.List.{flat_map}
use Rattle.mix_word.specs.declared.pairs.TheConstants.{PAIRS}
use Rattle.mix_word.specs.Table.{operations, operation_at, decode_of}
use Rattle.mix_word.specs.Pairs.{IsPairTable}
use Rattle.mix_word.proofs.PairLemmas.{numbers_ok, numbers_ok-IsPairTable}
use Rattle.mix_word.proofs.pairs.pairs.Goals as goal

pub returns-clause-is : goal.returns-clause-is
unfolding numbers_ok operations operation_at decode_of
returns-clause-is c = subst IsPairTable (sym c.as_flattened.ensures.value) (numbers_ok-IsPairTable (flat_map (λ x. x) PAIRS) refl refl)
