-- What handing in a line gives, as the definitions have it.
use Rattle.mixal_asm.specs.declared.fed.Fed.{Fed}
use Rattle.mixal_asm.specs.declared.fed.Fed.TheVariants as fed
use Rattle.mixal_asm.specs.Assembly.{Answer, More, Done}

abbrev pub answer_of_fed : Fed → Answer
answer_of_fed (fed.More assembler) = More assembler
answer_of_fed (fed.Done program) = Done program
