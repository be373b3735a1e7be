use Rattle.mix_word.proofs.RowLemmas.{at_shift, at_load, at_load_negated, at_store, at_jump, at_register_jump, at_increase, at_decrease, at_enter, at_enter_negated, at_compare}
use Rattle.mix_word.proofs.operation.Operation.row_number.Goals as goal

pub returns-in-Shift : goal.returns-in-Shift
returns-in-Shift c = rw c.in-Shift.is (at_shift c.in-Shift.kind _ c.number.ensures)

pub returns-in-Load : goal.returns-in-Load
returns-in-Load c = rw c.in-Load.is (at_load c.in-Load.r _ c.offset.ensures.is)

pub returns-in-LoadNegated : goal.returns-in-LoadNegated
returns-in-LoadNegated c = rw c.in-LoadNegated.is (at_load_negated c.in-LoadNegated.r _ c.offset-in-LoadNegated.ensures.is)

pub returns-in-Store : goal.returns-in-Store
returns-in-Store c = rw c.in-Store.is (at_store c.in-Store.r _ c.offset-in-Store.ensures.is)

pub returns-in-Jump : goal.returns-in-Jump
returns-in-Jump c = rw c.in-Jump.is (at_jump c.in-Jump.kind _ c.number-in-Jump.ensures)

pub returns-in-RegisterJump : goal.returns-in-RegisterJump
returns-in-RegisterJump c = rw c.in-RegisterJump.is (at_register_jump c.in-RegisterJump.r c.in-RegisterJump.condition _ _ c.offset-in-RegisterJump.ensures.is c.number-in-RegisterJump.ensures)

pub returns-in-Increase : goal.returns-in-Increase
returns-in-Increase c = rw c.in-Increase.is (at_increase c.in-Increase.r _ c.offset-in-Increase.ensures.is)

pub returns-in-Decrease : goal.returns-in-Decrease
returns-in-Decrease c = rw c.in-Decrease.is (at_decrease c.in-Decrease.r _ c.offset-in-Decrease.ensures.is)

pub returns-in-Enter : goal.returns-in-Enter
returns-in-Enter c = rw c.in-Enter.is (at_enter c.in-Enter.r _ c.offset-in-Enter.ensures.is)

pub returns-in-EnterNegated : goal.returns-in-EnterNegated
returns-in-EnterNegated c = rw c.in-EnterNegated.is (at_enter_negated c.in-EnterNegated.r _ c.offset-in-EnterNegated.ensures.is)

pub returns-in-Compare : goal.returns-in-Compare
returns-in-Compare c = rw c.in-Compare.is (at_compare c.in-Compare.r _ c.offset-in-Compare.ensures.is)
