use Rattle.std.proofs.Common.{◌≡◌, ap}
use Rattle.mix_machine.specs.Prelude.{unit_at, view_of, Printer}
use Rattle.mix_machine.specs.UnitAction.{marks_page}
use Rattle.mix_machine.proofs.TransferLemmas.{world-printed}
use Rattle.mix_machine.proofs.world.World.control.Goals as goal

pub invariant_of-self-in-Printer : goal.invariant_of-self-in-Printer
invariant_of-self-in-Printer c =
    let kind : (unit_at c.args.self.now c.args.n).kind ≡ Printer = cc in
    world-printed (view_of c.self.inside) c.args.self.now c.add_page.new.self c.args.n _ c.self.view_is c.self.invariant c.requires.fits.unit
    (c.requires.fits.page (ap (λ k. marks_page k) kind)) c.in_ok-add_page-in-Printer.ensures.added
