-- What waits after a request is what its contract says, and nothing waited before it.
use Rattle.std.proofs.Common.{inl, inr, refl, subst}
use Rattle.std.specs.Prelude.{IfNone, IfSome, IsErr}
use Rattle.mix_dap.specs.Prelude.{AskedShows, launched_of}
use Rattle.mix_dap.specs.Dialogue.{BeginsAs}
use Rattle.mix_dap.specs.declared.waiting.Asked.TheVariants as asked
use Rattle.mix_dap.proofs.EventLemmas.{sends-all}
use Rattle.mix_dap.proofs.ServedLemmas.{opens-as}
use Rattle.mix_dap.proofs.served.ask_before.Goals as goal

pub returns-in-Answered : goal.returns-in-Answered
returns-in-Answered g c = (
  refl,
  (
    c.kind_before-kind.result,
    c.kind_before-kind.ensures,
    (
      c.in_ok-receive.ensures.client,
      inl (
        g.L.Library.knows c.args.library.now,
        sends-all (λ old new. AskedShows (g.L.Library.knows c.args.library.now) c.kind_before-kind.result asked.Answered c.args.request.now old new)
            c.args.outbox.now c.receive.new.out c.requires (rw c.in-Answered.is at c.in_ok-receive.ensures.shows),
      ),
    ),
  ),
)

pub returns-in-Over : goal.returns-in-Over
returns-in-Over g c = (
  refl,
  (
    c.kind_before-kind.result,
    c.kind_before-kind.ensures,
    (
      g.L.Library.knows c.args.library.now,
      sends-all (λ old new. AskedShows (g.L.Library.knows c.args.library.now) c.kind_before-kind.result asked.Over c.args.request.now old new)
          c.args.outbox.now c.receive.new.out c.requires (rw c.in-Over.is at c.in_ok-receive.ensures.shows),
    ),
  ),
)

pub returns-in-Some : goal.returns-in-Some
returns-in-Some g c = (
  refl,
  (
    c.kind_before-kind.result,
    c.kind_before-kind.ensures,
    (
      c.in-Launch.texts,
      subst (λ client. BeginsAs c.in-Some.adapter c.in-Launch.texts client) c.in_ok-receive.ensures.client
          (subst (λ o. IfSome o (λ a. BeginsAs a c.in-Launch.texts c.receive.new.self.client)) c.in-Some.is c.in_ok-opened-in-Launch.ensures.begins),
      opens-as c.kind_before-kind.result (g.L.Library.knows c.args.library.now) c.args.request.now c.in-Launch.texts c.args.outbox.now c.receive.new.out c.opened.new.outbox c.requires
          (rw c.in-Launch.is at c.in_ok-receive.ensures.shows) c.in_ok-opened-in-Launch.ensures.prints,
    ),
  ),
)

pub returns-in-None : goal.returns-in-None
returns-in-None g c = (
  refl,
  (
    c.kind_before-kind.result,
    c.kind_before-kind.ensures,
    (
      c.in_ok-receive.ensures.client,
      inr (
        c.in-Launch.texts,
        subst (λ o. IfNone o (IsErr (launched_of c.in-Launch.texts))) c.in-None.is c.in_ok-opened-in-Launch.ensures.refused,
        opens-as c.kind_before-kind.result (g.L.Library.knows c.args.library.now) c.args.request.now c.in-Launch.texts c.args.outbox.now c.receive.new.out c.opened.new.outbox c.requires
            (rw c.in-Launch.is at c.in_ok-receive.ensures.shows) c.in_ok-opened-in-Launch.ensures.prints,
      ),
    ),
  ),
)
