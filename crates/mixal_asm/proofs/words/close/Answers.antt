use Rattle.std.proofs.Common.{ℕ, length, Option, Some, None, arith}
use Rattle.std.specs.Option.{IfSome}
use Rattle.mixal_asm.specs.Chain.{links_of}
use Rattle.mixal_asm.proofs.ChainLemmas.{Turn, turn, begun, last_waits, within}
use Rattle.mixal_asm.proofs.words.close.Goals as goal

walked : (c : goal.After-entries-1)
    → Turn c.args.name.now c.args.value c.args.entries.now.items c.loop-next.entries.items c.in-Some.at c.index_mut-entry.result.now c.with_address-entry.result
walked c =
    let items = rw c.in-Some.is at c.loop-next.invariant.items in
    let there = rw c.in-Some.is at c.loop-next.invariant.there in
    turn _ _ _ _ _ _ _ c.requires.linked items there c.index_mut-entry.ensures.value c.with_address-entry.ensures

any_link : (o : Option ℕ) (P : Type 0) → P → IfSome o (λ _. P)
any_link None P h = tt
any_link (Some i) P h = h

pub loop-next-init : goal.loop-next-init
loop-next-init c = record {
  items = begun _ _ _ _ c.requires.last;
  there = rw c.requires.last (last_waits c.args.name.now (links_of c.args.entries.now.items) (length c.args.entries.now.items));
  fits = c.requires.fits;
}

pub index_mut-entry-requires : goal.index_mut-entry-requires
index_mut-entry-requires c =
    let there = rw c.in-Some.is at c.loop-next.invariant.there in
    let below = within _ _ _ _ _ _ c.loop-next.invariant.items there in
    omega (arith, c.loop-next.entries.ok.0)

pub with_address-entry-requires : goal.with_address-entry-requires
with_address-entry-requires c = rw c.in-Some.is at c.loop-next.invariant.fits

pub loop-next-preserved : goal.loop-next-preserved
loop-next-preserved c =
    let w = walked c in
    record { items = w.items; there = w.there; fits = any_link _ _ (rw c.in-Some.is at c.loop-next.invariant.fits) }

pub loop-next-smaller : goal.loop-next-smaller
loop-next-smaller c = rw c.in-Some.is (walked c).smaller
