use Rattle.std.proofs.Common.{◌≡◌, length, List, [], ◌∷◌, ◌++◌, sym, subst, ap, ◌∙◌}
use Rattle.mixal_asm.specs.Prelude.{Entry, IsChained, links_of, IsUsed}
use Rattle.mixal_asm.proofs.ChainLemmas.{chained_with}
use Rattle.mixal_asm.proofs.words.WordList.push.Goals as goal

pub invariant_of-self-2 : goal.invariant_of-self-2
invariant_of-self-2 c =
    let entry : Entry = record { emitted = c.args.emitted; word = c.args.emitted.word; before = c.in_ok-before.before } in
    let put = rw c.unwrap.ensures at c.push.ensures.items in
    let size : c.len.result ≡ length c.self.inside.entries.items =
    c.len.ensures ∙ c.reserve.new.self.ok.0 ∙ ap length c.reserve.ensures.items in
    let items : c.push.new.self.items ≡ c.self.inside.entries.items ++ entry ∷ [] =
    put ∙ ap (λ (es : List Entry). es ++ entry ∷ []) c.reserve.ensures.items in
    let used : IsUsed c.self.inside.last.entries c.note_use.new.last.entries c.args.emitted.awaits (length c.self.inside.entries.items) =
    rw size at c.in_ok-before.ensures.used in
    subst (λ (es : List Entry). IsChained (links_of es) c.note_use.new.last.entries) (sym items)
    (chained_with c.self.inside.entries.items entry _ _ c.self.invariant c.in_ok-before.ensures.before used)
