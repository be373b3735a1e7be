use Rattle.std.proofs.Common.{true, false, ◌&&◌, ◌≡◌, ◌∙◌, sym, ap}
use Rattle.std.specs.Cmp.Lexicographic.{pointwise}
use Rattle.mix_word.specs.Word.{is_same_word}
use Rattle.mix_machine.specs.Part.{is_same_row}
use Rattle.mix_machine.proofs.SameFields.{same-units}
use Rattle.mix_machine.proofs.units.unit.Unit.is_same.Goals as goal

pub returns-then-are_same_words : goal.returns-then-are_same_words
returns-then-are_same_words c =
    let u = c.self.inside in
    let v = c.other.inside in
    let alike = sym c.is_alike.ensures ∙ c.if-not-is_alike.false in
    let same = same-units u v c.args.self.now c.args.other.now c.self.view_is c.other.view_is c.self.invariant c.other.invariant alike in
    let words : pointwise is_same_word u.words.items v.words.items ≡ true =
    rw (← c.deref.ensures.value, ← c.deref-2.ensures.value) (sym c.are_same_words.ensures ∙ c.if-are_same_words.true) in
    let rows : c.are_same_rows.result ≡ pointwise is_same_row u.rows.items v.rows.items =
    rw (← c.deref-then-are_same_words.ensures.value, ← c.deref-then-are_same_words-2.ensures.value) c.are_same_rows.ensures in
    rows ∙ ap (λ b. b && pointwise is_same_row u.rows.items v.rows.items) (sym words) ∙ same

pub returns-else-are_same_words : goal.returns-else-are_same_words
returns-else-are_same_words c =
    let u = c.self.inside in
    let v = c.other.inside in
    let alike = sym c.is_alike.ensures ∙ c.if-not-is_alike.false in
    let same = same-units u v c.args.self.now c.args.other.now c.self.view_is c.other.view_is c.self.invariant c.other.invariant alike in
    let words : pointwise is_same_word u.words.items v.words.items ≡ false =
    rw (← c.deref.ensures.value, ← c.deref-2.ensures.value) (sym c.are_same_words.ensures ∙ c.if-are_same_words.false) in
    c.if-are_same_words.false ∙ ap (λ b. b && pointwise is_same_row u.rows.items v.rows.items) (sym words) ∙ same
