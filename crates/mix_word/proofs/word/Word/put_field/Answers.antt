use Rattle.std.proofs.Common.{rules, ◌<◌, ◌^◌}
use Rattle.mix_word.proofs.FieldLemmas.{whole_put, fits}
use Rattle.mix_word.proofs.word.Word.put_field.Goals as goal

pub returns-then-is_whole : goal.returns-then-is_whole
returns-then-is_whole c =
    let a = c.args in
    let old : a.self.magnitude < 2 ^ 30 = fits a.self (search rules) in
    let new : a.v.magnitude < 2 ^ 30 = fits a.v (search rules) in
    whole_put a.self a.v a.f _ c.if-is_whole.true c.is_whole.ensures old new
