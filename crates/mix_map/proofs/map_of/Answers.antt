use Rattle.std.proofs.Common.{ap, map, sym, take, ◌∙◌}
use Rattle.std.proofs.lemmas.List.{take-map}
use Rattle.mix_map.specs.Map.{row_seen}
use Rattle.mix_map.proofs.map_of.Goals as goal

pub returns-clause-rows : goal.returns-clause-rows
returns-clause-rows c =
    ap (map row_seen) c.truncate.ensures.items ∙ sym (take-map row_seen c.args.kept c.in_ok-rows.rows.items) ∙ ap (take c.args.kept) c.in_ok-rows.ensures
