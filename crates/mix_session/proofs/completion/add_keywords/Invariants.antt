use Rattle.std.proofs.Common.{◌≡◌, ◌++◌, map, take}
use Rattle.std.specs.List.{filter}
use Rattle.mix_session.specs.Completion.{begins_so}
use Rattle.mix_session.proofs.completion.add_keywords.Given as goal

abbrev pub invariant-loop-keyword : goal.invariant-loop-keyword
invariant-loop-keyword g l =
    map (λ w. w.now) l.list.items ≡ map (λ w. w.now) l.initial.list.items ++ filter (begins_so l.front) (map g.K.Keyword.name_of (take l.keyword-index l.keywords))
