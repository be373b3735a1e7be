use Rattle.std.proofs.Common.{◌≡◌, ◌++◌, map}
use Rattle.std.specs.List.{filter}
use Rattle.mix_session.specs.Completion.{begins_so, symbol_names}
use Rattle.mix_session.proofs.completion.add_symbols.Given as goal

abbrev pub invariant-loop-symbol : goal.invariant-loop-symbol
invariant-loop-symbol l =
    map (λ w. w.now) l.list.items ++ filter (begins_so l.front) (map (λ symbol. symbol.0) l.symbol-iterator)
    ≡ map (λ w. w.now) l.initial.list.items ++ filter (begins_so l.front) (symbol_names l.program)
