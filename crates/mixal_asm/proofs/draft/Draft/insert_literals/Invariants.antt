use Rattle.std.proofs.Common.{◌≡◌, ℕ, ◌≤◌, drop, List, None}
use Rattle.mixal_asm.specs.Prelude.{Name, Literal, value_of, literal_lines, first_uses}
use Rattle.mixal_asm.proofs.draft.Draft.insert_literals.Given as goal

abbrev pub invariant-loop-j : goal.invariant-loop-j
invariant-loop-j l = record {
  leads : literal_lines l.fn.self 0 l.fn.self.literals ≡ literal_lines l.self l.j (drop l.j l.self.literals);
  same : l.self.literals ≡ l.fn.self.literals;
  uses : first_uses l.self.emitted ≡ first_uses l.fn.self.emitted;
  others : (symbol : List ℕ) → value_of l.self.names (Name symbol) ≡ value_of l.fn.self.names (Name symbol);
  fresh : (k : ℕ) → l.j ≤ k → value_of l.self.names (Literal k) ≡ None;
}
