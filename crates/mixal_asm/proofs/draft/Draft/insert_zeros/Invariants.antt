use Rattle.std.proofs.Common.{◌≡◌, false, drop}
use Rattle.mixal_asm.specs.Prelude.{is_taken, zero_lines, first_uses}
use Rattle.mixal_asm.proofs.draft.Draft.insert_zeros.Given as goal

abbrev pub invariant-loop-i : goal.invariant-loop-i
invariant-loop-i l = record {
  leads : zero_lines l.loc l.fn.self (first_uses l.fn.self.emitted) ≡ zero_lines l.loc l.self (drop l.i (first_uses l.self.emitted));
  same : first_uses l.self.emitted ≡ first_uses l.fn.self.emitted;
  untaken : is_taken l.fn.self.names l.loc ≡ false → is_taken l.self.names l.loc ≡ false;
}
