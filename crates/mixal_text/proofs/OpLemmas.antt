-- A text that is longer than every name names no operation.
use Rattle.std.proofs.Common.{◌≡◌, ℕ, ◌<◌, true, false, None, List, length, refl, ap, arith}
use Rattle.std.specs.Prelude.{codes}
use Rattle.std.specs.Str.{bytes_eq, str_to_ascii_uppercase}
use Rattle.std.proofs.lemmas.List.{length-map}
use Rattle.std.proofs.lemmas.Slice.Eq.{bytes_eq-Decides}
use Rattle.mix_word.specs.Table.{operation_named}
use Rattle.mixal_text.specs.Op.{mnemonic_of}

-- two texts of different lengths are not the same
bytes_eq-longer : (xs ys : List ℕ) → length ys < length xs → bytes_eq xs ys ≡ false
bytes_eq-longer xs ys longer =
    elim (bytes_eq xs ys) as (λ b. bytes_eq xs ys ≡ b → b ≡ false) [
      | true ↦ λ e. absurd (omega (arith, ap length ((bytes_eq-Decides xs ys).0 e)))
      | false ↦ λ e. refl
    ] refl

mnemonic-longer : ((name : List ℕ) → 4 < length name → operation_named name ≡ None)
    → (name : List ℕ) → 4 < length name → None ≡ mnemonic_of name
unfolding mnemonic_of
mnemonic-longer law name longer =
    rw (
      bytes_eq-longer name (codes "EQU") (omega arith),
      bytes_eq-longer name (codes "ORIG") (omega arith),
      bytes_eq-longer name (codes "CON") (omega arith),
      bytes_eq-longer name (codes "ALF") (omega arith),
      bytes_eq-longer name (codes "END") (omega arith),
      law name longer,
    ) refl

pub long_name : ((name : List ℕ) → 4 < length name → operation_named name ≡ None)
    → (name : List ℕ) → 4 < length name → None ≡ mnemonic_of (str_to_ascii_uppercase name)
long_name law name longer = mnemonic-longer law (str_to_ascii_uppercase name) (rw length-map longer)
