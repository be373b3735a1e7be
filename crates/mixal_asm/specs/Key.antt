-- What a word may wait for: an ordinary symbol, a local symbol, or the place of a literal (1.3.2).
use Rattle.std.specs.Prelude.{ℕ, nat_eq, Bool, false, List, [], ◌∷◌}
use Rattle.std.specs.Prelude.{◌≡◌, ◌++◌}
use Rattle.std.proofs.Common.{ap}
use Rattle.std.specs.Bool.{Decides}
use Rattle.std.specs.Cmp.{unsigned_Decides, IsEquivalence, on_equiv}
use Rattle.std.specs.Cmp.Lexicographic.{pointwise, pointwise_decides, nat_list_eq_equiv}
use Rattle.std.specs.Hash as fed
use Rattle.std.specs.Hash.{HashWrites}
use Rattle.mixal_asm.specs.declared.key.Key.{Key}
use Rattle.mixal_asm.specs.declared.key.Key.TheVariants.{Name, Local, Literal}

-- a key as numbers: its kind, and what tells it from the others of its kind
abbrev pub key_numbers : Key → List ℕ
key_numbers (Name name) = 0 ∷ name
key_numbers (Local d n) = 1 ∷ d ∷ n ∷ []
key_numbers (Literal j) = 2 ∷ j ∷ []

-- whether two keys are the same
abbrev pub same_key : Key → Key → Bool
same_key key other = pointwise nat_eq (key_numbers key) (key_numbers other)

-- whether a key is of a dH, for this digit d
abbrev pub is_local : ℕ → Key → Bool
is_local d (Name name) = false
is_local d (Local e n) = nat_eq e d
is_local d (Literal j) = false

-- what a hash of it is made of
abbrev pub key_writes : Key → HashWrites
key_writes (Name name) = fed.u8 0 ++ fed.slice fed.u8 name
key_writes (Local d n) = fed.u8 1 ++ (fed.u8 d ++ fed.usize n)
key_writes (Literal j) = fed.u8 2 ++ fed.usize j

-- the numbers of a key tell which one it is
same_numbers : (key other : Key) → key_numbers key ≡ key_numbers other → key ≡ other
same_numbers (Name name) (Name other) e = cc
same_numbers (Name name) (Local d n) e = cc
same_numbers (Name name) (Literal j) e = cc
same_numbers (Local d n) (Name other) e = cc
same_numbers (Local d n) (Local e m) h = cc
same_numbers (Local d n) (Literal j) e = cc
same_numbers (Literal j) (Name other) e = cc
same_numbers (Literal j) (Local d n) e = cc
same_numbers (Literal i) (Literal j) e = cc

pub same_key_decides : (key other : Key) → Decides (same_key key other) (key ≡ other)
same_key_decides key other =
    let numbers : Decides (same_key key other) (key_numbers key ≡ key_numbers other) =
    pointwise_decides unsigned_Decides (key_numbers key) (key_numbers other) in
    ((λ h. same_numbers key other (numbers.0 h)), (λ e. numbers.1 (ap key_numbers e)))

pub same_key_equivalence : IsEquivalence same_key
same_key_equivalence = on_equiv key_numbers nat_list_eq_equiv
