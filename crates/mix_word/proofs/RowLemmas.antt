-- the row at which each operation stands in the list, and what a column of the table says there
use Rattle.std.proofs.Common.{◌≡◌, ℕ, ◌+◌, ◌*◌, ◌<◌, List, map, Some, get_or, length, refl, ap, ◌∙◌, sym}
use Rattle.std.specs.List.{slice_get}
use Rattle.std.proofs.lemmas.List.{length-map}
use Rattle.std.specs.Option.{option_map}
use Rattle.std.proofs.lemmas.Option.{slice_get-map, slice_get_within, get_or_from_slice_get}
use Rattle.std.proofs.Math.ListN.{get_or-map}
use Rattle.mix_word.specs.Prelude.{DataReg, A, I1, I2, I3, I4, I5, I6, X, ShiftKind, Sla, JumpKind, Jmp, Condition, Negative, Operation, Shift, Load, LoadNegated, Store, Jump, RegisterJump, Increase, Decrease, Enter, EnterNegated, Compare, offset_of, operations}
use Rattle.mix_word.specs.Operation.{number_of_shift, number_of_jump, number_of_condition}

pub at_shift : (kind : ShiftKind) (n : ℕ) → n ≡ number_of_shift kind → slice_get operations (8 + n) ≡ Some (Shift kind)
unfolding operations
at_shift Sla n e = rw e refl
at_shift _ n e = rw e refl

pub at_load : (r : DataReg) (n : ℕ) → n ≡ offset_of r → slice_get operations (15 + n) ≡ Some (Load r)
unfolding operations
at_load A n e = rw e refl
at_load _ n e = rw e refl

pub at_load_negated : (r : DataReg) (n : ℕ) → n ≡ offset_of r → slice_get operations (23 + n) ≡ Some (LoadNegated r)
unfolding operations
at_load_negated A n e = rw e refl
at_load_negated _ n e = rw e refl

pub at_store : (r : DataReg) (n : ℕ) → n ≡ offset_of r → slice_get operations (31 + n) ≡ Some (Store r)
unfolding operations
at_store A n e = rw e refl
at_store _ n e = rw e refl

pub at_jump : (kind : JumpKind) (n : ℕ) → n ≡ number_of_jump kind → slice_get operations (46 + n) ≡ Some (Jump kind)
unfolding operations
at_jump Jmp n e = rw e refl
at_jump _ n e = rw e refl

pub at_register_jump : (r : DataReg) (t : Condition) (n k : ℕ) → n ≡ offset_of r → k ≡ number_of_condition t → slice_get operations (56 + 6 * n + k) ≡ Some (RegisterJump r t)
unfolding operations
at_register_jump A Negative n k e f = rw (e, f) refl
at_register_jump I1 Negative n k e f = rw (e, f) refl
at_register_jump I2 Negative n k e f = rw (e, f) refl
at_register_jump I3 Negative n k e f = rw (e, f) refl
at_register_jump I4 Negative n k e f = rw (e, f) refl
at_register_jump I5 Negative n k e f = rw (e, f) refl
at_register_jump I6 Negative n k e f = rw (e, f) refl
at_register_jump X Negative n k e f = rw (e, f) refl
at_register_jump _ _ n k e f = rw (e, f) refl

pub at_increase : (r : DataReg) (n : ℕ) → n ≡ offset_of r → slice_get operations (104 + 4 * n) ≡ Some (Increase r)
unfolding operations
at_increase A n e = rw e refl
at_increase _ n e = rw e refl

pub at_decrease : (r : DataReg) (n : ℕ) → n ≡ offset_of r → slice_get operations (105 + 4 * n) ≡ Some (Decrease r)
unfolding operations
at_decrease A n e = rw e refl
at_decrease _ n e = rw e refl

pub at_enter : (r : DataReg) (n : ℕ) → n ≡ offset_of r → slice_get operations (106 + 4 * n) ≡ Some (Enter r)
unfolding operations
at_enter A n e = rw e refl
at_enter _ n e = rw e refl

pub at_enter_negated : (r : DataReg) (n : ℕ) → n ≡ offset_of r → slice_get operations (107 + 4 * n) ≡ Some (EnterNegated r)
unfolding operations
at_enter_negated A n e = rw e refl
at_enter_negated _ n e = rw e refl

pub at_compare : (r : DataReg) (n : ℕ) → n ≡ offset_of r → slice_get operations (136 + n) ≡ Some (Compare r)
unfolding operations
at_compare A n e = rw e refl
at_compare _ n e = rw e refl

-- a column that says g of each operation has as many rows, and says it in the row of op
in_column : {R Y : Type 0} (f : R → Y) (g : Operation → Y) (rows : List R) (op : Operation) (i : ℕ) → map f rows ≡ map g operations → slice_get operations i ≡ Some op → slice_get (map f rows) i ≡ Some (g op)
in_column f g rows op i same at = rw same (slice_get-map g operations i ∙ ap (option_map g) at)

pub row_within : {R Y : Type 0} (f : R → Y) (g : Operation → Y) (rows : List R) (op : Operation) (i : ℕ) → map f rows ≡ map g operations → slice_get operations i ≡ Some op → i < length rows
row_within f g rows op i same at =
    simp length-map at (slice_get_within (map f rows) i (g op) (in_column f g rows op i same at))

pub column : {R Y : Type 0} (f : R → Y) (g : Operation → Y) (rows : List R) (d : R) (op : Operation) (i : ℕ) → map f rows ≡ map g operations → slice_get operations i ≡ Some op → f (get_or rows i d) ≡ g op
column f g rows d op i same at =
    sym (get_or-map f rows i d) ∙ get_or_from_slice_get (map f rows) i (g op) (f d) (in_column f g rows op i same at)
