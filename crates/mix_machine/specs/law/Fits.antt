-- Which lists of writes keep the state in its ranges, and that the old values of such a list undo it.
use Rattle.std.specs.Prelude.{ℕ, ◌+◌, slice_set, true, false, Bool, not, ◌&&◌, nat_le, nat_lt, List, [], ◌∷◌, ◌≡◌, ◌<◌, length, IsTrue, Some, refl}
use Rattle.std.specs.Option.{option_and_then}
use Rattle.std.proofs.Common.{ap, ◌∙◌, arith, rules}
use Rattle.std.proofs.lemmas.Bool.{and_parts}
use Rattle.std.proofs.lemmas.Bool.Decides.{nat_tests}
use Rattle.std.proofs.lemmas.List.{set-get_or, set-set}
use Rattle.undo_core.specs.Replay.{put_back}
use Rattle.mix_word.specs.Prelude.{WordValue, zero_word, unit_count}
use Rattle.mix_word.specs.declared.register.Reg.{Reg}
use Rattle.mix_word.specs.declared.register.Reg.TheVariants.{A, X, I1, I2, I3, I4, I5, I6, J}
use Rattle.mix_machine.specs.Registers.{RegistersState, AreRegisters, held_in, with_register, fits_register}
use Rattle.mix_machine.specs.World.{WorldState, IsWorld, cell_of, unit_at, has_break}
use Rattle.mix_machine.specs.units.UnitKind.{has_medium, has_output}
use Rattle.mix_machine.specs.units.Row.{RowState}
use Rattle.mix_machine.specs.units.Unit.{most_entries, last_until}
use Rattle.mix_machine.specs.units.Units.{UnitsState, AreUnits}
use Rattle.mix_machine.specs.units.Keep.{keep-set_place, keep-set_length, keep-set_item, keep-set_until, keep-add_blocks, keep-add_row}
use Rattle.mix_machine.specs.Write.{set_value, value_at, fits, put_value, Write, set, grow, print, written, replaced, write_all, kept_by}
use Rattle.mix_machine.specs.units.Back.{back-set_place, fits-place_at, back-set_until, fits-until_at, back-set_item, fits-item_at, back-add_blocks, fits-length_of_blocks, back-add_row, fits-length_of_rows}
use Rattle.mix_machine.specs.law.Units.{is-number, place-below, item-below}
use Rattle.mix_machine.specs.declared.old.Old.{Old}
use Rattle.mix_machine.specs.declared.old.Old.TheVariants.{Loc, Clock, Reg as OldRegister, Cell, Over, Cmp as OldCmp, Break, At, Len, Item, Until}

-- a length is only put back
abbrev pub is_length : Old → Bool
is_length (Loc n) = false
is_length (Clock t) = false
is_length (OldRegister r v) = false
is_length (Cell p v) = false
is_length (Over b) = false
is_length (OldCmp c) = false
is_length (Break p b) = false
is_length (At n k) = false
is_length (Len n k) = true
is_length (Item n i j v) = false
is_length (Until n t) = false

-- whether a write's place is there, and its value in the range of it; or there is room for what grows
abbrev pub write_fits : WorldState → Write → Bool
write_fits w (set o) = not (is_length o) && fits w o
write_fits w (grow n gap block) =
    nat_lt n unit_count && has_medium (unit_at w n).kind && nat_lt (length (unit_at w n).blocks + gap) most_entries
write_fits w (print n row) =
    nat_lt n unit_count && not (has_medium (unit_at w n).kind) && has_output (unit_at w n).kind
    && nat_lt (length (unit_at w n).rows) most_entries

-- each in the state that the writes before it left
abbrev pub AllFit : WorldState → List Write → Type 0
AllFit w [] = Unit {0}
AllFit w (x ∷ xs) = IsTrue (write_fits w x) × AllFit (written w x) xs

-- a register that can hold a word keeps the ranges
registers-with : (r : RegistersState) (at : Reg) (v : WordValue) → AreRegisters r → IsTrue (fits_register at v) →
    AreRegisters (with_register r at v)
registers-with r A v h f = search rules
registers-with r X v h f = search rules
registers-with r I1 v h f = search (rules, nat_tests)
registers-with r I2 v h f = search (rules, nat_tests)
registers-with r I3 v h f = search (rules, nat_tests)
registers-with r I4 v h f = search (rules, nat_tests)
registers-with r I5 v h f = search (rules, nat_tests)
registers-with r I6 v h f = search (rules, nat_tests)
registers-with r J v h f = search (rules, nat_tests)

pub with-units : (w : WorldState) (us : UnitsState) → IsWorld w → AreUnits us → IsWorld (record w { units = us })
with-units w us h u =
    record { registers = h.registers; cells = h.cells; loc = h.loc; clock = h.clock; units = u; breaks = h.breaks }

pub world-set_value : (w : WorldState) (o : Old) → IsWorld w → IsTrue (fits w o) → IsWorld (set_value w o)
world-set_value w (Loc n) h f = search (rules, nat_tests)
world-set_value w (Clock t) h f = search (rules, nat_tests)
world-set_value w (OldRegister r v) h f =
    record { registers = registers-with w.registers r v h.registers f; cells = h.cells; loc = h.loc; clock = h.clock; units = h.units; breaks = h.breaks }
world-set_value w (Cell p v) h f = search (rules, nat_tests)
world-set_value w (Over b) h f = search rules
world-set_value w (OldCmp c) h f = search rules
world-set_value w (Break p b) h f = search (rules, nat_tests)
world-set_value w (At n k) h f = with-units w _ h (keep-set_place w.units n k h.units f)
world-set_value w (Len n k) h f = with-units w _ h (keep-set_length w.units n k h.units f)
world-set_value w (Item n i j v) h f = with-units w _ h (keep-set_item w.units n i j v h.units f)
world-set_value w (Until n t) h f = with-units w _ h (keep-set_until w.units n t h.units f)

-- what the test of a write that grows says
record CanGrow (w : WorldState) (n gap : ℕ) : Type 0 where
  pub unit : n < unit_count
  pub medium : has_medium (unit_at w n).kind ≡ true
  pub room : length (unit_at w n).blocks + gap < most_entries

can-grow : (w : WorldState) (n gap : ℕ) (block : List WordValue) → IsTrue (write_fits w (grow n gap block)) → CanGrow w n gap
can-grow w n gap block f =
    let all = and_parts (nat_lt n unit_count && has_medium (unit_at w n).kind) (nat_lt (length (unit_at w n).blocks + gap) most_entries) f in
    let both = and_parts (nat_lt n unit_count) (has_medium (unit_at w n).kind) all.0 in
    record { unit = grind (arith, nat_tests); medium = both.1; room = grind (arith, nat_tests) }

record CanPrint (w : WorldState) (n : ℕ) : Type 0 where
  pub unit : n < unit_count
  pub medium : has_medium (unit_at w n).kind ≡ false
  pub output : has_output (unit_at w n).kind ≡ true
  pub room : length (unit_at w n).rows < most_entries

not-false : (b : Bool) → IsTrue (not b) → b ≡ false
not-false true h = absurd (cc)
not-false false h = refl

can-print : (w : WorldState) (n : ℕ) (row : RowState) → IsTrue (write_fits w (print n row)) → CanPrint w n
can-print w n row f =
    let u = unit_at w n in
    let all = and_parts (nat_lt n unit_count && not (has_medium u.kind) && has_output u.kind) (nat_lt (length u.rows) most_entries) f in
    let three = and_parts (nat_lt n unit_count && not (has_medium u.kind)) (has_output u.kind) all.0 in
    let both = and_parts (nat_lt n unit_count) (not (has_medium u.kind)) three.0 in
    record { unit = grind (arith, nat_tests); medium = not-false (has_medium u.kind) both.1; output = three.1; room = grind (arith, nat_tests) }

pub world-written : (w : WorldState) (x : Write) → IsWorld w → IsTrue (write_fits w x) → IsWorld (written w x)
world-written w (set o) h f = world-set_value w o h (and_parts (not (is_length o)) (fits w o) f).1
world-written w (grow n gap block) h f =
    let can = can-grow w n gap block f in
    with-units w _ h (keep-add_blocks w.units n gap block h.units can.unit can.room)
world-written w (print n row) h f =
    let can = can-print w n row f in
    with-units w _ h (keep-add_row w.units n row h.units can.unit can.room)

pub fits-held_in : (r : RegistersState) (at : Reg) → AreRegisters r → IsTrue (fits_register at (held_in r at))
fits-held_in r A h = refl
fits-held_in r X h = refl
fits-held_in r I1 h = grind (arith, nat_tests)
fits-held_in r I2 h = grind (arith, nat_tests)
fits-held_in r I3 h = grind (arith, nat_tests)
fits-held_in r I4 h = grind (arith, nat_tests)
fits-held_in r I5 h = grind (arith, nat_tests)
fits-held_in r I6 h = grind (arith, nat_tests)
fits-held_in r J h =
    let e = h.j_sign in
    let l : r.j.magnitude < 4096 = h.j in
    rw e (grind (arith, nat_tests))

register-put_back : (r : RegistersState) (at : Reg) (v : WordValue) →
    with_register (with_register r at v) at (held_in r at) ≡ r
register-put_back r A v = refl
register-put_back r X v = refl
register-put_back r I1 v = refl
register-put_back r I2 v = refl
register-put_back r I3 v = refl
register-put_back r I4 v = refl
register-put_back r I5 v = refl
register-put_back r I6 v = refl
register-put_back r J v = refl

fits-value_at : (w : WorldState) (o : Old) → IsWorld w → IsTrue (not (is_length o)) → IsTrue (fits w o) →
    IsTrue (fits (set_value w o) (value_at w o))
fits-value_at w (Loc n) h s f = grind (arith, nat_tests)
fits-value_at w (Clock t) h s f = grind (arith, nat_tests)
fits-value_at w (OldRegister r v) h s f = fits-held_in w.registers r h.registers
fits-value_at w (Cell p v) h s f = f
fits-value_at w (Over b) h s f = refl
fits-value_at w (OldCmp c) h s f = refl
fits-value_at w (Break p b) h s f = f
fits-value_at w (At n k) h s f = fits-place_at w.units n k h.units f
fits-value_at w (Len n k) h s f = absurd (cc)
fits-value_at w (Item n i j v) h s f = fits-item_at w.units n i j v h.units f
fits-value_at w (Until n t) h s f = fits-until_at w.units n h.units (is-number n (nat_le t last_until) f)

with-them : (w : WorldState) (us : UnitsState) → us ≡ w.units → record w { units = us } ≡ w
with-them w us e = ap (λ (units : UnitsState). record w { units = units }) e

set-value_at : (w : WorldState) (o : Old) → IsWorld w → IsTrue (not (is_length o)) → IsTrue (fits w o) →
    set_value (set_value w o) (value_at w o) ≡ w
set-value_at w (Loc n) h s f = refl
set-value_at w (Clock t) h s f = refl
set-value_at w (OldRegister r v) h s f =
    ap (λ (registers : RegistersState). record w { registers = registers }) (register-put_back w.registers r v)
set-value_at w (Cell p v) h s f =
    let same : slice_set (slice_set w.cells p v) p (cell_of w p) ≡ w.cells =
    set-set w.cells p v (cell_of w p) ∙ set-get_or w.cells p zero_word in
    ap (λ (cells : List WordValue). record w { cells = cells }) same
set-value_at w (Over b) h s f = refl
set-value_at w (OldCmp c) h s f = refl
set-value_at w (Break p b) h s f =
    let same : slice_set (slice_set w.breaks p b) p (has_break w p) ≡ w.breaks =
    set-set w.breaks p b (has_break w p) ∙ set-get_or w.breaks p false in
    ap (λ (breaks : List Bool). record w { breaks = breaks }) same
set-value_at w (At n k) h s f = with-them w _ (back-set_place w.units n k h.units (place-below w.units n k f))
set-value_at w (Len n k) h s f = absurd (cc)
set-value_at w (Item n i j v) h s f = with-them w _ (back-set_item w.units n i j v h.units (item-below w.units n i j f))
set-value_at w (Until n t) h s f = with-them w _ (back-set_until w.units n t h.units (is-number n (nat_le t last_until) f))

-- putting back what a write replaced undoes it
put-replaced : (w : WorldState) (x : Write) → IsWorld w → IsTrue (write_fits w x) → put_value (written w x) (replaced w x) ≡ Some w
put-replaced w (set o) h f =
    let parts = and_parts (not (is_length o)) (fits w o) f in
    rw (fits-value_at w o h parts.0 parts.1) (ap Some (set-value_at w o h parts.0 parts.1))
put-replaced w (grow n gap block) h f =
    let can = can-grow w n gap block f in
    rw (fits-length_of_blocks w.units n gap block h.units can.unit can.medium)
    (ap Some (with-them w _ (back-add_blocks w.units n gap block h.units can.unit can.medium)))
put-replaced w (print n row) h f =
    let can = can-print w n row f in
    rw (fits-length_of_rows w.units n row h.units can.unit can.medium can.output)
    (ap Some (with-them w _ (back-add_row w.units n row h.units can.unit can.medium can.output)))

-- putting back what a list of writes replaced, last first, undoes them all
pub undone-write_all : (w : WorldState) (xs : List Write) → IsWorld w → AllFit w xs → put_back put_value (kept_by w xs) (write_all w xs) ≡ Some w
undone-write_all w [] h f = refl
undone-write_all w (x ∷ xs) h f =
    ap (option_and_then (λ t. put_value t (replaced w x))) (undone-write_all (written w x) xs (world-written w x h f.0) f.1)
    ∙ put-replaced w x h f.0
