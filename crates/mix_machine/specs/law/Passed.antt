-- What an accepted step has passed: each fault, by its name.
use Rattle.std.specs.Prelude.{Bool, true, false, ◌≡◌, cond, List, [], ◌∷◌, Result, Ok, Err, refl}
use Rattle.mix_machine.specs.Order.{first_fault, order}
use Rattle.mix_machine.specs.declared.fault.MixFault.{MixFault}
use Rattle.mix_machine.specs.declared.fault.MixFault.TheVariants.{NoOperation, FloatingOperation, IndexOverSix, LargeAddress, NoCell, NoField, IndexOverflow, NegativeShift, NoUnit, WrongDirection, NoBlock, BadControl, UnitFull, ClockFull, NoCellAtLocation}

abbrev PassesAll : (MixFault → Bool) → List MixFault → Type 0
PassesAll test [] = Unit {0}
PassesAll test (f ∷ fs) = (test f ≡ false) × PassesAll test fs

not_refused : {X : Type 0} (applies : Bool) (f : MixFault) (r : Result X MixFault) (x : X) → cond applies (Err f) r ≡ Ok x →
    (applies ≡ false) × (r ≡ Ok x)
not_refused true f r x h = cc
not_refused false f r x h = (refl, h)

passes_all : {X : Type 0} (test : MixFault → Bool) (fs : List MixFault) (x y : X) → first_fault test fs x ≡ Ok y →
    PassesAll test fs × (x ≡ y)
passes_all test [] x y h = (tt, cc)
passes_all test (f ∷ fs) x y h =
    let first = not_refused (test f) f (first_fault test fs x) y h in
    let rest = passes_all test fs x y first.1 in
    ((first.0, rest.0), rest.1)

-- the faults that don't apply to an accepted step
pub record Passed (test : MixFault → Bool) : Type 0 where
  pub location : test NoCellAtLocation ≡ false
  pub operation : test NoOperation ≡ false
  pub floating : test FloatingOperation ≡ false
  pub index : test IndexOverSix ≡ false
  pub address : test LargeAddress ≡ false
  pub field : test NoField ≡ false
  pub shift : test NegativeShift ≡ false
  pub unit : test NoUnit ≡ false
  pub direction : test WrongDirection ≡ false
  pub control : test BadControl ≡ false
  pub cell : test NoCell ≡ false
  pub overflow : test IndexOverflow ≡ false
  pub block : test NoBlock ≡ false
  pub full : test UnitFull ≡ false
  pub clock : test ClockFull ≡ false

named : (test : MixFault → Bool) → PassesAll test order → Passed test
named test (location, (operation, (floating, (index, (address, (field, (shift, (unit, (direction, (control, (cell, (overflow, (block, (full, (clock, _))))))))))))))) =
    record {
      location = location;
      operation = operation;
      floating = floating;
      index = index;
      address = address;
      field = field;
      shift = shift;
      unit = unit;
      direction = direction;
      control = control;
      cell = cell;
      overflow = overflow;
      block = block;
      full = full;
      clock = clock;
    }

pub passed : {X : Type 0} (test : MixFault → Bool) (x y : X) → first_fault test order x ≡ Ok y → Passed test × (x ≡ y)
passed test x y h = let all = passes_all test order x y h in (named test all.0, all.1)
