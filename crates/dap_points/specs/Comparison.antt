-- A condition of a breakpoint: whether a value compares with another one as it is to.
use Rattle.std.specs.Prelude.{ℤ, pos, neg_ℤ, Bool, true, false}
use Rattle.mix_word.specs.Prelude.{order_of, number_of}
use Rattle.mix_word.specs.declared.word.Cmp.{Cmp}
use Rattle.mix_word.specs.declared.word.Cmp.TheVariants.{Less, Equal, Greater}
use Rattle.mix_machine.specs.declared.part.Part.{Part}
use Rattle.mix_machine.specs.World.{WorldState, register_of, cell_of}
use Rattle.mix_machine.specs.declared.part.Part.TheVariants as part
use Rattle.dap_asked.specs.declared.deed.Worth.{Worth}
use Rattle.dap_asked.specs.declared.deed.Worth.TheVariants as worth
use Rattle.dap_points.specs.declared.points.comparison.Comparison.{Comparison}
use Rattle.dap_points.specs.declared.points.comparison.Relation.{Relation}

-- the toggle is 1 if it is on, and the indicator is -1, 0 or 1
abbrev pub toggle_number : Bool → ℤ
toggle_number false = pos 0
toggle_number true = pos 1

abbrev pub indicator_number : Cmp → ℤ
indicator_number Less = neg_ℤ (pos 1)
indicator_number Equal = pos 0
indicator_number Greater = pos 1

-- what a part of the machine holds, as a number; -0 is 0, and a unit holds more than a value
abbrev pub part_number : WorldState → Part → ℤ
part_number w (part.Register r) = number_of (register_of w r)
part_number w part.Over = toggle_number w.over
part_number w part.Cmp = indicator_number w.cmp
part_number w part.Loc = pos w.loc
part_number w part.Clock = pos w.clock
part_number w (part.Cell place) = number_of (cell_of w place)
part_number w (part.Unit n) = pos 0

-- the word of a W-value, or what a part holds at that moment
abbrev pub worth_number : WorldState → Worth → ℤ
worth_number w (worth.Word word) = number_of word
worth_number w (worth.Held part) = part_number w part

-- whether a relation holds of two numbers in this order
abbrev pub relates : Relation → Cmp → Bool
relates relation Less = relation.less
relates relation Equal = relation.equal
relates relation Greater = relation.greater

abbrev pub compares : WorldState → Comparison → Bool
compares w c = relates c.relation (order_of (worth_number w c.left) (worth_number w c.right))
