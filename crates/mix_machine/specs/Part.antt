-- The parts of the machine, whether a change altered one, and the mark by which that is seen without comparing the
-- whole part.
use Rattle.std.specs.Prelude.{Bool, true, false, not, ◌==◌, ◌&&◌, ◌<◌, if◌then◌else◌, List, [], ◌∷◌, Option, None, Some, unwrap_or}
use Rattle.std.specs.Bool.{beq}
use Rattle.std.specs.Cmp.Lexicographic.{pointwise}
use Rattle.mix_word.specs.Prelude.{is_same_word, number_of_register, unit_count}
use Rattle.mix_word.specs.declared.register.Reg.{Reg}
use Rattle.mix_word.specs.declared.word.Cmp.{Cmp}
use Rattle.mix_word.specs.declared.word.Cmp.TheVariants.{Less, Equal, Greater}
use Rattle.mix_machine.specs.World.{WorldState, register_of, cell_of, unit_at}
use Rattle.mix_machine.specs.units.Row.{RowState}
use Rattle.mix_machine.specs.units.Unit.{UnitState}
use Rattle.mix_machine.specs.declared.units.kind.UnitKind.{UnitKind}
use Rattle.mix_machine.specs.declared.units.kind.UnitKind.TheVariants.{Tape, Disk, CardReader, CardPunch, Printer, Typewriter, PaperTape}
use Rattle.mix_machine.specs.declared.old.Old.{Old}
use Rattle.mix_machine.specs.declared.old.Old.TheVariants as old
use Rattle.mix_machine.specs.declared.part.Part.{Part}
use Rattle.mix_machine.specs.declared.part.Part.TheVariants.{Register, Over, Cmp as Indicated, Cell, Unit as Device, Loc, Clock}
use Rattle.mix_machine.specs.declared.part.Mark.{Mark}
use Rattle.mix_machine.specs.declared.part.Mark.TheVariants as mark

abbrev pub is_same_register : Reg → Reg → Bool
is_same_register r s = number_of_register r == number_of_register s

abbrev pub is_same_indicator : Cmp → Cmp → Bool
is_same_indicator Less Less = true
is_same_indicator Equal Equal = true
is_same_indicator Greater Greater = true
is_same_indicator _ _ = false

abbrev pub is_same_part : Part → Part → Bool
is_same_part (Register r) (Register s) = is_same_register r s
is_same_part Over Over = true
is_same_part Indicated Indicated = true
is_same_part (Cell p) (Cell q) = p == q
is_same_part (Device m) (Device n) = m == n
is_same_part Loc Loc = true
is_same_part Clock Clock = true
is_same_part _ _ = false

-- +0 and -0 are two marks
abbrev pub is_same_mark : Mark → Mark → Bool
is_same_mark (mark.Word v) (mark.Word w) = is_same_word v w
is_same_mark (mark.Toggle a) (mark.Toggle b) = beq a b
is_same_mark (mark.Indicator c) (mark.Indicator d) = is_same_indicator c d
is_same_mark (mark.Location m) (mark.Location n) = m == n
is_same_mark (mark.Time s) (mark.Time t) = s == t
is_same_mark _ _ = false

-- The mark of a part: what it holds; and of a unit the time until which its last transfer takes, which each IN, OUT
-- and IOC on it makes greater.
abbrev pub mark_of : WorldState → Part → Mark
mark_of w (Register r) = mark.Word (register_of w r)
mark_of w Over = mark.Toggle w.over
mark_of w Indicated = mark.Indicator w.cmp
mark_of w (Cell p) = mark.Word (cell_of w p)
mark_of w (Device n) = mark.Time (unit_at w n).until
mark_of w Loc = mark.Location w.loc
mark_of w Clock = mark.Time w.clock

-- the part whose mark a value gives, and that mark; a breakpoint is no part, and where a unit stands and what it holds
-- is not its mark
abbrev pub mark_in : Old → Option (Part × Mark)
mark_in (old.Loc n) = Some (Loc, mark.Location n)
mark_in (old.Clock t) = Some (Clock, mark.Time t)
mark_in (old.Reg r v) = Some (Register r, mark.Word v)
mark_in (old.Cell p v) = Some (Cell p, mark.Word v)
mark_in (old.Over b) = Some (Over, mark.Toggle b)
mark_in (old.Cmp c) = Some (Indicated, mark.Indicator c)
mark_in (old.Break p b) = None
mark_in (old.At n k) = None
mark_in (old.Len n k) = None
mark_in (old.Item n i j v) = None
mark_in (old.Until n t) = Some (Device n, mark.Time t)

-- the mark that is given, where it is of the part
abbrev pub given_of : Option (Part × Mark) → Part → Option Mark
given_of None part = None
given_of (Some given) part = if is_same_part given.0 part then Some given.1 else None

abbrev pub mark_given : Old → Part → Option Mark
mark_given o part = given_of (mark_in o) part

-- the mark of a part before the changes that kept some values, where `m` is its mark after them: the first value that
-- gives one says it
abbrev pub mark_before : List Old → Part → Mark → Mark
mark_before [] part m = m
mark_before (o ∷ os) part m = unwrap_or (mark_given o part) (mark_before os part m)

-- What is true of a part, as the places and units that it names are those of the machine.
abbrev pub IsPart : Part → Type 0
IsPart (Register r) = Unit {0}
IsPart Over = Unit {0}
IsPart Indicated = Unit {0}
IsPart (Cell p) = p < 4000
IsPart (Device n) = n < unit_count
IsPart Loc = Unit {0}
IsPart Clock = Unit {0}

abbrev pub is_same_kind : UnitKind → UnitKind → Bool
is_same_kind Tape Tape = true
is_same_kind Disk Disk = true
is_same_kind CardReader CardReader = true
is_same_kind CardPunch CardPunch = true
is_same_kind Printer Printer = true
is_same_kind Typewriter Typewriter = true
is_same_kind PaperTape PaperTape = true
is_same_kind _ _ = false

abbrev pub is_same_row : RowState → RowState → Bool
is_same_row None None = true
is_same_row (Some v) (Some w) = pointwise is_same_word v w
is_same_row _ _ = false

-- whether two units are the same in all that they hold
abbrev pub is_same_unit : UnitState → UnitState → Bool
is_same_unit u v =
    is_same_kind u.kind v.kind && u.place == v.place && pointwise (pointwise is_same_word) u.blocks v.blocks
    && pointwise is_same_row u.rows v.rows && u.delay == v.delay && u.until == v.until

-- Whether a part is another in one state than in another state: all of it is compared.
abbrev pub is_altered : Part → WorldState → WorldState → Bool
is_altered (Register r) v w = not (is_same_word (register_of v r) (register_of w r))
is_altered Over v w = not (beq v.over w.over)
is_altered Indicated v w = not (is_same_indicator v.cmp w.cmp)
is_altered (Cell p) v w = not (is_same_word (cell_of v p) (cell_of w p))
is_altered (Device n) v w = not (is_same_unit (unit_at v n) (unit_at w n))
is_altered Loc v w = not (v.loc == w.loc)
is_altered Clock v w = not (v.clock == w.clock)
