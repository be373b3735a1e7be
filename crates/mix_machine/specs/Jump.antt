-- When a jump is taken, and what it writes (1.3.1, "Jump operators").
use Rattle.std.specs.Prelude.{◌+◌, Bool, true, false, not, ◌&&◌, ◌==◌, if◌then◌else◌}
use Rattle.mix_word.specs.declared.word.Cmp.{Cmp}
use Rattle.mix_word.specs.declared.operation.JumpKind.{JumpKind}
use Rattle.mix_word.specs.declared.operation.Condition.{Condition}
use Rattle.mix_word.specs.Word.{WordValue, plus, is_plus}
use Rattle.mix_word.specs.declared.word.Cmp.TheVariants.{Less as Lower, Equal as Same, Greater as Higher}
use Rattle.mix_word.specs.declared.register.Reg.TheVariants as reg
use Rattle.mix_word.specs.declared.operation.JumpKind.TheVariants.{Jmp, Jsj, Jov, Jnov, Less, Equal, Greater, GreaterEqual, NotEqual, LessEqual}
use Rattle.mix_word.specs.declared.operation.Condition.TheVariants.{Negative, Zero, Positive, NotNegative, NotZero, NotPositive}
use Rattle.mix_machine.specs.World.{WorldState}
use Rattle.mix_machine.specs.declared.plan.Writes.{Writes}
use Rattle.mix_machine.specs.declared.plan.Writes.TheVariants.{Nothing, Register, RegisterAndToggle}

abbrev pub is_less : Cmp → Bool
is_less Lower = true
is_less Same = false
is_less Higher = false

abbrev pub is_equal : Cmp → Bool
is_equal Lower = false
is_equal Same = true
is_equal Higher = false

abbrev pub is_greater : Cmp → Bool
is_greater Lower = false
is_greater Same = false
is_greater Higher = true

-- whether a jump that looks at no register is taken
abbrev pub is_taken : JumpKind → WorldState → Bool
is_taken Jmp w = true
is_taken Jsj w = true
is_taken Jov w = w.over
is_taken Jnov w = not w.over
is_taken Less w = is_less w.cmp
is_taken Equal w = is_equal w.cmp
is_taken Greater w = is_greater w.cmp
is_taken GreaterEqual w = not (is_less w.cmp)
is_taken NotEqual w = not (is_equal w.cmp)
is_taken LessEqual w = not (is_greater w.cmp)

-- -0 is neither negative nor positive
abbrev pub is_negative : WordValue → Bool
is_negative v = not (is_plus v.sign) && not (v.magnitude == 0)

abbrev pub is_zero : WordValue → Bool
is_zero v = v.magnitude == 0

abbrev pub is_positive : WordValue → Bool
is_positive v = is_plus v.sign && not (v.magnitude == 0)

-- whether a register meets what a jump asks of it
abbrev pub is_met : Condition → WordValue → Bool
is_met Negative v = is_negative v
is_met Zero v = is_zero v
is_met Positive v = is_positive v
is_met NotNegative v = not (is_negative v)
is_met NotZero v = not (is_zero v)
is_met NotPositive v = not (is_positive v)

-- rJ after a jump: the location after it where it is taken, and else what it was
abbrev pub return_address : WorldState → Bool → WordValue
return_address w taken = if taken then plus (w.loc + 1) else w.registers.j

-- what a jump writes, by the rJ after it: JSJ leaves it, and JOV and JNOV leave the toggle off
abbrev pub jump_writes : JumpKind → WordValue → Writes
jump_writes Jmp j = Register reg.J j
jump_writes Jsj j = Nothing
jump_writes Jov j = RegisterAndToggle reg.J j false
jump_writes Jnov j = RegisterAndToggle reg.J j false
jump_writes Less j = Register reg.J j
jump_writes Equal j = Register reg.J j
jump_writes Greater j = Register reg.J j
jump_writes GreaterEqual j = Register reg.J j
jump_writes NotEqual j = Register reg.J j
jump_writes LessEqual j = Register reg.J j
