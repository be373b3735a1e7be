-- Only IOC, IN and OUT make anything of a transfer.
use Rattle.std.specs.Prelude.{◌≡◌, ◌↔◌, ℕ, Bool, true, false, cond, ◌&&◌, ◌==◌, nat_le, Option, None, Some, refl}
use Rattle.mix_word.specs.Prelude.{operation_code, decode_of, IsNamedBy, WordValue}
use Rattle.mix_word.specs.declared.decoding.Decoded.{Decoded}
use Rattle.mix_word.specs.declared.decoding.Decoded.TheVariants.{Named, Floating, Unknown}
use Rattle.mix_word.specs.declared.register.DataReg.{DataReg}
use Rattle.mix_word.specs.declared.register.DataReg.TheVariants.{A, I1, I2, I3, I4, I5, I6, X}
use Rattle.mix_word.specs.declared.operation.ShiftKind.{ShiftKind}
use Rattle.mix_word.specs.declared.operation.ShiftKind.TheVariants.{Sla, Sra, Slax, Srax, Slc, Src}
use Rattle.mix_word.specs.declared.operation.JumpKind.{JumpKind}
use Rattle.mix_word.specs.declared.operation.Operation.{Operation}
use Rattle.mix_word.specs.declared.operation.Operation.TheVariants.{Nop, Add, Sub, Mul, Div, Num, Char, Hlt, Shift, Move, Load, LoadNegated, Store, StoreJ, StoreZero, Jbus, Ioc, In, Out, Jred, Jump, RegisterJump, Increase, Decrease, Enter, EnterNegated, Compare}
use Rattle.mix_word.specs.declared.operation.JumpKind.TheVariants.{Jmp, Jsj, Jov, Jnov, Less, Equal, Greater, GreaterEqual, NotEqual, LessEqual}
use Rattle.mix_machine.specs.Prelude.{WorldState, instruction, decode_at, arguments_at, jump_writes, effects, sum_into, shift_into, quotient_into, copy_of, operation_or_nop, made_by, transfer_by, Step}

sum-none : (r : DataReg) (w v : WorldState) (s : WordValue × Bool) → made_by w (sum_into r v s) ≡ None
sum-none A w v s = refl
sum-none X w v s = refl
sum-none I1 w v s = refl
sum-none I2 w v s = refl
sum-none I3 w v s = refl
sum-none I4 w v s = refl
sum-none I5 w v s = refl
sum-none I6 w v s = refl

shift-none : (kind : ShiftKind) (w : WorldState) (p : WordValue × WordValue) → made_by w (shift_into kind p) ≡ None
shift-none Sla w p = refl
shift-none Sra w p = refl
shift-none Slax w p = refl
shift-none Srax w p = refl
shift-none Slc w p = refl
shift-none Src w p = refl

jump-none : (kind : JumpKind) (w : WorldState) (j : WordValue) → made_by w (jump_writes kind j) ≡ None
jump-none Jmp w j = refl
jump-none Jsj w j = refl
jump-none Jov w j = refl
jump-none Jnov w j = refl
jump-none Less w j = refl
jump-none Equal w j = refl
jump-none Greater w j = refl
jump-none GreaterEqual w j = refl
jump-none NotEqual w j = refl
jump-none LessEqual w j = refl

quotient-none : (w v : WorldState) (q : Option (WordValue × WordValue)) → made_by w (quotient_into v q) ≡ None
quotient-none w v (Some q) = refl
quotient-none w v None = refl

cond-both : {A B : Type 0} (b : Bool) (f : A → B) (x y : A) (z : B) → f x ≡ z → f y ≡ z → f (cond b x y) ≡ z
cond-both true f x y z l r = l
cond-both false f x y z l r = r

copy-none : (w : WorldState) → made_by w (copy_of w (arguments_at w)) ≡ None
copy-none w = cond-both ((arguments_at w).f == 0) (λ x. made_by w x) _ _ None refl refl

-- whether C is that of IOC, IN or OUT
abbrev moves : ℕ → Bool
moves code = nat_le 35 code && nat_le code 37

operation-none : (op : Operation) (w : WorldState) → moves (operation_code op) ≡ false → made_by w (effects op w (arguments_at w)).writes ≡ None
operation-none Nop w h = refl
operation-none Add w h = refl
operation-none Sub w h = refl
operation-none Mul w h = refl
operation-none Div w h = quotient-none w w _
operation-none Num w h = refl
operation-none Char w h = refl
operation-none Hlt w h = refl
operation-none (Shift kind) w h = shift-none kind w _
operation-none Move w h = copy-none w
operation-none (Load r) w h = refl
operation-none (LoadNegated r) w h = refl
operation-none (Store r) w h = refl
operation-none StoreJ w h = refl
operation-none StoreZero w h = refl
operation-none Jbus w h = refl
operation-none Ioc w h = absurd cc
operation-none In w h = absurd cc
operation-none Out w h = absurd cc
operation-none Jred w h = refl
operation-none (Jump kind) w h = jump-none kind w _
operation-none (RegisterJump r condition) w h = refl
operation-none (Increase r) w h = sum-none r w w _
operation-none (Decrease r) w h = sum-none r w w _
operation-none (Enter r) w h = refl
operation-none (EnterNegated r) w h = refl
operation-none (Compare r) w h = refl

decoded-none : (w : WorldState) (d : Decoded) (c f : ℕ) → ((op : Operation) → d ≡ Named op → IsNamedBy op c f) → moves c ≡ false
    → made_by w (effects (operation_or_nop d) w (arguments_at w)).writes ≡ None
decoded-none w (Named op) c f law h = operation-none op w (rw (law op refl).0 h)
decoded-none w Floating c f law h = refl
decoded-none w Unknown c f law h = refl

-- the instruction has another code
pub no-transfer : (w : WorldState) (code : ℕ) → ((c f : ℕ) (op : Operation) → (decode_of c f ≡ Named op) ↔ IsNamedBy op c f) → code ≡ (instruction w).code
    → moves code ≡ false → transfer_by w Step ≡ None
unfolding transfer_by
no-transfer w code law e h =
    decoded-none w (decode_at w) (instruction w).code (instruction w).f (λ op. (law (instruction w).code (instruction w).f op).0) (rw e at h)
