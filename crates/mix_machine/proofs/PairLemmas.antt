-- what the number of a pair says of its code
use Rattle.std.proofs.Common.{◌≡◌, ◌↔◌, ℕ, ◌<◌, false, refl, arith}
use Rattle.mix_word.specs.Prelude.{operation_code, decode_of, IsNamedBy, number_of_operation, number_of_pair}
use Rattle.mix_word.specs.declared.register.DataReg.TheVariants.{A}
use Rattle.mix_word.specs.declared.operation.Operation.{Operation}
use Rattle.mix_word.specs.declared.operation.Operation.TheVariants.{Num, Char, Hlt, Load, LoadNegated, Store, Ioc, In, Out, RegisterJump, Increase, Decrease, Enter, EnterNegated, Compare}
use Rattle.mix_word.specs.declared.decoding.Decoded.{Decoded}
use Rattle.mix_word.specs.declared.decoding.Decoded.TheVariants.{Named, Floating, Unknown}
use Rattle.mix_machine.specs.Do.{is_looked_at}

code_not_looked_at : (op : Operation) → number_of_operation op < 40 → is_looked_at (operation_code op) ≡ false
code_not_looked_at (Load A) h = refl
code_not_looked_at (Load _) h = refl
code_not_looked_at (LoadNegated A) h = refl
code_not_looked_at (LoadNegated _) h = refl
code_not_looked_at (Store A) h = refl
code_not_looked_at (Store _) h = refl
code_not_looked_at (RegisterJump A t) h = refl
code_not_looked_at (RegisterJump _ t) h = refl
code_not_looked_at (Increase A) h = refl
code_not_looked_at (Increase _) h = refl
code_not_looked_at (Decrease A) h = refl
code_not_looked_at (Decrease _) h = refl
code_not_looked_at (Enter A) h = refl
code_not_looked_at (Enter _) h = refl
code_not_looked_at (EnterNegated A) h = refl
code_not_looked_at (EnterNegated _) h = refl
code_not_looked_at (Compare A) h = refl
code_not_looked_at (Compare _) h = refl
code_not_looked_at Num h = absurd (omega (arith, h))
code_not_looked_at Char h = absurd (omega (arith, h))
code_not_looked_at Hlt h = absurd (omega (arith, h))
code_not_looked_at Ioc h = absurd (omega (arith, h))
code_not_looked_at In h = absurd (omega (arith, h))
code_not_looked_at Out h = absurd (omega (arith, h))
code_not_looked_at _ h = refl

decoded_not_looked_at : (d : Decoded) (c f : ℕ) → ((op : Operation) → d ≡ Named op → IsNamedBy op c f) → number_of_pair d < 40 → is_looked_at c ≡ false
decoded_not_looked_at (Named op) c f law h = rw (law op refl).0 at (code_not_looked_at op h)
decoded_not_looked_at Floating c f law h = absurd (omega (arith, h))
decoded_not_looked_at Unknown c f law h = absurd (omega (arith, h))

-- a number below 40 is of no operation that a run looks at before its step
pub not_looked_at : ((c f : ℕ) (op : Operation) → (decode_of c f ≡ Named op) ↔ IsNamedBy op c f) → (c f : ℕ) → number_of_pair (decode_of c f) < 40 → is_looked_at c ≡ false
not_looked_at law c f h = decoded_not_looked_at (decode_of c f) c f (λ op. (law c f op).0) h
