-- A source that ends with no END.
use Rattle.std.proofs.Common.{◌≡◌, ℕ, ◌==◌, true, List, [], ◌∷◌, length, refl, ap, ◌∙◌, arith}
use Rattle.std.proofs.lemmas.Bool.{eqb-true}
use Rattle.mix_lines.specs.Lines.{lines, lines-nil}
use Rattle.mixal_asm.specs.declared.fault.AsmKind.TheVariants.{NoEnd}
use Rattle.mixal_asm.specs.Prelude.{AsmFault, Before, number_after, program_with}
use Rattle.mixal_asm.specs.Assembly.{program_from, fault_at}

pub nothing_in : (text : List ℕ) → (length text == 0) ≡ true → text ≡ []
nothing_in [] empty = refl
nothing_in (byte ∷ text) empty = absurd (omega (arith, eqb-true _ _ empty))

pub no_end : (source rest : List ℕ) (first b : Before) → program_from first (lines source) ≡ program_from b (lines rest)
    → (length rest == 0) ≡ true → program_from first (lines source) ≡ fault_at (number_after b) [] NoEnd
no_end source rest first b leads empty =
    leads ∙ ap (λ (text : List ℕ). program_from b (lines text)) (nothing_in rest empty) ∙ ap (λ (ls : List (List ℕ)). program_from b ls) lines-nil

-- the same where some lines are mended
pub no_end_with : (told : List AsmFault) (source rest : List ℕ) (first b : Before) → program_with told first (lines source) ≡ program_with told b (lines rest)
    → (length rest == 0) ≡ true → program_with told first (lines source) ≡ fault_at (number_after b) [] NoEnd
no_end_with told source rest first b leads empty =
    leads ∙ ap (λ (text : List ℕ). program_with told b (lines text)) (nothing_in rest empty) ∙ ap (λ (ls : List (List ℕ)). program_with told b ls) lines-nil
