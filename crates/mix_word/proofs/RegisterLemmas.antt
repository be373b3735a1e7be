-- each register is found by its own name, and what is found has the name
use Rattle.std.proofs.Common.{◌≡◌, ◌↔◌, List, ℕ, Option, Some, refl, subst, ◌∙◌, sym}
use Rattle.std.specs.Str.{bytes_eq}
use Rattle.std.proofs.lemmas.Slice.Eq.{bytes_eq-Decides}
use Rattle.mix_word.proofs.FindLemmas.{find-passes}
use Rattle.mix_word.specs.Prelude.{Reg, all_registers, name_of_register, register_named}
use Rattle.mix_word.specs.declared.register.Reg.TheVariants.{A}

own_name : (r : Reg) → register_named (name_of_register r) ≡ Some r
own_name A = refl
own_name _ = refl

found_name : (name : List ℕ) (r : Reg) → register_named name ≡ Some r → name_of_register r ≡ name
found_name name r e =
    (bytes_eq-Decides (name_of_register r) name).0 (find-passes (λ (x : Reg). bytes_eq (name_of_register x) name) all_registers r e)

pub named_law : (name : List ℕ) (o : Option Reg) → o ≡ register_named name → (r : Reg) → (o ≡ Some r) ↔ (name_of_register r ≡ name)
named_law name o e r =
    (λ q. found_name name r (sym e ∙ q), λ h. e ∙ subst (λ (n : List ℕ). register_named n ≡ Some r) h (own_name r))
