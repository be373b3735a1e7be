-- Lines that are alike, one after the other.
use Rattle.std.proofs.Common.{◌≡◌, ℕ, ◌==◌, Bool, true, false, List, [], ◌∷◌, length, refl, sym, subst, arith, eqb-true}
use Rattle.mix_lines.specs.Lines.{lines}
use Rattle.mixal_layout.specs.Alike.{Alike, AllAlike, IfTrue}

pub alike_same : (line : List ℕ) → Alike line line
alike_same line = record { reads = refl; writes = refl }

pub all_same : (ls : List (List ℕ)) → AllAlike ls ls
all_same [] = tt
all_same (line ∷ ls) = (alike_same line, all_same ls)

pub next_alike : (source text first second old new after behind : List ℕ) → lines first ≡ old ∷ lines after → lines second ≡ new ∷ lines behind
    → (AllAlike (lines first) (lines second) → AllAlike (lines source) (lines text)) → Alike old new
    → AllAlike (lines after) (lines behind) → AllAlike (lines source) (lines text)
next_alike source text first second old new after behind first-is second-is before alike more =
    before (subst (λ ls. AllAlike ls (lines second)) (sym first-is) (subst (λ ls. AllAlike (old ∷ lines after) ls) (sym second-is) (alike, more)))

empty : (text : List ℕ) → (length text == 0) ≡ true → text ≡ []
empty [] is = refl
empty (byte ∷ text) is = absurd (omega (arith, eqb-true _ _ is))

-- where no line is left of the one text, and none of the other
pub last_alike : (source text first second : List ℕ) (b : Bool) → (length first == 0) ≡ true → b ≡ (length second == 0)
    → (AllAlike (lines first) (lines second) → AllAlike (lines source) (lines text)) → IfTrue (AllAlike (lines source) (lines text)) b
last_alike source text first second false one two before = tt
last_alike source text first second true one two before =
    before (subst (λ l. AllAlike (lines l) (lines second)) (sym (empty first one))
    (subst (λ l. AllAlike (lines []) (lines l)) (sym (empty second (sym two))) (all_same (lines []))))
