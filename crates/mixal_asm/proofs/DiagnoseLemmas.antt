-- The warnings of a source by its mentions, and the place of a fault among them.
use Rattle.std.proofs.Common.{◌≡◌, ℕ, ◌+◌, ◌==◌, Bool, true, not, if◌then◌else◌, List, [], ◌∷◌, ◌++◌, length, Option, Some, None, refl, sym, ap, ◌∙◌, arith}
use Rattle.std.specs.Prelude.{position}
use Rattle.std.specs.List.{position_or_len}
use Rattle.std.specs.Map.{lookup}
use Rattle.std.specs.Option.{option_or}
use Rattle.std.specs.Str.{bytes_eq}
use Rattle.std.proofs.lemmas.Grind.{common_steps}
use Rattle.std.proofs.lemmas.List.Sums.{prefix_len-le-length}
use Rattle.mix_lines.specs.Lines.{lines, lines-nil}
use Rattle.mixal_text.specs.Slips.{symbol_used}
use Rattle.mixal_asm.specs.declared.diagnostic.Diagnostic.{Diagnostic}
use Rattle.mixal_asm.specs.Diagnose.{is_end, up_to_end, first_line, all_slips, slips_at, undefined_at, line_warnings, warnings_from}
use Rattle.mixal_asm.proofs.IndexLemmas.{lookup-append}
use Rattle.mixal_asm.proofs.SourceLemmas.{nothing_in}

-- ---- where a search finds no diagnostic

pub missed : (p : Diagnostic → Bool) (xs : List Diagnostic) → None ≡ position p xs → length xs ≡ position_or_len p xs
missed p xs none = let most = prefix_len-le-length (λ x. not (p x)) xs in grind (arith, common_steps)

-- ---- the lines up to END

pub no_lines : (text : List ℕ) → true ≡ (length text == 0) → lines text ≡ []
no_lines text empty = ap lines (nothing_in text (sym empty)) ∙ lines-nil

pub no_line : (text : List ℕ) → true ≡ (length text == 0) → up_to_end (lines text) ≡ []
no_line text empty = ap up_to_end (no_lines text empty)

pub last_line : (ls more : List (List ℕ)) (line : List ℕ) → ls ≡ line ∷ more → true ≡ is_end line → up_to_end ls ≡ line ∷ up_to_end (lines [])
last_line ls more line first end =
    ap up_to_end first ∙ ap (λ (b : Bool). line ∷ (if b then [] else up_to_end more)) (sym end)
    ∙ ap (λ (rest : List (List ℕ)). line ∷ up_to_end rest) (sym lines-nil)

-- ---- the first line of each symbol, after one mention more

either : {A : Type 0} (a b c : Option A) → option_or a (option_or b c) ≡ option_or (option_or a b) c
either None b c = refl
either (Some x) b c = refl

pub one_more : (old new at rest : List (List ℕ × ℕ)) (symbol : List ℕ) → lookup (bytes_eq symbol) new ≡ lookup (bytes_eq symbol) (old ++ at)
    → option_or (lookup (bytes_eq symbol) old) (lookup (bytes_eq symbol) (at ++ rest)) ≡ option_or (lookup (bytes_eq symbol) new) (lookup (bytes_eq symbol) rest)
one_more old new at rest symbol noted =
    ap (option_or (lookup (bytes_eq symbol) old)) (lookup-append (bytes_eq symbol) at rest)
    ∙ either (lookup (bytes_eq symbol) old) (lookup (bytes_eq symbol) at) (lookup (bytes_eq symbol) rest)
    ∙ ap (λ (o : Option ℕ). option_or o (lookup (bytes_eq symbol) rest)) (sym (noted ∙ lookup-append (bytes_eq symbol) old at))

-- ---- what mentions with the same first lines warn of

same_undefined : (u v d e : List (List ℕ × ℕ)) → ((symbol : List ℕ) → first_line u symbol ≡ first_line v symbol)
    → ((symbol : List ℕ) → first_line d symbol ≡ first_line e symbol) → (n : ℕ) (text : List ℕ) (used : Option (List ℕ))
    → undefined_at u d n text used ≡ undefined_at v e n text used
same_undefined u v d e uses definitions n text None = refl
same_undefined u v d e uses definitions n text (Some symbol) = rw (uses symbol, definitions symbol) refl

same_line : (u v d e : List (List ℕ × ℕ)) → ((symbol : List ℕ) → first_line u symbol ≡ first_line v symbol)
    → ((symbol : List ℕ) → first_line d symbol ≡ first_line e symbol) → (n : ℕ) (text : List ℕ)
    → line_warnings u d n text ≡ line_warnings v e n text
unfolding line_warnings
same_line u v d e uses definitions n text =
    ap (λ (first : List Diagnostic). first ++ slips_at n text all_slips) (same_undefined u v d e uses definitions n text (symbol_used text))

pub same_warnings : (u v d e : List (List ℕ × ℕ)) → ((symbol : List ℕ) → first_line u symbol ≡ first_line v symbol)
    → ((symbol : List ℕ) → first_line d symbol ≡ first_line e symbol) → (n : ℕ) (texts : List (List ℕ))
    → warnings_from u d n texts ≡ warnings_from v e n texts
same_warnings u v d e uses definitions n [] = refl
same_warnings u v d e uses definitions n (text ∷ more) =
    ap (λ (x : List Diagnostic). x ++ warnings_from u d (n + 1) more) (same_line u v d e uses definitions n text)
    ∙ ap (λ (x : List Diagnostic). line_warnings v e n text ++ x) (same_warnings u v d e uses definitions (n + 1) more)
