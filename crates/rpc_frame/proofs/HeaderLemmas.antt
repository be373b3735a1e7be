-- What a header without a colon, and what stands after a header, come to.
use Rattle.std.proofs.Common.{◌≡◌, ℕ, ◌+◌, ◌-◌, ◌<◌, ◌≤◌, min, Bool, true, false, cond, not, Option, None, Some, List, length, take, drop, refl, ap, ◌∙◌, arith}
use Rattle.std.specs.Prelude.{position}
use Rattle.std.specs.List.{position_or_len}
use Rattle.std.proofs.lemmas.Bool.{lt-ltb, le-ltb}
use Rattle.std.proofs.lemmas.Grind.{common_steps}
use Rattle.std.proofs.lemmas.List.{take_rest, take_min, drop_all}
use Rattle.std.proofs.lemmas.List.Sums.{prefix_len-le-length}
use Rattle.mix_lines.specs.Lines.{whole_lines, words-nil}
use Rattle.rpc_frame.specs.Frame.{First, too_long, partial, is_colon, length_in, header_in, body_in, after_header, max_header, first_frame}

missed : (line : List ℕ) → None ≡ position is_colon line → position_or_len is_colon line ≡ length line
missed line none = let most = prefix_len-le-length (λ x. not (is_colon x)) line in grind (arith, common_steps)

neither : (b : Bool) → let nothing : Option ℕ = None in nothing ≡ cond b nothing nothing
neither true = refl
neither false = refl

-- a line without a colon gives no length
pub no_colon : (line : List ℕ) → None ≡ position is_colon line → None ≡ length_in line
no_colon line none = rw (missed line none, drop_all (length line + 1) line (omega arith), words-nil) (neither _)

-- the header is looked for in the bytes that it may have
pub header_at : (text : List ℕ) (most : ℕ) (header : Option (Option ℕ × ℕ)) → most ≡ min max_header (length text)
    → header ≡ header_in None 0 (whole_lines (take most text)) → after_header header text ≡ first_frame text
unfolding first_frame
header_at text most header e h =
    let same : take most text ≡ take max_header text = ap (λ n. take n text) e ∙ take_min max_header text in
    ap (λ o. after_header o text) (h ∙ ap (λ t. header_in None 0 (whole_lines t)) same)

pub found_at : (text : List ℕ) (given : Option ℕ) (end : ℕ) (first : First) → first ≡ body_in given (take (length text - end) (drop end text))
    → first ≡ after_header (Some (given, end)) text
found_at text given end first e = e ∙ ap (body_in given) (take_rest text end)

pub partial_at : (text : List ℕ) → length text < max_header → partial ≡ after_header None text
partial_at text short = rw (lt-ltb (length text) max_header short) refl

pub too_long_at : (text : List ℕ) → max_header ≤ length text → too_long ≡ after_header None text
too_long_at text long = rw (le-ltb (length text) max_header long) refl
