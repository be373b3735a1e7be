-- Rows are those of the cells that there are, whatever counts the others.
use Rattle.std.proofs.Common.{◌≡◌, ◌<◌, ◌≤◌, ◌∙◌, ℕ, zero, suc, List, ◌++◌, refl, ap, arith}
use Rattle.mix_formula.specs.Rows.{RowValue}
use Rattle.mix_session.specs.Prelude.{tally_at, SessionState, tally_in}
use Rattle.mix_session.specs.declared.tally.Tally.{Tally}
use Rattle.mixal_asm.specs.Prelude.{ProgramValue, source_at}
use Rattle.mix_views.specs.Analysis.{row_at, rows_below, rows_in}

pub same-rows : (program : ProgramValue) (a b : ℕ → Tally) (n : ℕ) → n ≤ 4000 → ((p : ℕ) → p < 4000 → a p ≡ b p) → rows_below program a n ≡ rows_below program b n
unfolding rows_below
same-rows program a b zero within same = refl
same-rows program a b (suc n) within same =
    ap (λ rows. rows ++ row_at (a n) (source_at program n)) (same-rows program a b n (omega (arith, within)) same)
    ∙ ap (λ tally. rows_below program b n ++ row_at tally (source_at program n)) (same n (omega (arith, within)))

-- the rows of the session's program by its tallies, as they were found
pub rows-counted : (s : SessionState) (cells slice : List Tally) (program : ProgramValue) (rows : List RowValue) → ((p : ℕ) → p < 4000 → tally_in cells p ≡ tally_at s.timeline p)
    → slice ≡ cells → program ≡ s.program → rows ≡ rows_below program (tally_in slice) 4000 → rows ≡ rows_in s
unfolding rows_in
rows-counted s cells slice program rows counted same of found =
    found ∙ ap (λ p. rows_below p (tally_in slice) 4000) of ∙ ap (λ ts. rows_below s.program (tally_in ts) 4000) same
    ∙ same-rows s.program (tally_in cells) (tally_at s.timeline) 4000 (omega arith) counted
