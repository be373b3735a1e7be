-- Facts of cells that are set, and of the words that they get, over plain variables.
use Rattle.std.proofs.Common.{◌≡◌, ℕ, zero, suc, ◌+◌, ◌<◌, ◌≤◌, List, [], ◌∷◌, ◌++◌, get_or, length, take, Result, Ok, Err, refl, ap, sym, arith, ◌∙◌}
use Rattle.std.proofs.lemmas.List.{take_all}
use Rattle.std.proofs.Math.Seq.{take-nil, take-suc}
use Rattle.mix_word.specs.Word.{WordValue}
use Rattle.mix_machine.specs.Do.{does, plan_of}
use Rattle.mix_machine.specs.declared.old.Change.TheVariants as change
use Rattle.mix_session.specs.Timeline.{Timeline, with_change}
use Rattle.mix_session.specs.Command.{after, effect_of, effect_of_change, change_stage, Begun}
use Rattle.mix_session.specs.declared.answer.Answer.TheVariants as answers
use Rattle.mix_session.specs.declared.request.Request.TheVariants as ask
use Rattle.dap_points.specs.Written.{with_cells, SetsSome, Written, WrittenSome}
use Rattle.dap_asked.specs.declared.fault.Fault.{Fault}

-- a cell is always set
pub effect_of_cell : (t : Timeline) (cell : ℕ) (word : WordValue) →
    effect_of t (ask.Change (change.SetCell cell word)) ≡ record { stage = change_stage t (change.SetCell cell word); last = 1; answer = answers.Done }
unfolding effect_of effect_of_change does plan_of
effect_of_cell t cell word = refl

-- after cells some more are set
with_cells-more : (t : Timeline) (cells more : List (ℕ × WordValue)) → with_cells t (cells ++ more) ≡ with_cells (with_cells t cells) more
with_cells-more t [] more = refl
with_cells-more t (one ∷ rest) more = with_cells-more (with_change t (change.SetCell one.0 one.1)) rest more

-- the cell is set, or, for want of memory, it may not be
pub sets-done : (t new : Timeline) (cell : ℕ × WordValue) → new ≡ after (effect_of t (ask.Change (change.SetCell cell.0 cell.1))) → new ≡ with_cells t (cell ∷ [])
sets-done t new cell is = is ∙ ap after (effect_of_cell t cell.0 cell.1)

sets-stage : (t new : Timeline) (cell : ℕ × WordValue) (k : ℕ) → k ≤ 1 → new ≡ change_stage t (change.SetCell cell.0 cell.1) k → SetsSome t (cell ∷ []) new
sets-stage t new cell zero within is = (0, is)
sets-stage t new cell (suc k) within is = (1, is)

pub sets-begun : (t new : Timeline) (cell : ℕ × WordValue) → Begun (effect_of t (ask.Change (change.SetCell cell.0 cell.1))) new → SetsSome t (cell ∷ []) new
sets-begun t new cell begun = let stood = rw (effect_of_cell t cell.0 cell.1) at begun in sets-stage t new cell stood.0 stood.1 stood.2

-- all are the first so many
pub sets-all : (t new : Timeline) (cells : List (ℕ × WordValue)) → new ≡ with_cells t cells → SetsSome t cells new
sets-all t new cells is = (length cells, is ∙ ap (with_cells t) (sym (take_all (length cells) cells (omega arith))))

one-more : (cells : List (ℕ × WordValue)) (i : ℕ) (cell : ℕ × WordValue) → i < length cells → cell ≡ get_or cells i cell → take (i + 1) cells ≡ take i cells ++ cell ∷ []
one-more cells i cell within is =
    let next : i + 1 ≡ suc i = omega arith in rw next (take-suc cells i cell within ∙ ap (λ (x : ℕ × WordValue). take i cells ++ x ∷ []) (sym is))

-- one more of the cells is set after those before it
pub sets-next : (t now new : Timeline) (cells : List (ℕ × WordValue)) (i : ℕ) (cell : ℕ × WordValue) → i < length cells → cell ≡ get_or cells i cell
    → now ≡ with_cells t (take i cells) → new ≡ with_cells now (cell ∷ []) → new ≡ with_cells t (take (i + 1) cells)
sets-next t now new cells i cell within is before after =
    after ∙ ap (λ (u : Timeline). with_cells u (cell ∷ [])) before ∙ sym (with_cells-more t (take i cells) (cell ∷ [])) ∙ ap (with_cells t) (sym (one-more cells i cell within is))

-- for want of memory, it may not be
sets-some-by : (t now new : Timeline) (cells : List (ℕ × WordValue)) (i : ℕ) (cell : ℕ × WordValue) (k : ℕ) → i < length cells → cell ≡ get_or cells i cell
    → now ≡ with_cells t (take i cells) → new ≡ with_cells now (take k (cell ∷ [])) → SetsSome t cells new
sets-some-by t now new cells i cell zero within is before after = (i, after ∙ before)
sets-some-by t now new cells i cell (suc k) within is before after =
    (i + 1, sets-next t now new cells i cell within is before (after ∙ ap (λ (xs : List (ℕ × WordValue)). with_cells now (cell ∷ xs)) (take-nil k)))

pub sets-some : (t now new : Timeline) (cells : List (ℕ × WordValue)) (i : ℕ) (cell : ℕ × WordValue) → i < length cells → cell ≡ get_or cells i cell
    → now ≡ with_cells t (take i cells) → SetsSome now (cell ∷ []) new → SetsSome t cells new
sets-some t now new cells i cell within is before some = sets-some-by t now new cells i cell some.0 within is before some.1

-- nothing is written, or all is, and then memory is refused
pub none_written : (asked : Result (List (ℕ × WordValue) × ℕ) Fault) (t : Timeline) → WrittenSome asked t t
none_written (Ok asked) t = (0, refl)
none_written (Err wrong) t = refl

pub some_written : (asked : Result (List (ℕ × WordValue) × ℕ) Fault) (t new : Timeline) → Written asked t new → WrittenSome asked t new
some_written (Ok asked) t new written = sets-all t new asked.0 written
some_written (Err wrong) t new written = absurd written
