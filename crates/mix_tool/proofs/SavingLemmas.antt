-- What a run saves, by its status.
use Rattle.std.proofs.Common.{◌≡◌, ◌∙◌, ◌⊎◌, ⊎_elim, ℕ, List, [], ◌∷◌, ◌++◌, Option, Some, Result, Ok, Err, ap, inl, inr, sym}
use Rattle.std.specs.Prelude.{IfOk, unwrap_or}
use Rattle.mix_run.specs.Prelude.{Asks, Saved, noted, PrintOutcome, kept_of}
use Rattle.mix_run.specs.declared.fault.ToolFault.{ToolFault}
use Rattle.mix_run.specs.declared.print.PrintAnswer.{PrintAnswer}
use Rattle.mix_run.specs.declared.print.Printed.{Printed}
use Rattle.mix_run.specs.declared.print.steps.RunEnd.{RunEnd}
use Rattle.mix_run.specs.declared.print.PrintAnswer.TheVariants as answers
use Rattle.mix_run.specs.declared.print.steps.RunEnd.TheVariants as ends
use Rattle.mix_plan.specs.declared.plan.Plan.{Plan}
use Rattle.mix_plan.specs.declared.plan.Plan.TheVariants as plan
use Rattle.mix_tool.proofs.CheckLemmas.{asks-nothing}
use Rattle.mix_tool.specs.Plan.{SavesOn}
use Rattle.mix_tool.specs.Run.{Given, Prints}
use Rattle.mix_tool.specs.Ending.{ByEnd, Creates, EndsWith, Saves, answer_of, saved_after, saved_both, saved_by, status_of_end, status_of_print}

-- what holds after a run: this if it came to its end, and else that
abbrev pub AfterEnd : Result PrintAnswer ToolFault → Type 0 → Type 0 → Type 0
AfterEnd (Ok (answers.Ran ran)) Ended Other = Ended
AfterEnd (Ok (answers.Refused fault)) Ended Other = Other
AfterEnd (Ok (answers.NoTable refusal)) Ended Other = Other
AfterEnd (Err fault) Ended Other = Other

either-status : (names : List (List ℕ)) (status answered : ℕ) → EndsWith names status answered → (answered ≡ status) ⊎ (answered ≡ 2)
either-status [] status answered e = inl e
either-status (name ∷ names) status answered e = e

by-end : (names : List (List ℕ)) (run : Result PrintAnswer ToolFault) (status answered : ℕ) (Ended Other : Type 0) → status ≡ status_of_print run
    → EndsWith (saved_after names run) status answered → AfterEnd run Ended Other → ByEnd answered Ended Other
by-end names (Err fault) status answered Ended Other e end h = rw (end ∙ e) (inl h)
by-end names (Ok (answers.Refused fault)) status answered Ended Other e end h = rw (end ∙ e) h
by-end names (Ok (answers.NoTable refusal)) status answered Ended Other e end h = rw (end ∙ e) (inl h)
by-end names (Ok (answers.Ran ran)) status answered Ended Other e end h =
    ⊎_elim (λ same. go ran.end answered (same ∙ e)) (λ two. rw two (inr h)) (either-status names status answered end)
  where
    go : (end : RunEnd) (n : ℕ) → n ≡ status_of_end end → ByEnd n Ended Other
    go ends.Halted n is = rw is h
    go (ends.Faulted fault) n is = rw is h
    go (ends.Conflicting conflict) n is = rw is h
    go ends.UsedUp n is = rw is h

created-after : (names : List (List ℕ)) (run : Result PrintAnswer ToolFault) (old new : Option (List (List ℕ))) → Asks old new (saved_after names run)
    → AfterEnd run (Asks old new names) (Asks old new [])
created-after names (Ok (answers.Ran ran)) old new h = h
created-after names (Ok (answers.Refused fault)) old new h = h
created-after names (Ok (answers.NoTable refusal)) old new h = h
created-after names (Err fault) old new h = h

saves-after : (outcome : PrintOutcome) (IsDrawn : List ℕ → Type 0) (run : Result Printed ToolFault) (keep svg : Option (List ℕ)) (a b : Option (List ℕ))
    (old new : Option (List Saved)) → Prints outcome run a b → IfOk run (λ p. IsDrawn p.map.items) → new ≡ noted old (saved_by keep svg run)
    → AfterEnd (answer_of run) ((m : List ℕ) × IsDrawn m × (new ≡ noted old (saved_both keep svg (kept_of outcome) m))) (new ≡ old)
saves-after outcome IsDrawn (Err fault) keep svg a b old new prints drawn saved = saved
saves-after outcome IsDrawn (Ok printed) keep svg a b old new prints drawn saved = go printed.answer saved
  where
    map : List ℕ
    map = printed.map.items

    go : (answer : PrintAnswer) → new ≡ noted old (saved_after (saved_both keep svg printed.deck.items map) (Ok answer))
        → AfterEnd (Ok answer) ((m : List ℕ) × IsDrawn m × (new ≡ noted old (saved_both keep svg (kept_of outcome) m))) (new ≡ old)
    go (answers.Ran ran) is = (map, drawn, is ∙ ap (λ (d : List ℕ). noted old (saved_both keep svg d map)) (sym (ap kept_of prints.0)))
    go (answers.Refused fault) is = is
    go (answers.NoTable refusal) is = is

-- and it has saved its texts
pub saves-run : (outcome : PrintOutcome) (IsDrawn : List ℕ → Type 0) (names : List (List ℕ)) (run : Result Printed ToolFault) (keep svg : Option (List ℕ))
    (a b : Option (List ℕ)) (status answered : ℕ) (old new : Option (List Saved)) → Prints outcome run a b → IfOk run (λ p. IsDrawn p.map.items)
    → status ≡ status_of_print (answer_of run) → EndsWith (saved_after names (answer_of run)) status answered → new ≡ noted old (saved_by keep svg run)
    → Saves outcome IsDrawn keep svg answered old new
saves-run outcome IsDrawn names run keep svg a b status answered old new prints drawn e end saved =
    by-end names (answer_of run) status answered _ _ e end (saves-after outcome IsDrawn run keep svg a b old new prints drawn saved)

-- and it has created its files
pub creates-run : (names : List (List ℕ)) (run : Result PrintAnswer ToolFault) (status answered : ℕ) (old new : Option (List (List ℕ)))
    → status ≡ status_of_print run → EndsWith (saved_after names run) status answered → Asks old new (saved_after names run) → Creates names answered old new
creates-run names run status answered old new e end created = by-end names run status answered _ _ e end (created-after names run old new created)

-- the files that are asked of a plan
pub some-same : (a b : List (List ℕ)) → Some a ≡ Some b → a ≡ b
some-same a b e = ap (λ (o : Option (List (List ℕ))). unwrap_or o a) e

-- a run that is not made creates nothing and saves nothing
pub creates-none : (names : List (List ℕ)) (status : ℕ) (old new : Option (List (List ℕ))) → status ≡ 2 → new ≡ old → Creates names status old new
creates-none names status old new e same = rw (e, same) (inl (asks-nothing old))

pub saves-none : (p : Plan) (given : Given) (status : ℕ) (old new : Option (List Saved)) → status ≡ 2 → new ≡ old → SavesOn p given status old new
saves-none plan.Bundle given status old new e same = tt
saves-none (plan.List source) given status old new e same = tt
saves-none (plan.Typeset source) given status old new e same = tt
saves-none (plan.Check sources json) given status old new e same = tt
saves-none (plan.Debug session) given status old new e same = tt
saves-none (plan.Run run) given status old new e same = rw e (inl same)
saves-none plan.Dap given status old new e same = tt
saves-none plan.Lsp given status old new e same = tt
