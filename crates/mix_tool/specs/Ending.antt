-- How the program ends: its status, and what it saves.
use Rattle.std.specs.Prelude.{◌≡◌, ◌⊎◌, ⊤, ℕ, zero, suc, Option, None, Some, List, [], ◌∷◌, ◌++◌, Result, Ok, Err}
use Rattle.mix_run.specs.Bundle.{OriginValue}
use Rattle.mix_run.specs.Output.{Meets, Outcome}
use Rattle.mix_run.specs.Prelude.{PrintOutcome, kept_of, Asks, Files, Saved, WhyUnsaved, noted, refused_by}
use Rattle.mix_run.specs.declared.print.PrintAnswer.{PrintAnswer}
use Rattle.mix_run.specs.declared.print.Printed.{Printed}
use Rattle.mix_run.specs.declared.print.steps.RunEnd.{RunEnd}
use Rattle.mix_run.specs.declared.talk.aside.Talker.{Talker}
use Rattle.mix_run.specs.declared.fault.ToolFault.{ToolFault}
use Rattle.mix_run.specs.Talk.{TalksWith}
use Rattle.mix_run.specs.declared.print.PrintAnswer.TheVariants as answers
use Rattle.mix_run.specs.declared.print.steps.RunEnd.TheVariants as ends
use Rattle.mixal_asm.specs.declared.fault.AsmFault.{AsmFault}
use Rattle.mixal_asm.specs.Program.{ProgramValue}
use Rattle.mix_machine.specs.declared.units.deck_fault.DeckFault.{DeckFault}
use Rattle.mix_machine.specs.units.Units.{UnitsState}
use Rattle.mix_run.specs.declared.replaces.Replaces.{Replaces}
use Rattle.mix_run.specs.declared.replaces.Replaces.TheVariants as replaces
use Rattle.mix_tool.specs.Run.{Prints}

-- the status of a run: 2 where the tool itself failed
abbrev pub status_of_run : Result ℕ ToolFault → ℕ
status_of_run (Ok status) = status
status_of_run (Err fault) = 2

-- what is known at one moment: what the input still has, what the output was told, and why the last text that was not saved was not
pub record Seen : Type 0 where
  pub input : Option (List ℕ)
  pub out : Option (List ℕ)
  pub refusal : Option WhyUnsaved

-- a run with this outcome was made: what it wrote and answered is the outcome, and its status is answered
abbrev pub Runs : Outcome → ℕ → Seen → Seen → Type 0
Runs outcome status before after = (run : Result ℕ ToolFault) × Meets outcome run before.out after.out × (status ≡ status_of_run run)

-- a talk was made, which may source and reload these files, and its status is answered
abbrev pub TalkRuns : Files → OriginValue → Result ProgramValue AsmFault → Result UnitsState DeckFault → Talker → List ℕ → ℕ → Seen → Seen → Type 0
TalkRuns all origin program units talker text status before after =
    (run : Result ℕ ToolFault) × TalksWith all origin program units talker text run after.input before.out after.out × (status ≡ status_of_run run)

-- the status of a run: 0 at a halt, 3 where a step meets a fault or the conflict that ends a strict run, or the steps are used up, 1 where the
-- source is refused, 2 where there is no table of what is asked for
abbrev pub status_of_end : RunEnd → ℕ
status_of_end ends.Halted = 0
status_of_end (ends.Faulted fault) = 3
status_of_end (ends.Conflicting conflict) = 3
status_of_end ends.UsedUp = 3

abbrev pub status_of_answer : PrintAnswer → ℕ
status_of_answer (answers.Ran ran) = status_of_end ran.end
status_of_answer (answers.Refused fault) = 1
status_of_answer (answers.NoTable refusal) = 2

abbrev pub status_of_print : Result PrintAnswer ToolFault → ℕ
status_of_print (Ok answer) = status_of_answer answer
status_of_print (Err fault) = 2

-- what is answered of a run
abbrev pub answer_of : Result Printed ToolFault → Result PrintAnswer ToolFault
answer_of (Ok printed) = Ok printed.answer
answer_of (Err fault) = Err fault

-- what is saved after a run: all that is to be saved, if the run has come to its end
abbrev pub saved_after : {A : Type 0} → List A → Result PrintAnswer ToolFault → List A
saved_after all (Ok (answers.Ran ran)) = all
saved_after all (Ok (answers.Refused fault)) = []
saved_after all (Ok (answers.NoTable refusal)) = []
saved_after all (Err fault) = []

-- the status is that of the run, or 2 if a file that is created for it is not written
abbrev pub EndsWith : List (List ℕ) → ℕ → ℕ → Type 0
EndsWith [] status answered = answered ≡ status
EndsWith (name ∷ names) status answered = (answered ≡ status) ⊎ (answered ≡ 2)

-- what holds by the status of a run: this if the run has come to its end, and else that; 2 leaves open which
abbrev pub ByEnd : ℕ → Type 0 → Type 0 → Type 0
ByEnd zero Ended Other = Ended
ByEnd (suc zero) Ended Other = Other
ByEnd (suc (suc zero)) Ended Other = Other ⊎ Ended
ByEnd (suc (suc (suc status))) Ended Other = Ended

-- the files that a run creates, if it has come to its end
abbrev pub Creates : List (List ℕ) → ℕ → Option (List (List ℕ)) → Option (List (List ℕ)) → Type 0
Creates names status old new = ByEnd status (Asks old new names) (Asks old new [])

-- a text that is saved in a file, if one is named for it, and what that file may hold to be replaced
abbrev pub saved_as : Replaces → Option (List ℕ) → List ℕ → List Saved
saved_as over None text = []
saved_as over (Some name) text = record { name = name; text = text; over = over } ∷ []

-- a deck replaces a deck, and a picture a picture
abbrev pub saved_both : Option (List ℕ) → Option (List ℕ) → List ℕ → List ℕ → List Saved
saved_both keep svg deck map = saved_as replaces.Deck keep deck ++ saved_as replaces.Picture svg map

-- what is saved of what a run leaves, if it has come to its end
abbrev pub saved_by : Option (List ℕ) → Option (List ℕ) → Result Printed ToolFault → List Saved
saved_by keep svg (Ok printed) = saved_after (saved_both keep svg printed.deck.items printed.map.items) (Ok printed.answer)
saved_by keep svg (Err fault) = []

-- what a run saves, if it has come to its end: in one file the deck of what its units hold, and in another one its map
abbrev pub Saves : PrintOutcome → (List ℕ → Type 0) → Option (List ℕ) → Option (List ℕ) → ℕ → Option (List Saved) → Option (List Saved) → Type 0
Saves outcome IsDrawn keep svg status old new =
    ByEnd status ((map : List ℕ) × IsDrawn map × (new ≡ noted old (saved_both keep svg (kept_of outcome) map))) (new ≡ old)

-- without a file there is nothing to refuse
abbrev pub IsRefusable : Option (List ℕ) → Result Unit WhyUnsaved → Type 0
IsRefusable None went = went ≡ Ok tt
IsRefusable (Some name) went = ⊤

-- a text is saved only when the run has come to its end
abbrev pub at_end : Result PrintAnswer ToolFault → Option (List ℕ) → Option (List ℕ)
at_end (Ok (answers.Ran ran)) name = name
at_end (Ok (answers.Refused fault)) name = None
at_end (Ok (answers.NoTable refusal)) name = None
at_end (Err fault) name = None

-- the status of a run, or 2 where a text is not saved
abbrev pub saved_status : ℕ → Result Unit WhyUnsaved → Result Unit WhyUnsaved → ℕ
saved_status status (Ok kept) (Ok drawn) = status
saved_status status (Ok kept) (Err why) = 2
saved_status status (Err why) drawn = 2

-- After a run its deck and its map were saved, each if a file is named for it, or not: so the status says. The map is saved even if the deck is not.
abbrev pub KeepsOrNot : Result PrintAnswer ToolFault → Option (List ℕ) → Option (List ℕ) → ℕ → ℕ → Option WhyUnsaved → Option WhyUnsaved → Type 0
KeepsOrNot run keep svg status answered refusal refusal_after =
    (kept : Result Unit WhyUnsaved) × (drawn : Result Unit WhyUnsaved) × (answered ≡ saved_status status kept drawn)
    × IsRefusable (at_end run keep) kept × IsRefusable (at_end run svg) drawn × (refusal_after ≡ refused_by (refused_by refusal kept) drawn)

-- a run was made: what it printed and answered is the outcome, and then its texts were saved
abbrev pub PrintRuns : PrintOutcome → Option (List ℕ) → Option (List ℕ) → ℕ → Seen → Seen → Type 0
PrintRuns outcome keep svg status before after =
    (run : Result Printed ToolFault) × Prints outcome run before.out after.out
    × KeepsOrNot (answer_of run) keep svg (status_of_print (answer_of run)) status before.refusal after.refusal
