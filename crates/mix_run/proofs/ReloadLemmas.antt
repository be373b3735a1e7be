-- What is read of a file that is reloaded gives what the file gives.
use Rattle.std.proofs.Common.{◌≡◌, ◌∙◌, ℕ, List, take, Result, Ok, Err, refl, sym, ap, subst}
use Rattle.std.specs.Prelude.{OnOk}
use Rattle.mix_refused.specs.declared.refused.Refused.{Refused}
use Rattle.mix_refused.specs.declared.refused.Refused.TheVariants as refused
use Rattle.mixal_asm.specs.Prelude.{assembly, ProgramValue}
use Rattle.mixal_asm.specs.declared.fault.AsmFault.{AsmFault}
use Rattle.mix_run.specs.Prelude.{GivesText, parts_of, Reason, Moment}
use Rattle.mix_run.specs.Reload.{reloaded, reloaded_as}
use Rattle.mix_run.specs.declared.opener.Unread.{Unread}
use Rattle.mix_run.proofs.DebugLemmas.{parts-made, parts-whole}

-- a source that is not refused is all of that of the text
as-whole : (text read source : List ℕ) (m : Moment) (program : Result ProgramValue AsmFault) → read ≡ take 41943041 text → source ≡ (parts_of read).source
    → assembly source ≡ program → reloaded_as source program m ≡ reloaded_as (parts_of text).source program m
as-whole text read source m (Ok program) is s made = ap (λ t. reloaded_as t (Ok program) m) (parts-whole text read source program is s made)
as-whole text read source m (Err fault) is s made = refl

read-whole : (text read source : List ℕ) (m : Moment) → read ≡ take 41943041 text → source ≡ (parts_of read).source
    → reloaded_as source (assembly source) m ≡ reloaded (Ok text) m
read-whole text read source m is s =
    as-whole text read source m (assembly source) is s refl
    ∙ ap (λ p. reloaded_as (parts_of text).source p m) (sym (parts-made text read source (assembly source) is s refl))

module _ {V : Type 0} (bytes : V → List ℕ) (n : ℕ) where
  pub reloaded-read : {A E : Type 0} (held : Result (List ℕ) Reason) (v : V) (source : List ℕ) (m now : Moment) (result : Result A E) → n ≡ 41943041
      → GivesText bytes held n (Ok v) → source ≡ (parts_of (bytes v)).source
      → OnOk result (now ≡ reloaded_as source (assembly source) m) → OnOk result (now ≡ reloaded held m)
  reloaded-read (Ok text) v source m now result most given s done =
      subst (λ to. OnOk result (now ≡ to)) (read-whole text (bytes v) source m (given ∙ ap (λ k. take k text) most) s) done
  reloaded-read (Err reason) v source m now result most given s done = absurd given

  unread-same : (held : Result (List ℕ) Reason) (why : Unread) (m : Moment) → GivesText bytes held n (Err (refused.Fault why)) → m ≡ reloaded held m
  unread-same (Ok text) why m given = absurd given
  unread-same (Err reason) why m given = refl

  pub reloaded-unread : (held : Result (List ℕ) Reason) (result : Result V (Refused Unread)) (why : Unread) (m : Moment)
      → result ≡ Err (refused.Fault why) → GivesText bytes held n result → m ≡ reloaded held m
  reloaded-unread held result why m is given = unread-same held why m (subst (GivesText bytes held n) is given)

-- what holds anyway holds where all went well
pub on-ok : {A E P : Type 0} (result : Result A E) → P → OnOk result P
on-ok (Ok done) p = p
on-ok (Err fault) p = tt
