-- A dialogue that goes on over messages is what an engine is asked.
use Rattle.std.proofs.Common.{◌≡◌, inl, ℕ, Bool, true, false, Some, Result, Ok, List, [], ◌∷◌, length, refl, subst, arith}
use Rattle.std.specs.Prelude.{◌==◌}
use Rattle.std.proofs.lemmas.Bool.{eqb-true}
use Rattle.rpc_stream.specs.declared.broken.Broken.{Broken}
use Rattle.rpc_stream.proofs.Talking.{talks-none}
use Rattle.rpc_stream.specs.Prelude.{Steps, going}
use Rattle.mix_dap.specs.Dialogue.{GoesBy, GoesOnAs, Reached, StageServes, is_over}
use Rattle.page.specs.Engine.{Asks, EngineValue}

pub asks-as : (from : EngineValue) (result : Result Unit Broken) (reached to : Reached) (messages input left waits sent : List ℕ)
    → GoesOnAs reached result to (Some input) (Some left) (Some waits) (Some sent) → reached ≡ from.reached → input ≡ messages → waits ≡ from.unread
    → Asks from messages result (record { reached = to; unread = sent })
asks-as from result reached to messages input left waits sent goes at same unread = (
  left,
  subst (λ s. GoesOnAs s result to (Some messages) (Some left) (Some from.unread) (Some sent)) at
      (subst (λ w. GoesOnAs reached result to (Some messages) (Some left) (Some w) (Some sent)) unread
      (subst (λ i. GoesOnAs reached result to (Some i) (Some left) (Some waits) (Some sent)) same goes)),
)

-- over no messages it goes nowhere
goes-nowhere : (over : Bool) (from : Reached) (told : List ℕ) → GoesBy over from (Ok tt) from (Some []) (Some []) (Some told) (Some told)
goes-nowhere true from told = (refl, refl, refl, refl)
goes-nowhere false from told = (
  [],
  from,
  refl,
  λ read. absurd cc,
  record {
    phase = going from;
    count = 0;
    rest = Some [];
    talks = talks-none (Steps StageServes) (going from) (Some []) (Some told);
    state = refl;
    end = inl (refl, refl);
  },
)

pub asks-none : (s : EngineValue) (messages : List ℕ) → (length messages == 0) ≡ true → Asks s messages (Ok tt) s
asks-none s [] none = ([], goes-nowhere (is_over s.reached.0) s.reached s.unread)
asks-none s (byte ∷ more) none =
    let empty : length (byte ∷ more) ≡ 0 = eqb-true (length (byte ∷ more)) 0 none in
    absurd (omega (arith, empty))
