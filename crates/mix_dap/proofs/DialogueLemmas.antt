-- A talk over what a dialogue holds is the dialogue.
use Rattle.std.proofs.Common.{◌≡◌, ℕ, true, false, Option, None, Some, Result, Ok, Err, List, [], refl, ap, subst}
use Rattle.std.specs.Io.KnownBytes.{prepend_known}
use Rattle.rpc_frame.specs.Frame.{first_frame, partial}
use Rattle.rpc_stream.specs.Prelude.{TalkedAs}
use Rattle.rpc_stream.specs.declared.broken.Broken.{Broken}
use Rattle.rpc_stream.specs.declared.broken.Broken.TheVariants as broken
use Rattle.mix_dap.specs.Dialogue.{DialogueAs, EndsAs, GoesOnAs, Reached, StageServes, at_first, is_over}
use Rattle.mix_stream.specs.Stream.{CountsFailure}

-- nothing was read yet
unread : (bytes : List ℕ) (old : Option (List ℕ)) → bytes ≡ [] → prepend_known bytes old ≡ old
unread bytes None none = refl
unread bytes (Some text) none = rw none refl

pub goes-talked : (result : Result Unit Broken) (s from end to : Reached) (bytes kept : List ℕ) (old new told now : Option (List ℕ))
    → TalkedAs StageServes result s end (prepend_known bytes old) (prepend_known kept new) told now → s ≡ from → is_over from.0 ≡ false → bytes ≡ []
    → EndsAs result end to → (result ≡ Err broken.Read → first_frame kept ≡ partial) → GoesOnAs from result to old new told now
goes-talked result s from end to bytes kept old new told now is there on none ends whole = rw on (
  kept,
  end,
  ends,
  whole,
  subst (λ f. TalkedAs StageServes result f end old (prepend_known kept new) told now) there
      (subst (λ o. TalkedAs StageServes result s end o (prepend_known kept new) told now) (unread bytes old none) is),
)

-- after its end nothing is heard
pub goes-over : (s : Reached) (left told : Option (List ℕ)) → is_over s.0 ≡ true → GoesOnAs s (Ok tt) s left left told told
goes-over s left told is = rw is (refl, refl, refl, refl)

-- a whole dialogue
pub dialogue-as : (result : Result Unit Broken) (from to : Reached) (old new told now : Option (List ℕ)) → GoesOnAs from result to old new told now
    → from ≡ at_first → DialogueAs result old new told now
dialogue-as result from to old new told now goes is = (to, subst (λ f. GoesOnAs f result to old new told now) is goes)

pub counts-why : (why which : Broken) (old new : ℕ) → CountsFailure (◌≡◌ {A = Result Unit Broken} (Err why) (Err which)) old new → CountsFailure (why ≡ which) old new
counts-why why which old new is =
    ((λ same. is.0.0 (ap Err same), λ more. (let e = is.0.1 more in cc)), λ other. is.1 (λ e. other cc))
