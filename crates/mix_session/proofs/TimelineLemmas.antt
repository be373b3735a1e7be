-- Facts of the timeline, over plain variables: one change more done, taken back, or done again.
use Rattle.std.proofs.Common.{◌≡◌, ℕ, ◌+◌, ◌-◌, ◌<◌, ◌≤◌, true, List, [], ◌∷◌, ◌++◌, length, take, drop, None, Some, refl, ap, sym, ◌∙◌, arith, append_assoc, IsSome, unwrap_or}
use Rattle.std.proofs.lemmas.List.{append-nil, take-take, take-append-drop, drop-drop, drop-append-le, length-take-le, length-drop}
use Rattle.std.proofs.Math.Seq.{take-add, take-length, drop-length, drop-append_seam, take-append_seam}
use Rattle.undo_core.specs.Prelude.{HoldsOfState, replay}
use Rattle.mix_machine.specs.Prelude.{WorldState, does}
use Rattle.mix_machine.specs.declared.old.Change.{Change}
use Rattle.mix_machine.specs.declared.old.Change.TheVariants.{Step}
use Rattle.mix_session.specs.Timeline.{Timeline, world_of, back_by, forth_by, begins_with_step}

-- a timeline by its parts
pub timeline-is : (t : Timeline) (first : WorldState) (changes ahead : List Change) → t.first ≡ first → t.changes ≡ changes → t.ahead ≡ ahead →
    t ≡ record { first = first; changes = changes; ahead = ahead }
timeline-is t first changes ahead e f g = rw (← e, ← f, ← g) refl

-- the world that a journal's state is
pub world_of-is : (t now : Timeline) (world : WorldState) → now ≡ t → replay does now.first now.changes ≡ Some world → world_of t ≡ world
unfolding world_of
world_of-is t now world e stands = rw (← e, stands) refl

-- what holds of the state that a journal stands in holds of the machine after its changes
pub holds_now : {P : WorldState → Type 0} (t : Timeline) → IsSome (replay does t.first t.changes) → HoldsOfState does t P → P (world_of t)
unfolding world_of
holds_now {P} t stands holds =
    elim (replay does t.first t.changes) as (λ o. replay does t.first t.changes ≡ o → IsSome o → P (unwrap_or o t.first)) [
      | None ↦ λ e some. absurd (cc)
      | Some world ↦ λ e some. holds world e
    ] refl stands

-- what is taken back stands ahead of what stood there
ahead_of : (cs xs front ahead : List Change) (m : ℕ) → m ≤ length cs → front ≡ take m cs → front ++ ahead ≡ cs ++ xs → ahead ≡ drop m cs ++ xs
ahead_of cs xs front ahead m within e all =
    let len : length front ≡ m = ap length e ∙ length-take-le m cs within in
    let at : drop (length front) (front ++ ahead) ≡ ahead = drop-append_seam front ahead in
    sym at ∙ ap (drop (length front)) all ∙ ap (λ n. drop n (cs ++ xs)) len ∙ drop-append-le m cs xs within

-- none is taken back
pub back_by-none : (t : Timeline) → t ≡ back_by t 0
back_by-none t =
    let all : length t.changes - 0 ≡ length t.changes = omega arith in
    timeline-is t t.first (take (length t.changes - 0) t.changes) (drop (length t.changes - 0) t.changes ++ t.ahead) refl
    (rw (all, take-length) refl) (rw (all, drop-length) refl)

-- so many changes more are taken back
pub back_by-next : (t now next : Timeline) (k more : ℕ) → k + more ≤ length t.changes → now ≡ back_by t k → next.first ≡ now.first →
    next.changes ≡ take (length now.changes - more) now.changes → next.changes ++ next.ahead ≡ now.changes ++ now.ahead → next ≡ back_by t (k + more)
back_by-next t now next k more within same first changes all =
    let n = length t.changes in
    let m = n - k in
    let j = n - (k + more) in
    let here : now.changes ≡ take m t.changes = ap (λ (h : Timeline). h.changes) same in
    let rest : now.ahead ≡ drop m t.changes ++ t.ahead = ap (λ (h : Timeline). h.ahead) same in
    let start : now.first ≡ t.first = ap (λ (h : Timeline). h.first) same in
    let long : length now.changes ≡ m = ap length here ∙ length-take-le m t.changes (omega arith) in
    let fewer : length now.changes - more ≡ j = omega (arith, long) in
    let left : next.changes ≡ take j t.changes =
    changes ∙ ap (λ i. take i now.changes) fewer ∙ ap (take j) here ∙ take-take j m t.changes (omega arith) in
    let whole : next.changes ++ next.ahead ≡ t.changes ++ t.ahead =
    all ∙ rw (here, rest, ← append_assoc, take-append-drop) refl in
    timeline-is next t.first (take j t.changes) (drop j t.changes ++ t.ahead) (first ∙ start) left
    (ahead_of t.changes t.ahead next.changes next.ahead j (omega arith) left whole)

-- none is done again
pub forth_by-none : (t : Timeline) → t ≡ forth_by t 0
forth_by-none t = timeline-is t t.first (t.changes ++ take 0 t.ahead) (drop 0 t.ahead) refl (sym (append-nil t.changes)) refl

-- one change more is done again
pub forth_by-next : (t now next : Timeline) (k : ℕ) → now ≡ forth_by t k → next.first ≡ now.first → next.changes ≡ now.changes ++ take 1 now.ahead →
    next.ahead ≡ drop 1 now.ahead → next ≡ forth_by t (k + 1)
forth_by-next t now next k same first changes ahead =
    let here : now.changes ≡ t.changes ++ take k t.ahead = ap (λ (h : Timeline). h.changes) same in
    let rest : now.ahead ≡ drop k t.ahead = ap (λ (h : Timeline). h.ahead) same in
    let start : now.first ≡ t.first = ap (λ (h : Timeline). h.first) same in
    let done : next.changes ≡ t.changes ++ take (k + 1) t.ahead =
    changes ∙ rw (here, rest, take-add) (append_assoc t.changes (take k t.ahead) (take 1 (drop k t.ahead))) in
    timeline-is next t.first (t.changes ++ take (k + 1) t.ahead) (drop (k + 1) t.ahead) (first ∙ start) done
    (ahead ∙ ap (drop 1) rest ∙ drop-drop 1 k t.ahead)

-- nothing is lost of what is taken back
pub back_by-all : (t : Timeline) (n : ℕ) → (back_by t n).changes ++ (back_by t n).ahead ≡ t.changes ++ t.ahead
back_by-all t n = rw (← append_assoc, take-append-drop) refl

-- what is taken back and done again is as it was
pub forth-back : (t : Timeline) (n : ℕ) → n ≤ length t.changes → forth_by (back_by t n) n ≡ t
forth-back t n within =
    let m = length t.changes - n in
    let back = drop m t.changes in
    let len : n ≡ length back = omega (arith, length-drop m t.changes) in
    let done : take m t.changes ++ take n (back ++ t.ahead) ≡ t.changes =
    ap (λ k. take m t.changes ++ take k (back ++ t.ahead)) len ∙ rw take-append_seam (take-append-drop m t.changes) in
    let ahead : drop n (back ++ t.ahead) ≡ t.ahead = ap (λ k. drop k (back ++ t.ahead)) len ∙ drop-append_seam back t.ahead in
    sym (timeline-is t t.first (take m t.changes ++ take n (back ++ t.ahead)) (drop n (back ++ t.ahead)) refl (sym done) (sym ahead))

-- a step stands ahead
pub first-step : (ahead : List Change) → begins_with_step ahead ≡ true → take 1 ahead ≡ Step ∷ []
first-step [] begins = absurd (cc)
first-step (Step ∷ rest) begins = refl
first-step (other ∷ rest) begins = absurd (cc)
