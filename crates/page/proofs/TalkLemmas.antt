-- What a talk comes to by its status, and what two texts leave of a room that they are put into.
use Rattle.std.proofs.Common.{◌≡◌, ◌≢◌, inl, inr, ℕ, ◌+◌, Bool, true, false, Some, Ok, Err, List, [], ◌++◌, length, take, drop, refl, ap, ◌∙◌}
use Rattle.std.proofs.Math.Seq.{drop-append_seam, take-append_seam, drop-append-add}
use Rattle.std.proofs.lemmas.Bool.{eqb-false, eqb-true}
use Rattle.std.proofs.lemmas.List.{drop-drop}
use Rattle.std.specs.Prelude.{◌==◌}
use Rattle.rpc_stream.specs.declared.broken.Broken.{Broken}
use Rattle.rpc_stream.specs.declared.broken.Broken.TheVariants as broken
use Rattle.mix_dap.specs.Dialogue.{DialogueAs, TellsBroken}
use Rattle.page.specs.Talk.{TalksAs, reported_by}
use borrow.Rule.Slice.PartMut.{post_of}

-- where no write of the line failed it is the line, and otherwise the one that says that memory was refused for it
line-reported : (why : Broken) (failures : ℕ) (written : List ℕ) (b : Bool) → (failures == 0) ≡ b → (failures ≡ 0 → TellsBroken why (Some []) (Some written))
    → TellsBroken why (Some []) (Some (reported_by failures written))
line-reported why failures written true none tells = rw none (tells (eqb-true failures 0 none))
line-reported why failures written false some tells = rw some (inr refl)

-- a dialogue that reached its end, or was broken off
talks-by : (input sent left : List ℕ) (status failures : ℕ) (written : List ℕ) (b : Bool) → (status == 2) ≡ b
    → (status ≢ 2 → (status ≡ 0) × DialogueAs (Ok tt) (Some input) (Some left) (Some []) (Some sent))
    → (status ≢ 2 → (failures ≡ 0) × (written ≡ []))
    → (status ≡ 2 → (why : Broken) × DialogueAs (Err why) (Some input) (Some left) (Some []) (Some sent) × (failures ≡ 0 → TellsBroken why (Some []) (Some written)))
    → TalksAs input status sent (reported_by failures written)
talks-by input sent left status failures written true two done quiet broken =
    let is : status ≡ 2 = eqb-true status 2 two in
    let off = broken is in
    inr (is, record { why = off.0; left = left; dialogue = off.1; line = line-reported off.0 failures written (failures == 0) refl off.2 })
talks-by input sent left status failures written false other done quiet broken =
    let isnt : status ≢ 2 = eqb-false status 2 other in
    let none : (failures == 0) ≡ true = ap (λ (n : ℕ). n == 0) (quiet isnt).0 in
    inl ((done isnt).0, record { left = left; dialogue = (done isnt).1; quiet = rw none (quiet isnt).1 })

pub talks-as : (input sent left : List ℕ) (status failures : ℕ) (written : List ℕ)
    → (status ≢ 2 → (status ≡ 0) × DialogueAs (Ok tt) (Some input) (Some left) (Some []) (Some sent))
    → (status ≢ 2 → (failures ≡ 0) × (written ≡ []))
    → (status ≡ 2 → (why : Broken) × DialogueAs (Err why) (Some input) (Some left) (Some []) (Some sent) × (failures ≡ 0 → TellsBroken why (Some []) (Some written)))
    → TalksAs input status sent (reported_by failures written)
talks-as input sent left status failures written done quiet broken = talks-by input sent left status failures written (status == 2) refl done quiet broken

-- ---- of a room that begins with two texts

pub past : (s e after : List ℕ) → drop (length s + length e) (s ++ (e ++ after)) ≡ after
past s e after = drop-append-add s (e ++ after) (length e) ∙ drop-append_seam e after

pub both_put : (s e room : List ℕ) (a b n : ℕ) → length s ≡ a → length e ≡ b → n ≡ b
    → take a (s ++ drop a room) ++ (e ++ post_of a n (s ++ drop a room)) ≡ s ++ (e ++ drop (a + b) room)
both_put s e room a b n first second same =
    let front : take a (s ++ drop a room) ≡ s = rw (← first) (take-append_seam s (drop (length s) room)) in
    let back : drop a (s ++ drop a room) ≡ drop a room = rw (← first) (drop-append_seam s (drop (length s) room)) in
    let post : post_of a n (s ++ drop a room) ≡ drop (a + n) room = ap (drop n) back ∙ drop-drop n a room in
    rw (front, post, same) refl
