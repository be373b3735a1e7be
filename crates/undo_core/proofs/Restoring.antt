-- Values put back some at a time: which of a change they are, and the state after them.
use Rattle.std.proofs.Common.{◌≡◌, ◌∙◌, ℕ, zero, suc, ◌+◌, ◌-◌, ◌<◌, ◌≤◌, Bool, false, List, length, take, drop, reverse, Option, Some, sym, ap, subst, arith}
use Rattle.std.proofs.lemmas.List.{take_all}
use Rattle.undo_core.specs.Prelude.{newest_part, is_ended, put_back}
use Rattle.undo_core.proofs.Ending.{part-on}
use Rattle.undo_core.proofs.Reverting.{later-put, cut-length, front-reversed}

-- some more of the newest part, after none of it, or after some that end no change
pub part-more : {O : Type 0} (last : O → Bool) (most many k : ℕ) (all left : List O) → many < most → most ≤ length all →
    (0 < many → many ≤ newest_part last most (reverse all)) → (0 < many → many < most → is_ended last (reverse left) ≡ false) →
    left ≡ take (length all - many) all → k ≤ newest_part last (most - many) (reverse left) → many + k ≤ newest_part last most (reverse all)
part-more last most zero k all left below within part goes cut more =
    let same : left ≡ all = cut ∙ take_all (length all - 0) all (omega arith) in
    let none : most - 0 ≡ most = omega arith in
    let first : k ≤ newest_part last most (reverse all) =
    subst (λ n. k ≤ newest_part last n (reverse all)) none (subst (λ xs. k ≤ newest_part last (most - 0) (reverse xs)) same more) in
    omega (arith, first)
part-more last most (suc m) k all left below within part goes cut more =
    part-on last most (suc m) k (reverse all) (reverse left) (omega arith) below (part (omega arith))
    (front-reversed left all (suc m) cut (omega (arith, below, within))) (goes (omega arith) below) more

pub back-more : {S O : Type 0} (put : S → O → Option S) (all left : List O) (many some : ℕ) (s t u : S) → many + some ≤ length all →
    left ≡ take (length all - many) all → put_back put (drop (length all - many) all) s ≡ Some t → put_back put (drop (length left - some) left) t ≡ Some u →
    put_back put (drop (length all - (many + some)) all) s ≡ Some u
back-more put all left many some s t u within cut before step =
    let n = length all in
    let len = cut-length left all (n - many) cut (omega arith) in
    let place : n - (many + some) ≡ length left - some = omega (arith, len, within) in
    later-put put all (n - (many + some)) (n - many) s t (omega arith) (omega arith) before
    ∙ ap (λ os. put_back put (drop (n - (many + some)) os) t) (sym cut) ∙ ap (λ k. put_back put (drop k left) t) place ∙ step
