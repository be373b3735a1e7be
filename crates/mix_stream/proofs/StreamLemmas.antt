-- What one more read or write does to known bytes.
use Rattle.std.proofs.Common.{◌≡◌, ℕ, ◌+◌, ◌-◌, ◌≤◌, List, ◌++◌, length, take, drop, Option, None, Some, refl, sym, ap, ◌∙◌, subst, arith}
use Rattle.std.specs.Io.KnownBytes.{Appends, Consumes}
use Rattle.std.proofs.KnownBytes.{Appends-trans, Consumes-trans}
use Rattle.std.proofs.lemmas.List.{drop_at, length-append, take_rest}
use Rattle.std.proofs.Math.Seq.{take-add}
use Rattle.mix_stream.specs.Stream.{ConsumesAtMost}

-- a reader that gave so many bytes gave no more of those that it had
pub within_from : (old new : Option (List ℕ)) (bytes : List ℕ) (most : ℕ) → Consumes old new bytes
    → length bytes ≤ most → ConsumesAtMost old new most
within_from None new bytes most consumed le = tt
within_from (Some all) None bytes most consumed le = absurd consumed
within_from (Some all) (Some left) bytes most consumed le =
    let long : length all ≡ length bytes + length left = ap length consumed ∙ length-append bytes left in
    let gone : length all - length left ≡ length bytes = omega arith in
    (sym (ap (λ n. drop n all) gone ∙ ap (drop (length bytes)) consumed ∙ drop_at bytes left (length bytes) refl), omega arith)

pub within_more : (old mid new : Option (List ℕ)) (bytes more : List ℕ) (most : ℕ) → Consumes old mid bytes
    → Consumes mid new more → length bytes + length more ≤ most
    → ConsumesAtMost old new most
within_more old mid new bytes more most first second le =
    within_from old new (bytes ++ more) most (Consumes-trans old mid new bytes more first second) (omega (arith, length-append bytes more))

pub ruleset reads = (within_from, within_more)

-- the next part of some bytes, written after their beginning
pub appends_next : (old mid new : Option (List ℕ)) (bytes : List ℕ) (at count : ℕ) → Appends old mid (take at bytes)
    → Appends mid new (take count (take (length bytes - at) (drop at bytes)))
    → Appends old new (take (at + count) bytes)
appends_next old mid new bytes at count first second =
    let joined : take at bytes ++ take count (take (length bytes - at) (drop at bytes)) ≡ take (at + count) bytes =
    rw (take_rest bytes at) (sym (take-add at count bytes)) in
    subst (Appends old new) joined (Appends-trans old mid new _ _ first second)
