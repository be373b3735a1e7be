-- What several writes, one after the other, did to a writer's bytes.
use Rattle.std.proofs.Common.{◌≡◌, ℕ, ◌+◌, ◌≤◌, List, ◌++◌, length, take, Option, sym, ap, arith, subst}
use Rattle.std.proofs.lemmas.List.{take-append-le, length-append}
use Rattle.std.proofs.Math.Seq.{take-append-add, take-length}
pub use Rattle.std.proofs.KnownBytes.{Appends-nil as Appends-nothing, Appends-trans as Appends-then}
use Rattle.std.specs.Io.KnownBytes.{Appends}
use Rattle.mix_stream.specs.Stream.{AppendsFront}

-- the same bytes in another form
pub Appends-same : (a b : Option (List ℕ)) (xs ys : List ℕ) → xs ≡ ys → Appends a b xs → Appends a b ys
Appends-same a b xs ys e h = let P : List ℕ → Type 0 = λ zs. Appends a b zs in subst P e h

-- a beginning of bytes that continue others
pub AppendsFront-after : (a b c : Option (List ℕ)) (xs ys rest whole : List ℕ) → Appends a b xs → AppendsFront b c ys → whole ≡ xs ++ (ys ++ rest) → AppendsFront a c whole
AppendsFront-after a b c xs ys rest whole h k e =
    let n = k.0 in
    let within : n ≤ length ys = k.1 in
    let front : take (length xs + n) whole ≡ xs ++ take n ys =
    rw (e, take-append-add) (ap (λ t. xs ++ t) (take-append-le n ys rest within)) in (
      length xs + n,
      (rw (e, length-append, length-append) (omega arith)),
      Appends-same a c (xs ++ take n ys) (take (length xs + n) whole) (sym front) (Appends-then a b c xs (take n ys) h k.2),
    )

-- all of the bytes are a beginning of them
pub AppendsFront-all : (a b : Option (List ℕ)) (xs : List ℕ) → Appends a b xs → AppendsFront a b xs
AppendsFront-all a b xs h = (length xs, omega arith, Appends-same a b xs (take (length xs) xs) (sym (take-length xs)) h)
