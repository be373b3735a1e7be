-- What the header of a store says, after the word of its cell.
use Rattle.std.proofs.Common.{ℕ, true, nat_eq, ◌≡◌, ◌+◌, ◌-◌, ◌*◌, ◌/◌, ◌%◌, ◌<◌, ◌≤◌, List, [], ◌∷◌, ◌++◌, length, drop, reverse, Some, IsSome, refl, ap, ◌∙◌, arith}
use Rattle.undo_core.specs.Replay.{put_back}
use Rattle.mix_machine.specs.Prelude.{WorldState, put_value, IsRow, Anchor}
use Rattle.mix_machine.specs.declared.old.Old.TheVariants as old
use Rattle.mix_machine.specs.declared.pack.kind.Kind.TheVariants as kind
use Rattle.mix_machine.specs.Pack.{header_of, last_of, store_value, long_word, said, SaysWith, before_store, store_said}
use Rattle.mix_machine.proofs.PutLemmas.{ThreePut, three-put}
use Rattle.mix_machine.proofs.RowLemmas.{row-says, header-fits}
use Rattle.mix_machine.proofs.SizeLemmas.{next-even}
use Rattle.mix_machine.proofs.StepLemmas.{leaves, three-said, anchor-is}

-- the header of a row of one cell, after its word
cell-says : (place w : ℕ) (a : Anchor) (units : List ℕ) → place < 4000 →
    said a ((units ++ w ∷ []) ++ header_of kind.Row (4096 + place) ∷ []) ≡ said a units ++ old.Cell place (long_word w) ∷ []
cell-says place w a units cell =
    let same : 4096 + place ≡ 1 * 4096 + (place + 1 - 1) = omega arith in
    let row : IsRow (header_of kind.Row (4096 + place)) place 1 = record { some = omega arith; is = ap (header_of kind.Row) same; cells = omega (arith, cell) } in
    row-says (header_of kind.Row (4096 + place)) place 1 a units (w ∷ []) row refl

pub store-says : (n place w : ℕ) (a : Anchor) → n % 2 ≡ 0 → n / 2 % 4096 ≡ place → place < 4000 →
    SaysWith w (header_of kind.Store n) a (before_store a) (store_said place w a)
store-says n place w a even at cell units =
    let b = before_store a in
    let us = units ++ w ∷ [] in
    let test : nat_eq (n % 2) 0 ≡ true = rw even refl in
    let half : (n + 1) / 2 ≡ n / 2 = omega (arith, even) in
    let there : (n + 1) / 2 % 4096 ≡ place = ap (λ h. h % 4096) half ∙ at in
    three-said _ _ _ (said b units) (old.Cell place (long_word w)) (old.Loc b.loc) (old.Clock b.clock)
    (leaves us kind.Store kind.Store n (n + 1) a b (old.Clock b.clock) (ap (λ t. store_value t n a (reverse us)) test))
    (leaves us kind.Store kind.Row (n + 1) (4096 + place) b b (old.Loc b.loc)
    (ap (λ t. store_value t (n + 1) b (reverse us)) (next-even n test)
    ∙ ap (λ h. Some (last_of (old.Loc b.loc) b (header_of kind.Row (4096 + h) ∷ reverse us))) there))
    (cell-says place w b units cell)

-- a header that is made says what it is made of
pub store-made : (header n place w : ℕ) (from to : Anchor) → header ≡ header_of kind.Store n → n ≡ place * 2 → place < 4000 →
    to.loc - 1 ≡ from.loc → to.clock - 2 ≡ from.clock → SaysWith w header to from (old.Cell place (long_word w) ∷ old.Loc from.loc ∷ old.Clock from.clock ∷ [])
store-made header n place w from to h is cell loc clock units =
    let even : n % 2 ≡ 0 = omega (arith, is) in
    let at : n / 2 % 4096 ≡ place = omega (arith, is, cell) in
    let same : before_store to ≡ from = anchor-is (to.loc - 1) (to.clock - 2) from loc clock in
    ap (λ x. said to ((units ++ w ∷ []) ++ x ∷ [])) h ∙ store-says n place w to even at cell units
    ∙ ap (λ (b : Anchor). said b units ++ old.Cell place (long_word w) ∷ old.Loc b.loc ∷ old.Clock b.clock ∷ []) same

-- what it says put back
pub store-back : (header place w most : ℕ) (a : Anchor) (units rest : List ℕ) (s : WorldState) → header ≡ header_of kind.Store (header / 16) →
    header / 16 % 2 ≡ 0 → header / 16 / 2 % 4096 ≡ place → place < 4000 → units ≡ rest ++ w ∷ [] → 2 < most → most ≤ length (said a (units ++ header ∷ [])) →
    IsSome (put_back put_value (drop (length (said a (units ++ header ∷ [])) - most) (said a (units ++ header ∷ []))) s) →
    (said a (units ++ header ∷ []) ≡ said (before_store a) rest ++ store_said place w a)
    × ThreePut s (old.Cell place (long_word w)) (before_store a).loc (before_store a).clock
store-back header place w most a units rest s h even at cell is more within fit =
    let b = before_store a in
    let all : said a (units ++ header ∷ []) ≡ said b rest ++ store_said place w a =
    ap (λ (us : List ℕ). said a (us ++ header ∷ [])) is ∙ ap (λ x. said a ((rest ++ w ∷ []) ++ x ∷ [])) h ∙ store-says (header / 16) place w a even at cell rest in (
      all,
      three-put s (old.Cell place (long_word w)) b.loc b.clock (header-fits _ (said b rest) (store_said place w a) most s all (omega (arith, more)) within fit),
    )
