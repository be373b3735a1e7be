-- What units say ends in the value of their header, and the units before it say the others.
use Rattle.std.proofs.Common.{Bool, IsSome, IsTrue, ℕ, true, false, nat_lt, slice_get, ◌≡◌, ◌+◌, ◌-◌, ◌*◌, ◌/◌, ◌%◌, ◌<◌, ◌≤◌, List, [], ◌∷◌, ◌++◌, length, take, reverse, Option, Some, None, MatchOption, refl, sym, ap, ◌∙◌, subst, arith}
use Rattle.std.specs.Bool.{then_some}
use Rattle.std.specs.Option.{option_map}
use Rattle.std.proofs.lemmas.Bool.Decides.{nat_tests}
use Rattle.std.proofs.lemmas.List.{reverse-append, reverse-reverse, append-nil, take-append-le}
use Rattle.std.proofs.lemmas.Nat.{mod-mul-add, div-mul-add}
use Rattle.mix_word.specs.Prelude.{WordValue, all_registers}
use Rattle.mix_word.specs.declared.register.Reg.{Reg}
use Rattle.undo_core.specs.Prelude.{unit_list, put_back}
use Rattle.undo_core.specs.declared.pack.Last.{Last}
use Rattle.mix_machine.specs.Prelude.{WorldState, put_value, set_value, fits, Old, Anchor, Kind, LastValue, header_of, last_of, short_word, long_word, value_by, last_value, said, seen}
use Rattle.mix_machine.specs.declared.old.Old.TheVariants as old
use Rattle.mix_machine.specs.declared.pack.kind.Kind.TheVariants as kind
use Rattle.mix_machine.proofs.SizeLemmas.{size-of, values-step, none-values, last-header}

-- units whose last value is this one
pub said-last : (units rest : List ℕ) (a b : Anchor) (v : Old) → last_value a (reverse units) ≡ Some (last_of v b (reverse rest)) →
    said a units ≡ said b rest ++ v ∷ []
said-last units rest a b v e = values-step (3 * length units) (3 * length rest) a b (reverse units) (reverse rest) v (size-of units) (size-of rest) e

-- units that end in no value
pub said-none : (units : List ℕ) (a : Anchor) → last_value a (reverse units) ≡ None → said a units ≡ []
said-none units a e = none-values (3 * length units) a (reverse units) e

-- a header appended, alone or after one or two other units
pub said-one : (units now : List ℕ) (k : Kind) (n header : ℕ) (a : Anchor) (v : Old) → header ≡ header_of k n → now ≡ units ++ header ∷ [] →
    value_by k n a (reverse units) ≡ Some (last_of v a (reverse units)) → said a now ≡ said a units ++ v ∷ []
said-one units now k n header a v h is e =
    let backwards : reverse now ≡ header ∷ reverse units = ap reverse is ∙ reverse-append units (header ∷ []) in
    said-last now units a a v (ap (last_value a) backwards ∙ ap (λ x. last_value a (x ∷ reverse units)) h ∙ last-header k n a (reverse units) ∙ e)

pub said-two : (units next now : List ℕ) (k : Kind) (n header one : ℕ) (a : Anchor) (v : Old) → header ≡ header_of k n → next ≡ units ++ one ∷ [] →
    now ≡ next ++ header ∷ [] → value_by k n a (one ∷ reverse units) ≡ Some (last_of v a (reverse units)) → said a now ≡ said a units ++ v ∷ []
said-two units next now k n header one a v h first is e =
    let before : reverse next ≡ one ∷ reverse units = ap reverse first ∙ reverse-append units (one ∷ []) in
    let backwards : reverse now ≡ header ∷ one ∷ reverse units = ap reverse is ∙ reverse-append next (header ∷ []) ∙ ap (λ us. header ∷ us) before in
    said-last now units a a v (ap (last_value a) backwards ∙ ap (λ x. last_value a (x ∷ one ∷ reverse units)) h ∙ last-header k n a (one ∷ reverse units) ∙ e)

pub said-three : (units next double now : List ℕ) (k : Kind) (n header one two : ℕ) (a : Anchor) (v : Old) → header ≡ header_of k n → next ≡ units ++ one ∷ [] →
    double ≡ next ++ two ∷ [] → now ≡ double ++ header ∷ [] → value_by k n a (two ∷ one ∷ reverse units) ≡ Some (last_of v a (reverse units)) →
    said a now ≡ said a units ++ v ∷ []
said-three units next double now k n header one two a v h first second is e =
    let before : reverse double ≡ two ∷ one ∷ reverse units =
    ap reverse second ∙ reverse-append next (two ∷ []) ∙ ap (λ us. two ∷ reverse us) first ∙ ap (λ us. two ∷ us) (reverse-append units (one ∷ [])) in
    let backwards : reverse now ≡ header ∷ two ∷ one ∷ reverse units = ap reverse is ∙ reverse-append double (header ∷ []) ∙ ap (λ us. header ∷ us) before in
    said-last now units a a v
    (ap (last_value a) backwards ∙ ap (λ x. last_value a (x ∷ two ∷ one ∷ reverse units)) h ∙ last-header k n a (two ∷ one ∷ reverse units) ∙ e)

-- what is read of units that end in a header
pub read-last : (units before : List ℕ) (header : ℕ) (a : Anchor) (last : Option (Last Old Anchor)) → units ≡ before ++ header ∷ [] →
    option_map (seen before) last ≡ last_value a (header ∷ reverse before) →
    MatchOption last (said a units ≡ []) (λ l. said a units ≡ said l.anchor (take l.left before ++ unit_list l.more) ++ l.value ∷ [])
read-last units before header a None is e =
    said-none units a (ap (last_value a) (ap reverse is ∙ reverse-append before (header ∷ [])) ∙ sym e)
read-last units before header a (Some l) is e =
    said-last units (take l.left before ++ unit_list l.more) a l.anchor l.value (ap (last_value a) (ap reverse is ∙ reverse-append before (header ∷ [])) ∙ sym e)

-- what is taken off units that end in a header
pub take-last : (units before rest : List ℕ) (header : ℕ) (a b : Anchor) (v : Option Old) → units ≡ before ++ header ∷ [] →
    MatchOption v (last_value a (header ∷ reverse before) ≡ None) (λ value. last_value a (header ∷ reverse before) ≡ Some (last_of value b (reverse rest))) →
    MatchOption v (said a units ≡ []) (λ value. said a units ≡ said b rest ++ value ∷ [])
take-last units before rest header a b None is e = said-none units a (ap (last_value a) (ap reverse is ∙ reverse-append before (header ∷ [])) ∙ e)
take-last units before rest header a b (Some value) is e =
    said-last units rest a b value (ap (last_value a) (ap reverse is ∙ reverse-append before (header ∷ [])) ∙ e)

-- units that end in a header and say something: their last value, and the units that say the others
pub header-value : (units before : List ℕ) (header : ℕ) (a : Anchor) → units ≡ before ++ header ∷ [] → 0 < length (said a units) →
    (l : LastValue) × (last_value a (header ∷ reverse before) ≡ Some l) × (said a units ≡ said l.anchor (reverse l.before) ++ l.value ∷ [])
header-value units before header a is some = value-of (last_value a (header ∷ reverse before)) refl where
  value-of : (last : Option LastValue) → last_value a (header ∷ reverse before) ≡ last →
      (l : LastValue) × (last_value a (header ∷ reverse before) ≡ Some l) × (said a units ≡ said l.anchor (reverse l.before) ++ l.value ∷ [])
  value-of None e =
      absurd (let none = said-none units a (ap (last_value a) (ap reverse is ∙ reverse-append before (header ∷ [])) ∙ e) in omega (arith, some, ap length none))
  value-of (Some l) e = (
    l,
    e,
    said-last units (reverse l.before) a l.anchor l.value
        (ap (last_value a) (ap reverse is ∙ reverse-append before (header ∷ [])) ∙ e ∙ ap (λ us. Some (last_of l.value l.anchor us)) (sym (reverse-reverse l.before))),
  )

-- one value put back
put-fits : (b : Bool) (w : WorldState) → IsSome (then_some b w) → IsTrue b
put-fits true w e = refl
put-fits false w e = absurd (cc)

put-one : (w : WorldState) (v : Old) → put_back put_value (v ∷ []) w ≡ put_value w v
put-one w v = refl

pub fits-alone : (w : WorldState) (os : List Old) (v : Old) → os ≡ v ∷ [] → IsSome (put_back put_value os w) → IsTrue (fits w v)
fits-alone w os v is some = put-fits (fits w v) (set_value w v) (subst IsSome (ap (λ xs. put_back put_value xs w) is ∙ put-one w v) some)

pub put-alone : (w new : WorldState) (os : List Old) (v : Old) → os ≡ v ∷ [] → IsSome (put_back put_value os w) → new ≡ set_value w v →
    put_back put_value os w ≡ Some new
put-alone w new os v is some done =
    ap (λ xs. put_back put_value xs w) is ∙ put-one w v ∙ rw (fits-alone w os v is some) (ap Some (sym done))

-- units that are cut at the same place, with the header or without it
pub read-split : (units before : List ℕ) (header : ℕ) (a : Anchor) (last : Option (Last Old Anchor)) → units ≡ before ++ header ∷ [] →
    MatchOption last (Unit {0}) (λ l. l.left ≤ length before) →
    option_map (seen before) last ≡ last_value a (header ∷ reverse before) →
    MatchOption last (said a (units ++ []) ≡ []) (λ l. said a (units ++ []) ≡ said l.anchor (take l.left units ++ unit_list l.more) ++ l.value ∷ [])
read-split units before header a None is within e = rw (append-nil units) (read-last units before header a None is e)
read-split units before header a (Some l) is within e =
    let same : take l.left units ≡ take l.left before = ap (take l.left) is ∙ take-append-le l.left before (header ∷ []) within in
    rw (append-nil units, same) (read-last units before header a (Some l) is e)

-- a register and a short word in one header
pub register-header : (number bits : ℕ) (r : Reg) (w : WordValue) (a : Anchor) (us : List ℕ) → number < 9 → slice_get all_registers number ≡ Some r →
    short_word bits ≡ w → value_by kind.Register (bits * 16 + number) a us ≡ Some (last_of (old.Reg r w) a us)
register-header number bits r w a us low listed is =
    let small : number < 16 = omega arith in
    rw (mod-mul-add bits 16 number small, div-mul-add bits 16 number small, listed, is) refl

-- the header of a row of two cells or more
pub row-header : (n place bits header : ℕ) (a : Anchor) (us : List ℕ) → n % 4096 ≡ place → place < 4000 → 8192 ≤ n → header_of kind.Row (n - 4097) ≡ header →
    value_by kind.Row n a (bits ∷ us) ≡ Some (last_of (old.Cell place (long_word bits)) a (header ∷ us))
row-header n place bits header a us is cell more rest =
    let test : nat_lt place 4000 ≡ true = grind (arith, nat_tests) in
    let others : nat_lt n 8192 ≡ false = grind (arith, nat_tests) in
    rw (is, test, others, rest) refl

-- a row that is one cell longer
pub longer-row : (units rest next now : List ℕ) (header longer place bits : ℕ) (w : WordValue) (a : Anchor) → units ≡ rest ++ header ∷ [] →
    next ≡ rest ++ bits ∷ [] → now ≡ next ++ longer ∷ [] → longer ≡ header + 65552 → long_word bits ≡ w → place < 4000 →
    header % 65536 + 16 ≡ place * 16 + 3 → 65536 ≤ header → said a now ≡ said a units ++ old.Cell place w ∷ []
longer-row units rest next now header longer place bits w a is first ends sum word cell before some =
    let n = header / 16 in
    let same : header_of kind.Row (n + 4097 - 4097) ≡ header = omega arith in
    let more : longer ≡ header_of kind.Row (n + 4097) = omega arith in
    let at : (n + 4097) % 4096 ≡ place = omega arith in
    let long : 8192 ≤ n + 4097 = omega arith in
    let value = row-header (n + 4097) place bits header a (reverse rest) at cell long same in
    let old_units : reverse units ≡ header ∷ reverse rest = ap reverse is ∙ reverse-append rest (header ∷ []) in
    let middle : reverse next ≡ bits ∷ reverse rest = ap reverse first ∙ reverse-append rest (bits ∷ []) in
    let backwards : reverse now ≡ longer ∷ bits ∷ reverse rest = ap reverse ends ∙ reverse-append next (longer ∷ []) ∙ ap (λ us. longer ∷ us) middle in
    said-last now units a a (old.Cell place w)
    (ap (last_value a) backwards ∙ ap (λ x. last_value a (x ∷ bits ∷ reverse rest)) more ∙ last-header kind.Row (n + 4097) a (bits ∷ reverse rest)
    ∙ value ∙ ap (λ v. Some (last_of (old.Cell place v) a (header ∷ reverse rest))) word
    ∙ ap (λ us. Some (last_of (old.Cell place w) a us)) (sym old_units))
