-- Nothing differs exactly where two states of the machine are the same.
use Rattle.std.specs.Prelude.{IsTrue, ◌↔◌}
use Rattle.std.proofs.Common.{◌≡◌, ℕ, zero, suc, ◌+◌, ◌<◌, ◌≤◌, List, [], ◌∷◌, ◌++◌, codes, length, get_or, map, Bool, true, false, not, ◌&&◌, ◌==◌, refl, sym, ap, subst, ◌∙◌, arith}
use Rattle.std.proofs.lemmas.Bool.{and_parts}
use Rattle.std.proofs.lemmas.Bool.Decides.{nat_tests}
use Rattle.std.proofs.lemmas.List.{ext_get_or, length-map}
use Rattle.std.proofs.lemmas.List.Elements.{filter-append}
use Rattle.std.specs.Bool.{Decides}
use Rattle.std.specs.Cmp.{booleans_Decides, unsigned_Decides}
use Rattle.std.specs.List.{filter, range_with_len}
use Rattle.mix_word.specs.Prelude.{WordValue, word, zero_word, is_same_sign, is_same_word, unit_count}
use Rattle.mix_word.specs.declared.word.Cmp.{Cmp}
use Rattle.mix_word.specs.declared.word.Sign.{Sign}
use Rattle.mix_word.specs.declared.word.Sign.TheVariants.{Plus, Minus}
use Rattle.mix_word.specs.declared.word.Cmp.TheVariants.{Less, Equal, Greater}
use Rattle.mix_machine.specs.Prelude.{is_same_indicator, is_same_unit, RegistersState, WorldState, IsWorld, register_of, cell_of, has_break, unit_at, UnitState, empty_unit}
use Rattle.mix_machine.specs.declared.units.kind.UnitKind.TheVariants.{Tape}
use Rattle.mix_machine.specs.units.Units.{UnitsState, AreUnits}
use Rattle.mix_session.specs.Altered.{unnumbered, count_of, part_of, numbered, with_numbered, is_altered, alterations}
use Rattle.mix_session.specs.Prelude.{lines_text, cells_in, column_text, columns_text, Cells, Breaks, Units}
use Rattle.mix_session.specs.declared.altered.Altered.{Altered}
use Rattle.mix_session.specs.declared.altered.Altered.TheVariants as part
use Rattle.mix_session.specs.declared.altered.Kind.{Kind}

-- Two words are the same exactly where they are equal, and two indicators.
and-true : (a b : Bool) → a ≡ true → b ≡ true → (a && b) ≡ true
and-true true b p q = q
and-true false b p q = p

same-sign : (s t : Sign) → Decides (is_same_sign s t) (s ≡ t)
same-sign Plus Plus = ((λ e. refl), (λ e. refl))
same-sign Minus Minus = ((λ e. refl), (λ e. refl))
same-sign Plus Minus = ((λ e. absurd (cc)), (λ e. absurd (cc)))
same-sign Minus Plus = ((λ e. absurd (cc)), (λ e. absurd (cc)))

same-word : (v w : WordValue) → Decides (is_same_word v w) (v ≡ w)
same-word v w =
    let sign = same-sign v.sign w.sign in
    let magnitude = unsigned_Decides v.magnitude w.magnitude in (
      (λ h. let parts = and_parts (is_same_sign v.sign w.sign) (v.magnitude == w.magnitude) h in
          ap (λ s. word s v.magnitude) (sign.0 parts.0) ∙ ap (word w.sign) (magnitude.0 parts.1)),
      (λ e. and-true (is_same_sign v.sign w.sign) (v.magnitude == w.magnitude) (sign.1 (ap (λ (u : WordValue). u.sign) e))
          (magnitude.1 (ap (λ (u : WordValue). u.magnitude) e))),
    )

same-indicator : (c d : Cmp) → Decides (is_same_indicator c d) (c ≡ d)
same-indicator Less Less = ((λ e. refl), (λ e. refl))
same-indicator Equal Equal = ((λ e. refl), (λ e. refl))
same-indicator Greater Greater = ((λ e. refl), (λ e. refl))
same-indicator _ _ = ((λ e. absurd (cc)), (λ e. absurd (cc)))

-- two units are the same exactly where they are equal, as `mark_law` has it
abbrev pub SameUnits : Type 0
SameUnits = (u x : UnitState) → IsTrue (is_same_unit u x) ↔ (u ≡ x)

-- A part does not differ exactly where it holds the same.
abbrev pub IsSame : WorldState → WorldState → Altered → Type 0
IsSame v w (part.Register r) = register_of v r ≡ register_of w r
IsSame v w part.Over = v.over ≡ w.over
IsSame v w part.Cmp = v.cmp ≡ w.cmp
IsSame v w part.Loc = v.loc ≡ w.loc
IsSame v w part.Clock = v.clock ≡ w.clock
IsSame v w (part.Cell p) = cell_of v p ≡ cell_of w p
IsSame v w (part.Break p) = has_break v p ≡ has_break w p
IsSame v w (part.Unit n) = unit_at v n ≡ unit_at w n

not-decides : {P : Type 0} (b : Bool) → Decides b P → (not b ≡ false) ↔ P
not-decides true d = ((λ e. d.0 refl), (λ p. refl))
not-decides false d = ((λ e. absurd (cc)), (λ p. let f = d.1 p in absurd (cc)))

pub unaltered : (v w : WorldState) → SameUnits → (p : Altered) → (is_altered v w p ≡ false) ↔ IsSame v w p
unaltered v w units (part.Register r) = not-decides _ (same-word (register_of v r) (register_of w r))
unaltered v w units part.Over = not-decides _ (booleans_Decides v.over w.over)
unaltered v w units part.Cmp = not-decides _ (same-indicator v.cmp w.cmp)
unaltered v w units part.Loc = not-decides _ (unsigned_Decides v.loc w.loc)
unaltered v w units part.Clock = not-decides _ (unsigned_Decides v.clock w.clock)
unaltered v w units (part.Cell p) = not-decides _ (same-word (cell_of v p) (cell_of w p))
unaltered v w units (part.Break p) = not-decides _ (booleans_Decides (has_break v p) (has_break w p))
unaltered v w units (part.Unit n) = not-decides _ (units (unit_at v n) (unit_at w n))

same-parts : (v : WorldState) (p : Altered) → IsSame v v p
same-parts v (part.Register r) = refl
same-parts v part.Over = refl
same-parts v part.Cmp = refl
same-parts v part.Loc = refl
same-parts v part.Clock = refl
same-parts v (part.Cell p) = refl
same-parts v (part.Break p) = refl
same-parts v (part.Unit n) = refl

-- Where nothing passes a test.
joined-none : {X : Type 0} (xs ys : List X) → xs ++ ys ≡ [] → (xs ≡ []) × (ys ≡ [])
joined-none [] ys e = (refl, e)
joined-none (x ∷ xs) ys e = absurd (cc)

split-none : {X : Type 0} (p : X → Bool) (xs ys : List X) → filter p (xs ++ ys) ≡ [] → (filter p xs ≡ []) × (filter p ys ≡ [])
split-none p xs ys e = joined-none (filter p xs) (filter p ys) (sym (filter-append p xs ys) ∙ e)

none-passes : {X : Type 0} (p : X → Bool) (xs : List X) → ((x : X) → p x ≡ false) → filter p xs ≡ []
none-passes p [] fails = refl
none-passes p (x ∷ xs) fails = rw (fails x) (none-passes p xs fails)

first-fails : {X : Type 0} (p : X → Bool) (x : X) (xs : List X) → filter p (x ∷ xs) ≡ [] → (p x ≡ false) × (filter p xs ≡ [])
first-fails p x xs e =
    elim (p x) as (λ b. p x ≡ b → (p x ≡ false) × (filter p xs ≡ [])) [
      | true ↦ λ at. let some : x ∷ filter p xs ≡ [] = rw at at e in absurd (cc)
      | false ↦ λ at. (at, rw at at e)
    ] refl

none-at : {X : Type 0} (p : X → Bool) (xs : List X) (i : ℕ) (d : X) → filter p xs ≡ [] → i < length xs → p (get_or xs i d) ≡ false
none-at p [] i d e below = absurd (omega arith)
none-at p (x ∷ xs) zero d e below = (first-fails p x xs e).0
none-at p (x ∷ xs) (suc i) d e below = none-at p xs i d (first-fails p x xs e).1 (omega arith)

each-fails : {X : Type 0} (p : X → Bool) (of : ℕ → X) (n a : ℕ) → filter p (map of (range_with_len a n)) ≡ [] → (i : ℕ) → a ≤ i → i < a + n → p (of i) ≡ false
each-fails p of zero a e i from below = absurd (omega arith)
each-fails p of (suc n) a e i from below =
    let fails = first-fails p (of a) (map of (range_with_len (a + 1) n)) e in
    elim (i == a) as (λ b. (i == a) ≡ b → p (of i) ≡ false) [
      | true ↦ λ at. subst (λ (k : ℕ). p (of k) ≡ false) (sym ((unsigned_Decides i a).0 at)) fails.0
      | false ↦ λ at. each-fails p of n (a + 1) fails.1 i (grind (arith, nat_tests)) (omega arith)
    ] refl

-- Two states with the same parts.
joined-registers : (r s : RegistersState) → r.a ≡ s.a → r.x ≡ s.x → r.i1 ≡ s.i1 → r.i2 ≡ s.i2 → r.i3 ≡ s.i3 → r.i4 ≡ s.i4 → r.i5 ≡ s.i5 →
    r.i6 ≡ s.i6 → r.j ≡ s.j → r ≡ s
joined-registers r s a x i1 i2 i3 i4 i5 i6 j =
    ap (λ (v : WordValue). record r { a = v }) a
    ∙ ap (λ (v : WordValue). record r { a = s.a; x = v }) x
    ∙ ap (λ (v : WordValue). record r { a = s.a; x = s.x; i1 = v }) i1
    ∙ ap (λ (v : WordValue). record r { a = s.a; x = s.x; i1 = s.i1; i2 = v }) i2
    ∙ ap (λ (v : WordValue). record r { a = s.a; x = s.x; i1 = s.i1; i2 = s.i2; i3 = v }) i3
    ∙ ap (λ (v : WordValue). record s { i4 = v; i5 = r.i5; i6 = r.i6; j = r.j }) i4
    ∙ ap (λ (v : WordValue). record s { i5 = v; i6 = r.i6; j = r.j }) i5
    ∙ ap (λ (v : WordValue). record s { i6 = v; j = r.j }) i6
    ∙ ap (λ (v : WordValue). record s { j = v }) j

joined : (v w : WorldState) → v.registers ≡ w.registers → v.over ≡ w.over → v.cmp ≡ w.cmp → v.cells ≡ w.cells → v.loc ≡ w.loc → v.clock ≡ w.clock →
    v.units ≡ w.units → v.breaks ≡ w.breaks → v ≡ w
joined v w registers over cmp cells loc clock units breaks =
    ap (λ (x : RegistersState). record v { registers = x }) registers
    ∙ ap (λ (x : Bool). record v { registers = w.registers; over = x }) over
    ∙ ap (λ (x : Cmp). record v { registers = w.registers; over = w.over; cmp = x }) cmp
    ∙ ap (λ (x : List WordValue). record v { registers = w.registers; over = w.over; cmp = w.cmp; cells = x }) cells
    ∙ ap (λ (x : ℕ). record w { loc = x; clock = v.clock; units = v.units; breaks = v.breaks }) loc
    ∙ ap (λ (x : ℕ). record w { clock = x; units = v.units; breaks = v.breaks }) clock
    ∙ ap (λ (x : UnitsState). record w { units = x; breaks = v.breaks }) units
    ∙ ap (λ (x : List Bool). record w { breaks = x }) breaks

cells-same : (v w : WorldState) → IsWorld v → IsWorld w → ((p : ℕ) → p < 4000 → cell_of v p ≡ cell_of w p) → v.cells ≡ w.cells
cells-same v w h k each = ext_get_or zero_word v.cells w.cells (h.cells ∙ sym k.cells) (λ i below. each i (subst (λ (n : ℕ). i < n) h.cells below))

breaks-same : (v w : WorldState) → IsWorld v → IsWorld w → ((p : ℕ) → p < 4000 → has_break v p ≡ has_break w p) → v.breaks ≡ w.breaks
breaks-same v w h k each = ext_get_or false v.breaks w.breaks (h.breaks ∙ sym k.breaks) (λ i below. each i (subst (λ (n : ℕ). i < n) h.breaks below))

count-units : (us : UnitsState) → AreUnits us → length us ≡ unit_count
count-units us h = sym (length-map us (λ (u : UnitState). u.kind)) ∙ ap length h.kinds

units-same : (v w : WorldState) → IsWorld v → IsWorld w → ((n : ℕ) → n < unit_count → unit_at v n ≡ unit_at w n) → v.units ≡ w.units
units-same v w h k each =
    let own = count-units v.units h.units in
    let other = count-units w.units k.units in
    ext_get_or (empty_unit Tape) v.units w.units (own ∙ sym other) (λ i below. each i (subst (λ (n : ℕ). i < n) own below))

-- of the parts that have no number none differs
few-same : (v w : WorldState) → SameUnits → filter (is_altered v w) unnumbered ≡ [] → (i : ℕ) → i < 13 → IsSame v w (get_or unnumbered i part.Over)
few-same v w units e i below = (unaltered v w units (get_or unnumbered i part.Over)).0 (none-at (is_altered v w) unnumbered i part.Over e below)

registers-same : (v w : WorldState) → SameUnits → filter (is_altered v w) unnumbered ≡ [] → v.registers ≡ w.registers
registers-same v w units e =
    let same = few-same v w units e in
    joined-registers v.registers w.registers (same 0 (omega arith)) (same 1 (omega arith)) (same 2 (omega arith)) (same 3 (omega arith)) (same 4 (omega arith))
    (same 5 (omega arith)) (same 6 (omega arith)) (same 7 (omega arith)) (same 8 (omega arith))

-- of a kind none differs
kind-same : (v w : WorldState) → SameUnits → (kind : Kind) → filter (is_altered v w) (numbered kind) ≡ [] → (i : ℕ) → i < count_of kind → IsSame v w (part_of kind i)
unfolding numbered
kind-same v w units kind e i below =
    (unaltered v w units (part_of kind i)).0 (each-fails (is_altered v w) (part_of kind) (count_of kind) 0 e i (omega arith) (omega arith))

-- no part differs exactly where two states of the machine are the same
pub alterations-none : (v w : WorldState) → SameUnits → IsWorld v → IsWorld w →
    (alterations v w ≡ []) ↔ (v ≡ w)
unfolding with_numbered
alterations-none v w units h k =
    let f = is_altered v w in (
      (λ e.
          let devices = split-none f (unnumbered ++ numbered Cells ++ numbered Breaks) (numbered Units) e in
          let breaks = split-none f (unnumbered ++ numbered Cells) (numbered Breaks) devices.0 in
          let cells = split-none f unnumbered (numbered Cells) breaks.0 in
          let same = few-same v w units cells.0 in
          joined v w (registers-same v w units cells.0) (same 9 (omega arith)) (same 10 (omega arith)) (cells-same v w h k (kind-same v w units Cells cells.1))
          (same 11 (omega arith)) (same 12 (omega arith))
          (units-same v w h k (kind-same v w units Units devices.1)) (breaks-same v w h k (kind-same v w units Breaks breaks.1))),
      (λ e. none-passes f (with_numbered unnumbered) (λ p. (unaltered v w units p).1 (subst (λ (u : WorldState). IsSame v u p) e (same-parts v p)))),
    )

-- the text of no item is the only one that is empty
lines-none : (v w : WorldState) (parts : List Altered) → (lines_text v w parts ≡ []) ↔ (parts ≡ [])
lines-none v w [] = ((λ e. refl), (λ e. refl))
lines-none v w (p ∷ ps) =
    ((λ e. let line = (joined-none _ (lines_text v w ps) e).0 in let end = (joined-none _ (10 ∷ []) line).1 in absurd (cc)), (λ e. absurd (cc)))

spaced-some : {P : Type 0} (text : List ℕ) → codes "  " ++ text ≡ [] → P
spaced-some text e = absurd (cc)

cell-some : {P : Type 0} (v w : WorldState) (c : ℕ) (cells : List ℕ) → column_text v w (part.Cell c) (c ∷ cells) ≡ [] → P
cell-some v w c [] e = spaced-some _ e
cell-some v w c (q ∷ more) e = spaced-some _ (rw ((unsigned_Decides c c).1 refl) at e)

column-some : {P : Type 0} (v w : WorldState) (p : Altered) (ps : List Altered) → column_text v w p (cells_in (p ∷ ps)) ≡ [] → P
column-some v w (part.Register r) ps e = spaced-some _ e
column-some v w part.Over ps e = spaced-some _ e
column-some v w part.Cmp ps e = spaced-some _ e
column-some v w part.Loc ps e = spaced-some _ e
column-some v w part.Clock ps e = spaced-some _ e
column-some v w (part.Cell c) ps e = cell-some v w c (cells_in ps) e
column-some v w (part.Break c) ps e = spaced-some _ e
column-some v w (part.Unit n) ps e = spaced-some _ e

columns-none : (v w : WorldState) (parts : List Altered) → (columns_text v w parts ≡ []) ↔ (parts ≡ [])
columns-none v w [] = ((λ e. refl), (λ e. refl))
columns-none v w (p ∷ ps) = ((λ e. column-some v w p ps (joined-none _ _ e).0), (λ e. absurd (cc)))

-- no item is told exactly where they are the same
pub differences-none : (v w : WorldState) → SameUnits → IsWorld v → IsWorld w →
    ((lines_text v w (alterations v w) ≡ []) ↔ (v ≡ w)) × ((columns_text v w (alterations v w) ≡ []) ↔ (v ≡ w))
differences-none v w units h k =
    let none = alterations-none v w units h k in
    let lines = lines-none v w (alterations v w) in
    let columns = columns-none v w (alterations v w) in
    (((λ e. none.0 (lines.0 e)), (λ e. lines.1 (none.1 e))), ((λ e. none.0 (columns.0 e)), (λ e. columns.1 (none.1 e))))
