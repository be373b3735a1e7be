-- What the marks of parts say: the values that are put back give the marks before, and a change alters a part exactly
-- where it alters its mark.
use Rattle.std.specs.Prelude.{ℕ, zero, suc, Bool, true, false, cond, ◌==◌, List, [], ◌∷◌, ◌++◌, ◌≡◌, ◌≢◌, ◌<◌, length, take, IsTrue, Option, None, Some, unwrap_or, refl, slice_set, slice_index_or}
use Rattle.std.specs.Option.{option_and_then}
use Rattle.std.specs.Bool.{then_some}
use Rattle.std.proofs.Common.{ap, sym, subst, ◌∙◌, arith}
use Rattle.std.proofs.lemmas.Bool.Decides.{nat_tests}
use Rattle.std.proofs.lemmas.List.{get_or-set_other}
use Rattle.std.proofs.lemmas.Grind.{get_or-set_at}
use Rattle.undo_core.specs.Replay.{put_back}
use Rattle.mix_word.specs.declared.register.Reg.{Reg}
use Rattle.mix_word.specs.Word.{WordValue, zero_word}
use Rattle.mix_word.specs.declared.register.Reg.TheVariants.{A, X, I1, I2, I3, I4, I5, I6, J}
use Rattle.mix_machine.specs.Registers.{RegistersState, held_in, with_register}
use Rattle.mix_machine.specs.Prelude.{WorldState, IsWorld, has_medium, has_output, UnitState, empty_unit, with_word, UnitsState, unit_of, with_unit, cut_to, set_value, fits, put_value, world-set_value, length-units, Tape, Old, Part, Mark}
use Rattle.mix_machine.specs.Part.{is_same_register, mark_of, mark_given, mark_before, IsPart}
use Rattle.mix_machine.specs.declared.old.Old.TheVariants as old
use Rattle.mix_machine.specs.declared.part.Part.TheVariants.{Register, Over, Cmp as Indicated, Cell, Unit as Device, Loc, Clock}
use Rattle.mix_machine.specs.declared.part.Mark.TheVariants as mark

-- what a register holds after one was set
register-after : (rs : RegistersState) (s r : Reg) (v : WordValue) →
    unwrap_or (cond (is_same_register s r) (Some (mark.Word v)) None) (mark.Word (held_in rs r)) ≡ mark.Word (held_in (with_register rs s v) r)
register-after rs A A v = refl
register-after rs X X v = refl
register-after rs I1 I1 v = refl
register-after rs I2 I2 v = refl
register-after rs I3 I3 v = refl
register-after rs I4 I4 v = refl
register-after rs I5 I5 v = refl
register-after rs I6 I6 v = refl
register-after rs J J v = refl
register-after rs _ _ v = refl

-- and what a cell holds
cell-either : (cells : List WordValue) (p q : ℕ) (v : WordValue) (b : Bool) → (p == q) ≡ b → q < length cells →
    unwrap_or (cond b (Some (mark.Word v)) None) (mark.Word (slice_index_or cells q zero_word)) ≡ mark.Word (slice_index_or (slice_set cells p v) q zero_word)
cell-either cells p q v true e l =
    let same : q ≡ p = grind (arith, nat_tests) in
    ap mark.Word (sym (get_or-set_at cells p q v zero_word same (subst (λ (k : ℕ). k < length cells) same l)))
cell-either cells p q v false e l =
    let other : q ≢ p = grind (arith, nat_tests) in
    ap mark.Word (sym (get_or-set_other cells p q v zero_word other))

-- a unit altered in another part than its time keeps each time
pub until-kept : (us : UnitsState) (n m : ℕ) (u : UnitState) → u.until ≡ (unit_of us n).until →
    (unit_of us m).until ≡ (unit_of (with_unit us n u) m).until
until-kept [] n m u e = refl
until-kept (x ∷ us) zero zero u e = sym e
until-kept (x ∷ us) zero (suc m) u e = refl
until-kept (x ∷ us) (suc n) zero u e = refl
until-kept (x ∷ us) (suc n) (suc m) u e = until-kept us n m u e

until-cut-either : (u : UnitState) (k : ℕ) (m o : Bool) →
    (cond m (record u { blocks = take k u.blocks }) (cond o (record u { rows = take k u.rows }) u)).until ≡ u.until
until-cut-either u k true o = refl
until-cut-either u k false true = refl
until-cut-either u k false false = refl

pub until-cut : (u : UnitState) (k : ℕ) → (cut_to k u).until ≡ u.until
until-cut u k = until-cut-either u k (has_medium u.kind) (has_output u.kind)

-- the time of a unit after one was set
until-either : (us : UnitsState) (n m t : ℕ) (u : UnitState) (b : Bool) → (n == m) ≡ b → u.until ≡ t → m < length us →
    unwrap_or (cond b (Some (mark.Time t)) None) (mark.Time (unit_of us m).until) ≡ mark.Time (unit_of (with_unit us n u) m).until
until-either us n m t u true q e l =
    let same : m ≡ n = grind (arith, nat_tests) in
    ap mark.Time (sym (ap (λ (v : UnitState). v.until) (get_or-set_at us n m u (empty_unit Tape) same (subst (λ (k : ℕ). k < length us) same l)) ∙ e))
until-either us n m t u false q e l =
    let other : m ≢ n = grind (arith, nat_tests) in
    ap (λ (v : UnitState). mark.Time v.until) (sym (get_or-set_other us n m u (empty_unit Tape) other))

-- the mark of a part after a value was put back is the one that the value gives, or else the one before
mark-set_value : (w : WorldState) (o : Old) (part : Part) → IsWorld w → IsPart part →
    unwrap_or (mark_given o part) (mark_of w part) ≡ mark_of (set_value w o) part
mark-set_value w (old.Reg s v) (Register r) h p = register-after w.registers s r v
mark-set_value w (old.Cell a v) (Cell b) h p = cell-either w.cells a b v (a == b) refl (rw h.cells p)
mark-set_value w (old.At n k) (Device m) h p = ap mark.Time (until-kept w.units n m (record (unit_of w.units n) { place = k }) refl)
mark-set_value w (old.Len n k) (Device m) h p = ap mark.Time (until-kept w.units n m (cut_to k (unit_of w.units n)) (until-cut (unit_of w.units n) k))
mark-set_value w (old.Item n i j v) (Device m) h p = ap mark.Time (until-kept w.units n m (with_word (unit_of w.units n) i j v) refl)
mark-set_value w (old.Until n t) (Device m) h p =
    until-either w.units n m t (record (unit_of w.units n) { until = t }) (n == m) refl refl (rw (length-units w.units h.units) p)
mark-set_value w _ Over h p = refl
mark-set_value w _ Indicated h p = refl
mark-set_value w _ Loc h p = refl
mark-set_value w _ Clock h p = refl
mark-set_value w _ _ h p = refl

put-fits : (b : Bool) (w v : WorldState) → then_some b w ≡ Some v → IsTrue b × (w ≡ v)
put-fits true w v e = (refl, cc)
put-fits false w v e = absurd (cc)

mark_before-append : (os : List Old) (o : Old) (part : Part) (m : Mark) →
    mark_before os part (unwrap_or (mark_given o part) m) ≡ mark_before (os ++ o ∷ []) part m
mark_before-append [] o part m = refl
mark_before-append (x ∷ os) o part m = ap (unwrap_or (mark_given x part)) (mark_before-append os o part m)

-- where the last of some values gives a mark, those before it are asked with that one
pub mark_before-last : (olds rest : List Old) (o : Old) (part : Part) (m n : Mark) → olds ≡ rest ++ o ∷ [] → n ≡ unwrap_or (mark_given o part) m →
    mark_before rest part n ≡ mark_before olds part m
mark_before-last olds rest o part m n is given = rw (is, given) (mark_before-append rest o part m)

-- What putting back a list gives, where there is such a state: it is one of the machine, and its marks are those that
-- the values say.
pub record MarksBefore (olds : List Old) (w v : WorldState) : Type 0 where
  pub is_world : IsWorld v
  pub marks : (part : Part) → IsPart part → mark_before olds part (mark_of w part) ≡ mark_of v part

marks-step : (o : Old) (os : List Old) (w v : WorldState) (r : Option WorldState) →
    ((t : WorldState) → r ≡ Some t → MarksBefore os w t) → option_and_then (λ t. put_value t o) r ≡ Some v → MarksBefore (o ∷ os) w v
marks-step o os w v None h e = absurd (cc)
marks-step o os w v (Some t) h e =
    let before = h t refl in
    let fit = put-fits (fits t o) (set_value t o) v e in
    record {
      is_world = subst IsWorld fit.1 (world-set_value t o before.is_world fit.0);
      marks =
          λ part p. ap (unwrap_or (mark_given o part)) (before.marks part p) ∙ mark-set_value t o part before.is_world p ∙ ap (λ (s : WorldState). mark_of s part) fit.1;
    }

pub marks-before : (olds : List Old) (w v : WorldState) → IsWorld w → put_back put_value olds w ≡ Some v → MarksBefore olds w v
marks-before [] w v h e =
    let same : w ≡ v = cc in
    record { is_world = subst IsWorld same h; marks = λ part p. ap (λ (s : WorldState). mark_of s part) same }
marks-before (o ∷ os) w v h e =
    marks-step o os w v (put_back put_value os w) (λ t q. marks-before os w t h q) e
