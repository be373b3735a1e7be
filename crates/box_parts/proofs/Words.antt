-- The two words of a box's parts, a pointer and an allocator, and what is owned beside them.
use Rattle.std.proofs.Common.{◌≡◌, List, [], ◌∷◌, ◌++◌, refl, subst}
use mathlib.Core.Bool.{Bool, true, false, ◌&&◌}
use lib.Dec.{T}
use seplogic.Ra.Ura.{Ura}
use mir.Syntax.{impl, tnil, dnil, ty_ptr}
use mir.Val.{Val, vstruct, vcons, vnil, of_list, has_ty, WT}
use types.Logic.{Logic}
use types.Kit.{Item, Goal, Seq, Step, step, ‵, ◌$◌, move, drop, fsplit, fjoin, fpick, fpack, feq_i, feq_l}
use denote.RattleType.{RattleType, Valss}
use denote.Builtin.{RawPtr}
use denote.RawPtr.{Ptr, ptr_val}
use denote.Steps.{nothing}
use denote.Param.{layout}
use denote.Param.Laws.{Laws}
use denote.Struct.Struct.{within}
use denote.Struct.Owning.{shape}
use Rattle.std.specs.declared.alloc.Allocator.{Ghosts}
use Rattle.std.proofs.alloc.Calls.{Al, handle_tells}
use Rattle.std.proofs.RcSteps.{Ptr-Good}
use Rattle.std.proofs.cell.Inside.{Good}
use Rattle.std.specs.Box.Ownership.{box_owns}
use Rattle.box_parts.specs.contracts.Parts as contract

-- the machine value of two fields
abbrev pub two : Val → Val → Val
two v w = vstruct (vcons v (vcons w vnil))

both_hold : (x y : Bool) → T x → T y → T (x && (y && true))
both_hold true true s t = tt
both_hold true false s t = absurd t
both_hold false y s t = absurd s

module _ (R Z : RattleType) (L : Laws Z) (g : Ghosts Z.Denot) where
  abbrev pub Parts : RattleType
  Parts = contract.the_row R Z g

  abbrev pub al : Al
  al = record { row = Z; laws = L; g = g; d = impl [] tnil dnil; drops = impl [] tnil dnil }

  -- any pointer with a value of the allocator is of the type of two such fields
  pub two_good : (p : Ptr) (h : Val) → Good (layout Z) h → T (has_ty ty_ptr (ptr_val p) && (has_ty (layout Z) h && true)) × WT (two (ptr_val p) h)
  two_good p h fits = (both_hold (has_ty ty_ptr (ptr_val p)) (has_ty (layout Z) h) (Ptr-Good p).0 fits.0, ((Ptr-Good p).1, (fits.1, tt)))

  module _ {M : Type 1} {𝓤 : Ura M} {𝓛 : Logic 𝓤} {K : Type 0} {Γ : List (Item 𝓤)} {G : Goal 𝓤 𝓛.H} where
    -- taken apart: what is owned, and the allocator
    pub parts_out : K → (d : Parts.Denot) (vs : List Val)
        → ((h : Val) → vs ≡ two (ptr_val d.at) h ∷ [] → Good (layout Z) h → Seq K 𝓛 (‵ (box_owns (g.dealloc_token d.alloc) R d.at d.value) ∷ ‵ (Z.own_val d.alloc (h ∷ [])) ∷ Γ) G)
        → Seq K 𝓛 (‵ (Parts.own_val d vs) ∷ Γ) G
    parts_out t d vs k =
        fsplit t $ fpick t (λ vss. fsplit t $ feq_l t (λ is. fsplit t $ feq_l t (λ first. fsplit t $ handle_tells al t d.alloc vss.1.0 (λ h second fits. move t (1 ∷ []) $ drop t $ move t (1 ∷ []) $ k h
        (subst (λ (ws : List Val). vs ≡ vstruct (of_list (ptr_val d.at ∷ (ws ++ []))) ∷ []) second (subst (λ (ps : List Val). vs ≡ vstruct (of_list (ps ++ (vss.1.0 ++ []))) ∷ []) first is)) fits))))

    -- put together
    pub parts_in : K → (p : Ptr) (h : Val) (a : Z.Denot) (x : R.Denot)
        → Step K 𝓛 (‵ (Parts.own_val (record { at = p; alloc = a; value = x }) (two (ptr_val p) h ∷ [])) ∷ Γ) G (‵ (box_owns (g.dealloc_token a) R p x) ∷ ‵ (Z.own_val a (h ∷ [])) ∷ Γ) G
    parts_in t p h a x = step (λ s. let v : Val = two (ptr_val p) h in
        nothing t $ move t (2 ∷ 0 ∷ []) $ fjoin t $ feq_i t (List Val) (ptr_val p ∷ []) (ptr_val p ∷ []) refl $ fjoin t $ feq_i t (List Val) (v ∷ []) (v ∷ []) refl $ fjoin t $
        fpack t (Valss (RawPtr ∷ Z ∷ [])) (within (shape (contract.the_type R Z g)) (p, (a, tt)) (v ∷ [])) (ptr_val p ∷ [], (h ∷ [], tt)) $ fjoin t $ s)
