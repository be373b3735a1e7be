-- The two words of a `Held`, a pointer and an allocator, and what is owned beside them.
use Rattle.std.proofs.Common.{◌≡◌, List, [], ◌∷◌, ◌++◌, refl, sym, subst, true≢false}
use seplogic.Ra.Ura.{Ura}
use mir.Val.{Val, vstruct, of_list}
use types.Logic.{Logic}
use types.Kit.{Item, Goal, Seq, Step, step, ‵, ◌$◌, move, drop, fsplit, fjoin, fpick, fpack, feq_i, feq_l}
use denote.RattleType.{RattleType, Valss}
use denote.RawPtr.{Ptr, ptr_val}
use denote.Steps.{nothing}
use denote.Param.{layout}
use denote.Param.Laws.{Laws}
use denote.Struct.Struct.{within}
use denote.Struct.Owning.{shape, fields, to}
use Rattle.std.specs.Prelude.{Option, Some, None, IsSome}
use Rattle.std.proofs.alloc.Calls.{handle_tells}
use Rattle.std.proofs.cell.Inside.{Good}
use Rattle.std.specs.contracts.alloc.Global as heap
use Rattle.std.proofs.alloc.Global.TheLaws as heap_laws
use Rattle.std.specs.contracts.impls.GlobalAllocator.TheImpl.{ghosts}
use Rattle.box_parts.proofs.Words as words
use Rattle.page.specs.Owned.{owned}
use Rattle.page.specs.contracts.engine.Engine as engine
use Rattle.page.specs.contracts.held.Held as held

abbrev pub S : RattleType
S = engine.the_row

abbrev pub Z : RattleType
Z = heap.the_row

pub LZ : Laws Z
LZ = heap_laws.the_row_laws

abbrev pub Parts : RattleType
Parts = words.Parts S Z LZ ghosts

abbrev pub Held : RattleType
Held = held.the_row

pub some_of : {X : Type 0} (o : Option X) → IsSome o → (x : X) × (o ≡ Some x)
some_of None is = absurd (true≢false (sym is))
some_of (Some x) is = (x, refl)

module _ {M : Type 1} {𝓤 : Ura M} {𝓛 : Logic 𝓤} {K : Type 0} {Γ : List (Item 𝓤)} {G : Goal 𝓤 𝓛.H} where
  -- taken apart: what is owned, and the allocator
  pub held_out : K → (d : Held.Denot) (vs : List Val)
      → ((h : Val) → vs ≡ words.two (ptr_val d.at) h ∷ [] → Good (layout Z) h → Seq K 𝓛 (‵ (owned d.alloc d.at d.value) ∷ ‵ (Z.own_val d.alloc (h ∷ [])) ∷ Γ) G)
      → Seq K 𝓛 (‵ (Held.own_val d vs) ∷ Γ) G
  held_out t d vs k =
      fsplit t $ fpick t (λ vss. fsplit t $ feq_l t (λ is. fsplit t $ feq_l t (λ first. fsplit t $ handle_tells (words.al S Z LZ ghosts) t d.alloc vss.1.0 (λ h second fits. move t (1 ∷ []) $ drop t $ move t (1 ∷ []) $ k h
      (subst (λ (ws : List Val). vs ≡ vstruct (of_list (ptr_val d.at ∷ (ws ++ []))) ∷ []) second (subst (λ (ps : List Val). vs ≡ vstruct (of_list (ps ++ (vss.1.0 ++ []))) ∷ []) first is)) fits))))

  -- put together
  pub held_in : K → (p : Ptr) (h : Val) (a : Z.Denot) (o : Option S.Denot)
      → Step K 𝓛 (‵ (Held.own_val (record { at = p; alloc = a; value = o }) (words.two (ptr_val p) h ∷ [])) ∷ Γ) G (‵ (owned a p o) ∷ ‵ (Z.own_val a (h ∷ [])) ∷ Γ) G
  held_in t p h a o = step (λ s. let v : Val = words.two (ptr_val p) h in
      nothing t $ move t (2 ∷ 0 ∷ []) $ fjoin t $ feq_i t (List Val) (ptr_val p ∷ []) (ptr_val p ∷ []) refl $ fjoin t $ feq_i t (List Val) (v ∷ []) (v ∷ []) refl $ fjoin t $
      fpack t (Valss (fields held.the_type)) (within (shape held.the_type) (to held.the_type (record { at = p; alloc = a; value = o })) (v ∷ [])) (ptr_val p ∷ [], (h ∷ [], tt)) $ fjoin t $ s)
