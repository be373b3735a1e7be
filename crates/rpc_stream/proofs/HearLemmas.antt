-- What is heard of the bytes that were read is heard of all bytes.
use Rattle.std.proofs.Common.{◌≡◌, ℕ, Option, None, Some, Result, Ok, Err, List, [], ◌∷◌, ◌++◌, refl, sym, ap, subst, ◌∙◌, append_assoc, append-nil}
use Rattle.std.specs.Io.KnownBytes.{Consumes, IsAtEnd, Keeps, prepend_known}
use Rattle.std.proofs.KnownBytes.{Keeps-refl, Keeps-trans}
use Rattle.rpc_frame.specs.Frame.{First, whole, without_length, partial, too_long, first_frame}
use Rattle.rpc_frame.specs.Longer.{Longer}
use Rattle.rpc_frame.proofs.Growing.{longer}
use Rattle.rpc_stream.specs.Prelude.{Broken, Body}
use Rattle.rpc_stream.specs.declared.broken.Broken.TheVariants as broken
use Rattle.rpc_stream.specs.Heard.{BeginsWith, HearsBodies}
use Rattle.rpc_stream.specs.Hearing.{HearsAs, IsOver, IsNotOver, OnlyBegins}
use Rattle.rpc_stream.specs.declared.hear.Heard.{Heard}
use Rattle.rpc_stream.specs.declared.hear.Heard.TheVariants as heard

-- ---- the bytes that were read, and those that follow

known-first : (text rest more : List ℕ) (frame : Body) (next : First) → next ≡ first_frame (text ++ more) → BeginsWith (λ b. b) next frame (rest ++ more)
    → HearsBodies (Some (text ++ more)) (frame ∷ []) (Some (rest ++ more))
known-first text rest more frame next e is = (rest ++ more, subst (λ n. BeginsWith (λ b. b) n frame (rest ++ more)) e is, refl)

-- a whole frame is heard
pub hears-body : (text body rest : List ℕ) (frame : Body) → first_frame text ≡ whole body rest → frame ≡ Some body
    → (more : Option (List ℕ)) → HearsBodies (prepend_known text more) (frame ∷ []) (prepend_known rest more)
hears-body text body rest frame is same None = tt
hears-body text body rest frame is same (Some more) =
    let next = subst (λ f. Longer f more (first_frame (text ++ more))) is (longer text more) in
    known-first text rest more frame (whole body (rest ++ more)) (sym next) (same, refl)

pub hears-no_length : (text rest : List ℕ) → first_frame text ≡ without_length rest
    → (more : Option (List ℕ)) → HearsBodies (prepend_known text more) (None ∷ []) (prepend_known rest more)
hears-no_length text rest is None = tt
hears-no_length text rest is (Some more) =
    let next = subst (λ f. Longer f more (first_frame (text ++ more))) is (longer text more) in
    known-first text rest more None (without_length (rest ++ more)) (sym next) (refl, refl)

pub hears-too_long : (text : List ℕ) → first_frame text ≡ too_long → (more : Option (List ℕ)) → OnlyBegins too_long (prepend_known text more)
hears-too_long text is None = tt
hears-too_long text is (Some more) = subst (λ f. Longer f more (first_frame (text ++ more))) is (longer text more)

-- ---- more bytes are read

-- the bytes that are still to be heard are the same after a read
pub read-keeps : (bytes part : List ℕ) (old new : Option (List ℕ)) → Consumes old new part → Keeps (prepend_known bytes old) (prepend_known (bytes ++ part) new)
read-keeps bytes part None new is = tt
read-keeps bytes part (Some all) None is = absurd is
read-keeps bytes part (Some all) (Some left) is = append_assoc bytes part left ∙ ap (λ l. bytes ++ l) (sym is)

hears-kept : (a b c : Option (List ℕ)) (frames : List Body) → Keeps a b → HearsBodies b frames c → HearsBodies a frames c
hears-kept None b c frames same is = tt
hears-kept (Some text) None c frames same is = absurd same
hears-kept (Some text) (Some same_text) None frames same is = is
hears-kept (Some text) (Some same_text) (Some left) frames same is = subst (λ t. HearsBodies (Some t) frames (Some left)) same is

only-kept : (first : First) (a b : Option (List ℕ)) → Keeps a b → OnlyBegins first b → OnlyBegins first a
only-kept first None b same is = tt
only-kept first (Some text) None same is = absurd same
only-kept first (Some text) (Some same_text) same is = ap first_frame (sym same) ∙ is

over-kept : (a b : Option (List ℕ)) → Keeps a b → IsOver b → IsOver a
over-kept None b same is = tt
over-kept (Some text) None same is = absurd same
over-kept (Some text) (Some same_text) same is = sym same ∙ is

not_over-kept : (a b : Option (List ℕ)) → Keeps a b → IsNotOver b → IsNotOver a
not_over-kept None b same is = tt
not_over-kept (Some text) None same is = absurd same
not_over-kept (Some text) (Some same_text) same is = λ e. is (same ∙ e)

-- what is heard after a read is heard before it
pub heard-kept : (result : Result Heard Broken) (a b c : Option (List ℕ)) → Keeps a b → HearsAs result b c → HearsAs result a c
heard-kept (Ok (heard.Frame body)) a b c same is = hears-kept a b c _ same is
heard-kept (Ok heard.End) a b c same is = (over-kept a b same is.0, hears-kept a b c _ same is.1)
heard-kept (Err broken.Cut) a b c same is = (only-kept partial a b same is.0, not_over-kept a b same is.1)
heard-kept (Err broken.TooLong) a b c same is = only-kept too_long a b same is
heard-kept (Err broken.Read) a b c same is = Keeps-trans a b c same is
heard-kept (Err broken.Memory) a b c same is = Keeps-trans a b c same is
heard-kept (Err broken.Write) a b c same is = is

-- ---- the end

pub end-known : (bytes part : List ℕ) (old new : Option (List ℕ)) → Consumes old new part → part ≡ [] → IsAtEnd new
    → (P : Option (List ℕ) → Option (List ℕ) → Type 0) → ((other : Option (List ℕ)) → P None other) → P (Some bytes) (Some bytes)
    → P (prepend_known bytes old) (prepend_known bytes new)
end-known bytes part None new is none end P unknown known = unknown _
end-known bytes part (Some all) None is none end P unknown known = absurd is
end-known bytes part (Some all) (Some left) is none end P unknown known =
    let nothing : all ≡ [] = is ∙ ap (λ l. l ++ left) none ∙ end in
    rw (nothing, end, append-nil) known

pub ruleset frames = (hears-body, hears-no_length, hears-too_long)

pub ruleset hearing = (Keeps-refl, Keeps-trans, read-keeps, heard-kept)
