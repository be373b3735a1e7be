-- Messages that are sent one after the other.
use Rattle.std.proofs.Common.{◌≡◌, ℕ, ◌+◌, Option, ◌<◌, List, [], ◌∷◌, ◌++◌, length, get_or, take, refl, ap, ◌∙◌, sym, subst, append_assoc, append-nil}
use Rattle.std.specs.Io.KnownBytes.{Appends}
use Rattle.std.specs.Prelude.{map}
use Rattle.std.proofs.lemmas.List.{map-append, take_more}
use Rattle.std.proofs.KnownBytes.{Appends-nil, Appends-trans}
use Rattle.serde_json.specs.Data.{Data}
use Rattle.rpc_frame.specs.Frame.{frame_of}
use Rattle.rpc_message.specs.Message.{IsTextOf}
use Rattle.rpc_stream.specs.Sent.{AreTextsOf, SendsAll, frames_of}

pub sends-none : (told : Option (List ℕ)) → SendsAll [] told told
sends-none told = ([], tt, Appends-nil told)

pub texts-append : (xs ys : List (List ℕ)) (ms ns : List Data) → AreTextsOf xs ms → AreTextsOf ys ns → AreTextsOf (xs ++ ys) (ms ++ ns)
texts-append [] ys [] ns p q = q
texts-append [] ys (m ∷ ms) ns p q = absurd p
texts-append (x ∷ xs) ys [] ns p q = absurd p
texts-append (x ∷ xs) ys (m ∷ ms) ns p q = (p.0, texts-append xs ys ms ns p.1 q)

pub frames-append : (xs ys : List (List ℕ)) → frames_of (xs ++ ys) ≡ frames_of xs ++ frames_of ys
frames-append [] ys = refl
frames-append (x ∷ xs) ys = rw (frames-append xs ys) (sym (append_assoc (frame_of x) (frames_of xs) (frames_of ys)))

-- messages, and then others
pub sends-then : (ms ns : List Data) (old mid new : Option (List ℕ)) → SendsAll ms old mid → SendsAll ns mid new → SendsAll (ms ++ ns) old new
sends-then ms ns old mid new p q =
    (p.0 ++ q.0, texts-append p.0 q.0 ms ns p.1 q.1, subst (Appends old new) (sym (frames-append p.0 q.0)) (Appends-trans old mid new _ _ p.2 q.2))

-- a text of one
pub sends-one : (message : Data) (text : List ℕ) (told now : Option (List ℕ)) → IsTextOf text message → Appends told now (frame_of text)
    → SendsAll (message ∷ []) told now
sends-one message text told now is sent = (text ∷ [], (is, tt), subst (Appends told now) (sym (append-nil (frame_of text))) sent)

-- messages, and then one more
pub sends-step : {V : Type 0} (f : V → Data) (values : List V) (i : ℕ) (value : V) (old mid new : Option (List ℕ)) → i < length values
    → value ≡ get_or values i value → SendsAll (map f (take i values)) old mid → SendsAll (f value ∷ []) mid new → SendsAll (map f (take (i + 1) values)) old new
sends-step f values i value old mid new below is p q =
    let one = take_more values i value below in
    let split : map f (take (i + 1) values) ≡ map f (take i values) ++ f value ∷ [] =
    ap (map f) one ∙ map-append f (take i values) (get_or values i value ∷ []) ∙ ap (λ v. map f (take i values) ++ f v ∷ []) (sym is) in
    subst (λ ms. SendsAll ms old new) (sym split) (sends-then (map f (take i values)) (f value ∷ []) old mid new p q)

pub ruleset nothing = (sends-none)
