-- What was sent of messages, and of an exchange, where that was broken off.
use Rattle.std.proofs.Common.{◌≡◌, inl, ℕ, ◌+◌, ◌<◌, Option, List, [], ◌∷◌, ◌++◌, length, take, drop, get_or, refl, sym, ap, subst, ◌∙◌, append_assoc, append-nil, arith}
use Rattle.std.specs.Prelude.{map}
use Rattle.std.specs.Io.KnownBytes.{Appends}
use Rattle.std.proofs.KnownBytes.{Appends-nil, Appends-trans}
use Rattle.std.proofs.Math.Seq.{take-append-add}
use Rattle.std.proofs.lemmas.List.{length-append, map-append, take-append-drop, take_more}
use Rattle.serde_json.specs.Data.{Data}
use Rattle.rpc_frame.specs.Frame.{frame_of}
use Rattle.rpc_message.specs.Message.{IsTextOf}
use Rattle.rpc_stream.specs.Prelude.{Frame, Hears, Phase, going, Talks}
use Rattle.rpc_stream.specs.BrokenOff.{Begins, BrokenOff, SendsFront}
use Rattle.rpc_stream.specs.Sent.{SendsAll, frames_of}
use Rattle.rpc_stream.proofs.SendLemmas.{frames-append, sends-one, texts-append}
use Rattle.rpc_stream.proofs.Talking.{talks-none, talks-then}
use Rattle.mix_stream.specs.Stream.{AppendsFront}

-- ---- messages

-- a beginning of bytes that continue others
front-after : (a b c : Option (List ℕ)) (xs ys : List ℕ) → Appends a b xs → AppendsFront b c ys → AppendsFront a c (xs ++ ys)
front-after a b c xs ys first then = (
  length xs + then.0,
  omega (arith, then.1, length-append xs ys),
  subst (Appends a c) (sym (take-append-add xs ys then.0)) (Appends-trans a b c xs (take then.0 ys) first then.2),
)

-- none of them
pub front-none : (messages : List Data) (told : Option (List ℕ)) → SendsFront messages told told
front-none messages told = ([], messages, [], refl, tt, (0, omega arith, Appends-nil told))

-- a beginning of one
pub front-one : (message : Data) (text : List ℕ) (told now : Option (List ℕ)) → IsTextOf text message → AppendsFront told now (frame_of text)
    → SendsFront (message ∷ []) told now
front-one message text told now is begun =
    (message ∷ [], [], text ∷ [], refl, (is, tt), subst (AppendsFront told now) (sym (append-nil (frame_of text))) begun)

-- others follow that are not sent
front-more : (ms ns : List Data) (told now : Option (List ℕ)) → SendsFront ms told now → SendsFront (ms ++ ns) told now
front-more ms ns told now is =
    (is.0, is.1 ++ ns, is.2, ap (λ l. l ++ ns) is.3 ∙ append_assoc is.0 is.1 ns, is.4, is.5)

-- messages, and then a beginning of others
pub front-then : (ms ns : List Data) (told mid now : Option (List ℕ)) → SendsAll ms told mid → SendsFront ns mid now → SendsFront (ms ++ ns) told now
front-then ms ns told mid now first then = (
  ms ++ then.0,
  then.1,
  first.0 ++ then.2,
  ap (λ l. ms ++ l) then.3 ∙ sym (append_assoc ms then.0 then.1),
  texts-append first.0 then.2 ms then.0 first.1 then.4,
  subst (AppendsFront told now) (sym (frames-append first.0 then.2)) (front-after told mid now (frames_of first.0) (frames_of then.2) first.2 then.5),
)

-- of a list all up to one, and a beginning of that
pub front-step : {V : Type 0} (f : V → Data) (values : List V) (i : ℕ) (value : V) (told mid now : Option (List ℕ)) → i < length values
    → value ≡ get_or values i value → SendsAll (map f (take i values)) told mid → SendsFront (f value ∷ []) mid now → SendsFront (map f values) told now
front-step f values i value told mid now below is first one =
    let split : map f values ≡ map f (take (i + 1) values) ++ map f (drop (i + 1) values) =
    ap (map f) (sym (take-append-drop (i + 1) values)) ∙ map-append f (take (i + 1) values) (drop (i + 1) values) in
    let next : map f (take (i + 1) values) ≡ map f (take i values) ++ f value ∷ [] =
    ap (map f) (take_more values i value below) ∙ map-append f (take i values) (get_or values i value ∷ []) ∙ ap (λ v. map f (take i values) ++ f v ∷ []) (sym is) in
    let front = front-then (map f (take i values)) (f value ∷ []) told mid now first one in
    let there = subst (λ ms. SendsFront ms told now) (sym next) front in
    subst (λ ms. SendsFront ms told now) (sym split) (front-more (map f (take (i + 1) values)) (map f (drop (i + 1) values)) told now there)

pub ruleset fronts = (front-none, front-one, sends-one)

-- ---- one exchange

module _ {S : Type 0} (step : Phase S → Frame → List Data → Phase S → Type 0) where
  -- the first exchange is broken off
  pub broken-one : (s : S) (frame : Frame) (messages : List Data) (old new told now : Option (List ℕ)) → Hears old (frame ∷ []) new
      → Begins step s frame messages → SendsFront messages told now → BrokenOff step s old new told now
  broken-one s frame messages old new told now hears begins sends = record {
    state = s;
    count = 0;
    rest = old;
    before = told;
    talks = talks-none step (going s) old told;
    frame = frame;
    hears = hears;
    messages = messages;
    begins = begins;
    sends = sends;
  }

  -- before anything is sent
  pub broken-unsent : (s : S) (frame : Frame) (old new told : Option (List ℕ)) → Hears old (frame ∷ []) new → BrokenOff step s old new told told
  broken-unsent s frame old new told hears = broken-one s frame [] old new told told hears (inl refl) (front-none [] told)

  -- after a part of a talk
  pub broken-after : (s m : S) (count : ℕ) (a b c told mid now : Option (List ℕ)) → Talks step (going s) (going m) count a b told mid
      → BrokenOff step m b c mid now → BrokenOff step s a c told now
  broken-after s m count a b c told mid now part end = record {
    state = end.state;
    count = count + end.count;
    rest = end.rest;
    before = end.before;
    talks = talks-then step (going s) (going m) (going end.state) count end.count a b end.rest told mid end.before part end.talks;
    frame = end.frame;
    hears = end.hears;
    messages = end.messages;
    begins = end.begins;
    sends = end.sends;
  }
