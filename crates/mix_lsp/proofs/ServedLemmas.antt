-- Turns, one after the other.
use Rattle.std.proofs.Common.{inl, inr, ◌≡◌, ◌+◌, ℕ, Option, None, Some, Result, Ok, Err, List, [], ◌∷◌, ◌++◌, length, refl, sym, ap, ap₂, subst, ◌∙◌, append_assoc, append-nil, length-append}
use Rattle.std.specs.Prelude.{option_to_list}
use Rattle.std.specs.Io.KnownBytes.{prepend_known}
use Rattle.serde_json.specs.Data.{Data}
use Rattle.rpc_stream.specs.Prelude.{Body, HearsBodies, HearsAs, SendsFront, SendsAll}
use Rattle.rpc_stream.specs.declared.broken.Broken.{Broken}
use Rattle.rpc_stream.proofs.SendLemmas.{sends-none, sends-then}
use Rattle.rpc_stream.proofs.Talking.{hears-none, hears-then}
use Rattle.mix_lsp.specs.Protocol.{id_asked, id_in, ids_asked, ids_sent, message_of, phase_after, status_after}
use Rattle.mix_lsp.specs.Served.{AnswersAs, GoOn, IsAnswer, LastAs, Served, ServedAs, Talks, TurnAs, after}
use Rattle.mix_lsp.specs.declared.phase.Phase.{Phase}
use Rattle.mix_lsp.specs.declared.phase.Phase.TheVariants as phase
use Rattle.serde_json.specs.Find.{get}
use Rattle.std.specs.Prelude.{codes}

asked-append : (xs ys : List Body) → ids_asked (xs ++ ys) ≡ ids_asked xs ++ ids_asked ys
asked-append [] ys = refl
asked-append (x ∷ xs) ys =
    let id = option_to_list (id_asked (message_of x)) in
    ap (λ l. id ++ l) (asked-append xs ys) ∙ sym (append_assoc id (ids_asked xs) (ids_asked ys))

sent-append : (xs ys : List Data) → ids_sent (xs ++ ys) ≡ ids_sent xs ++ ids_sent ys
sent-append [] ys = refl
sent-append (x ∷ xs) ys =
    let id = option_to_list (get (codes "id") x) in ap (λ l. id ++ l) (sent-append xs ys) ∙ sym (append_assoc id (ids_sent xs) (ids_sent ys))

sent-one : (message : Option Data) → ids_sent (option_to_list message) ≡ option_to_list (id_in message)
sent-one None = refl
sent-one (Some message) = append-nil (option_to_list (get (codes "id") message))

after-append : (p : Phase) (xs ys : List Body) → after p (xs ++ ys) ≡ after (after p xs) ys
after-append p [] ys = refl
after-append p (x ∷ xs) ys = after-append (phase_after (message_of x) p) xs ys

goes-append : (p : Phase) (xs ys : List Body) → GoOn p xs → GoOn (after p xs) ys → GoOn p (xs ++ ys)
goes-append p [] ys g h = h
goes-append p (x ∷ xs) ys g h = (g.0, goes-append (phase_after (message_of x) p) xs ys g.1 h)

-- nothing is heard and nothing is sent
talks-none : (p : Phase) (old told : Option (List ℕ)) → Talks p p old old told told
talks-none p old told =
    record { frames = []; messages = []; hears = hears-none (λ b. b) old; go_on = tt; reached = refl; answers = refl; sends = sends-none told }

pub talks-zero : (p : Phase) (old told : Option (List ℕ)) → (talks : Talks p p old old told told) × (length talks.frames ≡ 0)
unfolding talks-none
talks-zero p old told = (talks-none p old told, refl)

-- a part, and then another
talks-then : (p q r : Phase) (a b c told mid now : Option (List ℕ)) → Talks p q a b told mid → Talks q r b c mid now → Talks p r a c told now
talks-then p q r a b c told mid now x y = record {
  frames = x.frames ++ y.frames;
  messages = x.messages ++ y.messages;
  hears = hears-then (λ b. b) a b c x.frames y.frames x.hears y.hears;
  go_on = goes-append p x.frames y.frames x.go_on (subst (λ v. GoOn v y.frames) (sym x.reached) y.go_on);
  reached = after-append p x.frames y.frames ∙ ap (λ v. after v y.frames) x.reached ∙ y.reached;
  answers = sent-append x.messages y.messages ∙ ap₂ (λ (l m : List Data). l ++ m) x.answers y.answers ∙ sym (asked-append x.frames y.frames);
  sends = sends-then x.messages y.messages told mid now x.sends y.sends;
}

-- one frame
talks-one : (p q : Phase) (frame : Body) (old new told now : Option (List ℕ)) → HearsBodies old (frame ∷ []) new → AnswersAs (Ok None) frame p q told now
    → Talks p q old new told now
talks-one p q frame old new told now hears is = record {
  frames = frame ∷ [];
  messages = option_to_list is.0;
  hears = hears;
  go_on = (is.2, tt);
  reached = is.3;
  answers = sent-one is.0 ∙ ap (λ (id : Option Data). option_to_list id) is.1 ∙ sym (append-nil (option_to_list (id_asked (message_of frame))));
  sends = is.4;
}

-- a frame is heard, and answered so
pub turned : (result : Result (Option ℕ) Broken) (p q : Phase) (frame : Body) (old new told now : Option (List ℕ)) → HearsBodies old (frame ∷ []) new
    → AnswersAs result frame p q told now → TurnAs result p q old new told now
unfolding talks-one
turned (Ok None) p q frame old new told now hears is = (talks-one p q frame old new told now hears is, refl)
turned (Ok (Some status)) p q frame old new told now hears is =
    inl (record { frame = frame; message = is.0; hears = hears; ends = is.2; answers = is.1; sends = is.4 })
turned (Err why) p q frame old new told now hears is = inr (record { frame = frame; hears = hears; sends = is })

pub not_heard : (why : Broken) (p q : Phase) (old new told : Option (List ℕ)) → HearsAs (Err why) old new → TurnAs (Err why) p q old new told told
not_heard why p q old new told is = inl (is, refl)

pub served : (result : Result ℕ Broken) (p q r : Phase) (a b c told mid now : Option (List ℕ)) (talks : Talks p q a b told mid)
    → LastAs result (length talks.frames) q r b c mid now → Served result p r a c told now
served result p q r a b c told mid now talks last = record { state = q; rest = b; before = mid; talks = talks; last = last }

prepend-nothing : (kept : List ℕ) (known : Option (List ℕ)) → kept ≡ [] → prepend_known kept known ≡ known
prepend-nothing kept None is = refl
prepend-nothing kept (Some text) is = rw is refl

-- One turn more is one frame more: so each turn that goes on counts it.
pub talks-next : (p q r : Phase) (count : ℕ) (a b c told mid now : Option (List ℕ)) → (talks : Talks p q a b told mid) × (length talks.frames ≡ count)
    → TurnAs (Ok None) q r b c mid now → (talks : Talks p r a c told now) × (length talks.frames ≡ count + 1)
unfolding talks-then
talks-next p q r count a b c told mid now x y =
    (talks-then p q r a b c told mid now x.0 y.0, length-append x.0.frames y.0.frames ∙ ap (λ n. n + length y.0.frames) x.1 ∙ ap (λ n. count + n) y.1)

-- from the first byte on, by a server that has heard nothing
pub served-from : (result : Result ℕ Broken) (p r : Phase) (none left : List ℕ) (old rest told now : Option (List ℕ)) → p ≡ phase.New → none ≡ []
    → Served result p r (prepend_known none old) (prepend_known left rest) told now → ServedAs result old rest told now
served-from result p r none left old rest told now fresh nothing is = record {
  state = r;
  left = left;
  served = subst (λ v. Served result v r old (prepend_known left rest) told now) fresh
      (subst (λ o. Served result p r o (prepend_known left rest) told now) (prepend-nothing none old nothing) is);
}

-- ---- how a frame is answered, by what the server says of it and what was sent

pub answers_ok : (end : Option ℕ) (frame : Body) (message : Option Data) (p q : Phase) (told now : Option (List ℕ)) → id_in message ≡ id_asked (message_of frame)
    → end ≡ status_after (message_of frame) p → q ≡ phase_after (message_of frame) p → SendsAll (option_to_list message) told now
    → AnswersAs (Ok end) frame p q told now
answers_ok end frame message p q told now is ends reached sends = (message, is, sym ends, sym reached, sends)

pub answers_front : (why : Broken) (frame : Body) (message : Option Data) (p q : Phase) (told now : Option (List ℕ)) → id_in message ≡ id_asked (message_of frame)
    → SendsFront (option_to_list message) told now → AnswersAs (Err why) frame p q told now
answers_front why frame message p q told now is sends = inr (message, is, sends)

pub answers_nothing : (why : Broken) (frame : Body) (p q : Phase) (told : Option (List ℕ)) → AnswersAs (Err why) frame p q told told
answers_nothing why frame p q told = inl refl

pub ruleset answering = (answers_ok, answers_front, answers_nothing)
