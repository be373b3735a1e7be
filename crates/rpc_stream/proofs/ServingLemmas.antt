-- What is sent for a frame, and a talk made of such exchanges.
use Rattle.std.proofs.Common.{inl, inr, ℕ, ◌+◌, ◌-◌, ◌≤◌, ◌^◌, Option, None, Some, Ok, Err, List, refl, sym, subst, arith}
use Rattle.serde_json.specs.Data.{Data}
use Rattle.rpc_message.specs.declared.request.Request.{Request}
use Rattle.rpc_stream.specs.Prelude.{Frame, IsMemoryOrWrite, BrokenOff, SendsFront, HearsAs, SendsAll, Phase, going, over, Steps, Takes, Talks, Broken, Turn}
use Rattle.rpc_stream.specs.Talked.{Ended, IsEnd, Stuck, TakenAs, TalkedAs, TurnAs}
use Rattle.rpc_stream.specs.declared.broken.Broken.TheVariants as broken
use Rattle.rpc_stream.specs.declared.hear.Heard.TheVariants as heard
use Rattle.rpc_stream.specs.declared.serves.Turn.TheVariants as turn
use Rattle.rpc_stream.proofs.BrokenLemmas.{broken-after, broken-one, broken-unsent}
use Rattle.rpc_stream.proofs.Talking.{talks-none, talks-one, talks-then}

-- ---- one exchange

module _ {B : Type 0} (serves : B × ℕ → Request → List Data → Turn → B × ℕ → Type 0) where
  abbrev S : Type 0
  S = B × ℕ

  abbrev step : Phase S → Frame → List Data → Phase S → Type 0
  step = Steps serves

  stepped : (next : Turn) (s t : S) (frame : Frame) (told : List Data) → Takes serves s frame told next t → (to : Phase S) × step (going s) frame told to
  stepped turn.On s t frame told is = (going t, is)
  stepped turn.Over s t frame told is = (over t, is)

  -- a frame is answered, and its answer is sent
  pub went : (next : Turn) (s t : S) (waiting : List Data) (old new told now : Option (List ℕ)) → TakenAs serves (Ok (Some next)) s t old new waiting
      → SendsAll waiting told now → TurnAs serves (Ok next) s t old new told now
  went turn.On s t waiting old new told now is sends =
      talks-one step (going s) (going t) is.0 old new told now is.1 (waiting, is.2, sends)
  went turn.Over s t waiting old new told now is sends = record {
    phase = over t;
    count = 1;
    rest = new;
    talks = talks-one step (going s) (over t) is.0 old new told now is.1 (waiting, is.2, sends);
    state = refl;
    end = refl;
  }

  at-end : (s : S) (old new told : Option (List ℕ)) → HearsAs (Ok heard.End) old new → Ended step s s old new told told
  at-end s old new told is = record {
    phase = going s;
    count = 0;
    rest = old;
    talks = talks-none step (going s) old told;
    state = refl;
    end = inl is;
  }

  stuck : (why : Broken) (s : S) (old new told : Option (List ℕ)) → HearsAs (Err why) old new → Stuck step why s old new told told
  stuck why s old new told is = record { state = s; count = 0; rest = old; talks = talks-none step (going s) old told; breaks = is }

  -- what breaks it off before anything is sent
  broken-first : (why : Broken) (s t : S) (old new told : Option (List ℕ)) → HearsAs (Err why) old new
      → TurnAs serves (Err why) s t old new told told
  broken-first broken.Cut s t old new told is = stuck broken.Cut s old new told is
  broken-first broken.TooLong s t old new told is = stuck broken.TooLong s old new told is
  broken-first broken.Read s t old new told is = stuck broken.Read s old new told is
  broken-first broken.Write s t old new told is = absurd is
  broken-first broken.Memory s t old new told is = inl (stuck broken.Memory s old new told is)

  -- and after that
  broken-later : (why : Broken) (s t : S) (old new told now : Option (List ℕ)) → IsMemoryOrWrite why
      → BrokenOff step s old new told now → TurnAs serves (Err why) s t old new told now
  broken-later broken.Cut s t old new told now is off = absurd is
  broken-later broken.TooLong s t old new told now is off = absurd is
  broken-later broken.Read s t old new told now is off = absurd is
  broken-later broken.Write s t old new told now is off = off
  broken-later broken.Memory s t old new told now is off = inr off

  -- of its answer a beginning is sent
  pub went-off : (why : Broken) (next : Turn) (s t u : S) (waiting : List Data) (old new told now : Option (List ℕ)) → IsMemoryOrWrite why
      → TakenAs serves (Ok (Some next)) s t old new waiting → SendsFront waiting told now → TurnAs serves (Err why) s u old new told now
  went-off why next s t u waiting old new told now only is sends =
      broken-later why s u old new told now only
      (broken-one step s is.0 waiting old new told now is.1 (inr (stepped next s t is.0 waiting is.2)) sends)

  -- what breaks it off before its answer waits
  pub taken-off : (why : Broken) (s t : S) (waiting : List Data) (old new told : Option (List ℕ)) → TakenAs serves (Err why) s t old new waiting
      → TurnAs serves (Err why) s t old new told told
  taken-off why s t waiting old new told (inl is) = broken-first why s t old new told is
  taken-off why s t waiting old new told (inr is) =
      broken-later why s t old new told told (subst IsMemoryOrWrite (sym is.0) tt) (broken-unsent step s is.1 old new told is.2)

  -- nothing more is heard
  pub taken-end : (s t : S) (waiting : List Data) (old new told : Option (List ℕ)) → TakenAs serves (Ok None) s t old new waiting
      → TurnAs serves (Ok turn.Over) s t old new told told
  taken-end s t waiting old new told is = subst (λ v. Ended step s v old new told told) (sym is.1) (at-end s old new told is.0)

  -- ---- after a part of a talk

  pub ended-then : (s m t : S) (count : ℕ) (a b c told mid now : Option (List ℕ)) → Talks step (going s) (going m) count a b told mid
      → Ended step m t b c mid now → Ended step s t a c told now
  ended-then s m t count a b c told mid now part end = record {
    phase = end.phase;
    count = count + end.count;
    rest = end.rest;
    talks = talks-then step (going s) (going m) end.phase count end.count a b end.rest told mid now part end.talks;
    state = end.state;
    end = end-then end.phase end.count end.rest c end.end;
  } where
    end-then : (phase : Phase S) (more : ℕ) (left new : Option (List ℕ)) → IsEnd phase more left new → IsEnd phase (count + more) left new
    end-then (going v) more left new (inl is) = inl is
    end-then (going v) more left new (inr is) = inr (omega (arith, is.0), is.1)
    end-then (over v) more left new is = is

  stuck-then : (why : Broken) (s m : S) (count : ℕ) (a b c told mid now : Option (List ℕ)) → Talks step (going s) (going m) count a b told mid
      → Stuck step why m b c mid now → Stuck step why s a c told now
  stuck-then why s m count a b c told mid now part end = record {
    state = end.state;
    count = count + end.count;
    rest = end.rest;
    talks = talks-then step (going s) (going m) (going end.state) count end.count a b end.rest told mid now part end.talks;
    breaks = end.breaks;
  }

  pub broken-then : (why : Broken) (s m t : S) (count : ℕ) (a b c told mid now : Option (List ℕ))
      → Talks step (going s) (going m) count a b told mid → TurnAs serves (Err why) m t b c mid now
      → TalkedAs serves (Err why) s t a c told now
  broken-then broken.Cut s m t count a b c told mid now part end = stuck-then broken.Cut s m count a b c told mid now part end
  broken-then broken.TooLong s m t count a b c told mid now part end = stuck-then broken.TooLong s m count a b c told mid now part end
  broken-then broken.Read s m t count a b c told mid now part end = stuck-then broken.Read s m count a b c told mid now part end
  broken-then broken.Write s m t count a b c told mid now part end = broken-after step s m count a b c told mid now part end
  broken-then broken.Memory s m t count a b c told mid now part (inl end) = inl (stuck-then broken.Memory s m count a b c told mid now part end)
  broken-then broken.Memory s m t count a b c told mid now part (inr end) =
      inr (broken-after step s m count a b c told mid now part end)

  pub talk-next : (s m t : S) (count : ℕ) (a b c told mid now : Option (List ℕ)) → Talks step (going s) (going m) count a b told mid
      → Talks step (going m) (going t) 1 b c mid now → Talks step (going s) (going t) (count + 1) a c told now
  talk-next s m t count a b c told mid now part next = talks-then step (going s) (going m) (going t) count 1 a b c told mid now part next

  -- as many as are counted
  pub counted-out : (s t : S) (count : ℕ) (old new told now : Option (List ℕ)) → 2 ^ 64 - 1 ≤ count → Talks step (going s) (going t) count old new told now
      → Ended step s t old new told now
  counted-out s t count old new told now many talks =
      record { phase = going t; count = count; rest = new; talks = talks; state = refl; end = inr (many, refl) }
