-- What some lines of a talk do, and then some more: what is said of the parts holds of the whole.
use Rattle.std.proofs.Common.{◌≡◌, ◌∙◌, ◌<◌, ◌+◌, ◌||◌, ℕ, Bool, true, false, List, [], ◌∷◌, ◌++◌, append_assoc, length, Option, Some, Result, Ok, Err, refl, sym, ap, ap₂, subst, arith, inl, inr, true≢false}
use Rattle.std.specs.Prelude.{IfOk}
use Rattle.std.proofs.lemmas.List.{append-nil, length-append}
use Rattle.std.proofs.lemmas.List.Folds.{list_any-append}
use Rattle.std.specs.List.{list_any}
use Rattle.std.specs.Io.KnownBytes.{Appends}
use Rattle.mix_lines.specs.Lines.{is_line_feed, lines, lines-nil, words}
use Rattle.mix_session.specs.Prelude.{told_of_both}
use Rattle.mix_session.specs.declared.reply.Told.{Told}
use Rattle.mix_session.specs.declared.reply.Told.TheVariants.{Accepted}
use Rattle.mix_stream.specs.Stream.{AppendsFront}
use Rattle.mix_run.specs.Prelude.{IsMemoryOrWrite, Files, Saved, ToolFault, Talker, Moment}
use Rattle.mix_run.specs.Hearing.{Answered, Hears}
use Rattle.mix_run.specs.Reload.{moment_of}
use Rattle.mix_run.specs.Sources.{Knows, act_of, lines_under, reads_file}
use Rattle.mix_run.specs.Stretch.{answer_of, each_line, joined, silent, talk_of, typed_line}
use Rattle.mix_run.specs.Talk.{AnswersRead, TalksTo, is_too_long, is_whole, max_line_bytes}
use Rattle.mix_run.specs.declared.fault.ToolFault.TheVariants as faults
use Rattle.mix_person.specs.Person.{name_in}
use Rattle.mix_run.specs.declared.talk.heard.Heard.{Heard}
use Rattle.mix_run.specs.declared.talk.heard.Act.TheVariants as act
use Rattle.mix_run.proofs.StretchLemmas.{Answered-as, Answered-begun, Answered-nothing, Answered-over, Answered-then, each-append, joined-end, then-more}
use Rattle.std.proofs.lemmas.Bool.{or_parts, or_right}
use Rattle.mix_run.proofs.TalkLemmas.{lines-append, long-first, whole-append}

-- ---- what is known of lines

-- what is known of some lines is known of each part
pub Knows-parts : (held : Option Files) (all : Files) (talker : Talker) (xs ys : List (List ℕ)) → Knows held all talker (xs ++ ys)
    → Knows held all talker xs × Knows held all talker ys
Knows-parts held all talker xs ys (inl is) = (inl is, inl is)
Knows-parts held all talker xs ys (inr none) =
    let both = or_parts _ _ (sym (list_any-append (reads_file talker) xs ys) ∙ none) in (inr both.0, inr both.1)

pub Knows-same : (held old : Option Files) (all : Files) (talker : Talker) (xs ys : List (List ℕ)) → held ≡ old → xs ≡ ys → Knows old all talker xs
    → Knows held all talker ys
Knows-same held old all talker xs ys is same (inl known) = inl (is ∙ known)
Knows-same held old all talker xs ys is same (inr none) = inr (ap (list_any (reads_file talker)) (sym same) ∙ none)

-- of the next line is known what is known of all
pub Knows-line : (held later : Option Files) (all : Files) (talker : Talker) (front whole after : List (List ℕ)) (line : List ℕ) → later ≡ held
    → whole ≡ front ++ (line ∷ after) → Knows held all talker whole → Knows later all talker (line ∷ [])
Knows-line held later all talker front whole after line same cut known =
    let parts = Knows-parts held all talker front (line ∷ after) (Knows-same held held all talker whole (front ++ (line ∷ after)) refl cut known) in
    Knows-same later held all talker (line ∷ []) (line ∷ []) same refl (Knows-parts held all talker (line ∷ []) after parts.1).0

-- of a line that sources a file or reloads it is known what the files hold
pub known-of : (held : Option Files) (all : Files) (talker : Talker) (line : List ℕ) → reads_file talker line ≡ true → Knows held all talker (line ∷ []) → held ≡ Some all
known-of held all talker line reads (inl is) = is
known-of held all talker line reads (inr none) = absurd (true≢false (sym (ap (λ v. v || false) reads) ∙ none))

-- ---- one typed line

-- the moment, of which each part is known
pub moment-is : (m now : Moment) → now.session ≡ m.session → now.recall ≡ m.recall → now.origin ≡ m.origin → now ≡ m
moment-is m now session recall origin = ap₂ (λ x y. moment_of x y now.origin) session recall ∙ ap (moment_of m.session m.recall) origin

-- the lines of a file were answered
pub answered-source : (c d : Option (List Saved)) (a b : Option (List ℕ)) (all : Files) (talker : Talker) (m now : Moment) (line : List ℕ)
    (xs : List (List ℕ)) (result : Result Heard ToolFault) → act_of talker line ≡ act.Source → d ≡ c → xs ≡ lines_under all (name_in (words line))
    → IfOk result (λ h. Answered (each_line (answer_of talker) m xs) now h.told h.is_over d d a b)
    → IfOk result (λ h. Answered (typed_line all talker m line) now h.told h.is_over c d a b)
answered-source c d a b all talker m now line xs result is unsaved same h =
    rw (is, sym unsaved, sym same) h

-- ---- parts of a text

-- nothing was heard yet
pub Hears-nothing : {held : Option Files} {d : Option (List Saved)} (m now : Moment) (talker : Talker) (left : List ℕ)
    (told : Told) (a : Option (List ℕ)) → now ≡ m → left ≡ [] → told ≡ Accepted → Hears held m talker [] left now told false d d a a
unfolding lines
Hears-nothing m now talker left told a same none is = record {
  front = [];
  parts = sym none;
  whole = refl;
  part = ap (list_any is_line_feed) none;
  answered = λ all known. Answered-nothing m now told a same is;
}

-- the whole lines among some bytes are answered
pub Hears-lines : {held : Option Files} {d f : Option (List Saved)} (m : Moment) (talker : Talker)
    (bytes text left given : List ℕ) (now : Moment) (said : Told) (ends : Bool) (a b : Option (List ℕ)) → bytes ≡ text ++ left
    → is_whole text ≡ true → list_any is_line_feed left ≡ false → given ≡ text
    → ((all : Files) → Knows held all talker (lines given) → Answered (talk_of all m talker (lines given)) now said ends d f a b)
    → Hears held m talker bytes left now said ends d f a b
Hears-lines m talker bytes text left given now said ends a b parts whole part is answered = record {
  front = given;
  parts = parts ∙ ap (λ t. t ++ left) (sym is);
  whole = ap is_whole is ∙ whole;
  part = part;
  answered = answered;
}

-- what was heard before, and what was heard then
pub Hears-then : {held later_held : Option Files} {d e f : Option (List Saved)} (m mid now : Moment) (talker : Talker)
    (bytes left part later : List ℕ) (told more : Told) (ends : Bool) (a b c : Option (List ℕ)) → later_held ≡ held
    → Hears held m talker bytes left mid told false d e a b → Hears later_held mid talker (left ++ part) later now more ends e f b c
    → Hears held m talker (bytes ++ part) later now (told_of_both told more) ends d f a c
Hears-then {held} {later_held} m mid now talker bytes left part later told more ends a b c same h k =
    let cut = lines-append h.front k.front h.whole in
    record {
      front = h.front ++ k.front;
      parts = ap (λ t. t ++ part) h.parts ∙ append_assoc h.front left part ∙ ap (λ t. h.front ++ t) k.parts ∙ sym (append_assoc h.front k.front later);
      whole = whole-append h.front k.front h.whole k.whole;
      part = k.part;
      answered = λ all known.
          let parts = Knows-parts held all talker (lines h.front) (lines k.front) (Knows-same held held all talker _ _ refl cut known) in
          let before = h.answered all parts.0 in
          Answered-as (told_of_both told more) (told_of_both told more) ends ends
          (then-more (typed_line all talker) m (lines h.front) (lines k.front) before ∙ ap (talk_of all m talker) (sym cut)) refl refl
          (Answered-then told more ends before (k.answered all (Knows-same later_held held all talker _ _ same refl parts.1)));
    }

-- the talk goes on
pub Hears-on : {held : Option Files} {d f : Option (List Saved)} (m now : Moment) (talker : Talker)
    (bytes left : List ℕ) (told said : Told) (ends : Bool) (a b : Option (List ℕ)) → Hears held m talker bytes left now told ends d f a b
    → ends ≡ false → said ≡ told → Hears held m talker bytes left now said false d f a b
Hears-on m now talker bytes left told said ends a b h on is = record {
  front = h.front;
  parts = h.parts;
  whole = h.whole;
  part = h.part;
  answered = λ all known. Answered-as told said ends false refl is on (h.answered all known);
}

-- ---- the text of the whole talk

pub Talks-begun : (all : Files) (m : Moment) (talker : Talker) (t : List ℕ) (fault : ToolFault) (left old new : Option (List ℕ)) → IsMemoryOrWrite fault
    → AppendsFront old new (talk_of all m talker (lines t)).bytes → TalksTo all m talker t (Err fault) left old new
Talks-begun all m talker t faults.Memory left old new only begun = (Err faults.Memory, refl, begun)
Talks-begun all m talker t faults.Write left old new only begun = (Err faults.Write, refl, begun)
Talks-begun all m talker t faults.Read left old new only begun = absurd only
Talks-begun all m talker t (faults.Deck fault) left old new only begun = absurd only
Talks-begun all m talker t faults.Long left old new only begun = absurd only

-- the lines of a text of which whole ones come first
two-lines : (t front rest : List ℕ) → t ≡ front ++ rest → is_whole front ≡ true → lines t ≡ lines front ++ lines rest
two-lines t front rest e whole = ap lines e ∙ lines-append front rest whole

module _ {held : Option Files} {d f : Option (List Saved)} (m now : Moment) (talker : Talker)
    (bytes left : List ℕ) (told : Told) (ends : Bool) (a b : Option (List ℕ)) (h : Hears held m talker bytes left now told ends d f a b) where
  text-parts : (t rest : List ℕ) → t ≡ bytes ++ rest → t ≡ h.front ++ (left ++ rest)
  text-parts t rest e = e ∙ ap (λ l. l ++ rest) h.parts ∙ append_assoc h.front left rest

  -- a part of a line that is longer than a line may be
  pub too-long : max_line_bytes + 2 < length left → (t rest : List ℕ) → t ≡ bytes ++ rest → list_any is_too_long (lines t) ≡ true
  too-long over t rest e =
      ap (list_any is_too_long) (two-lines t h.front (left ++ rest) (text-parts t rest e) h.whole)
      ∙ list_any-append is_too_long (lines h.front) (lines (left ++ rest))
      ∙ ap (λ v. list_any is_too_long (lines h.front) || v) (long-first left rest h.part over) ∙ or_right (list_any is_too_long (lines h.front)) true refl

  -- and the text has more bytes than a line may have
  pub long-text : max_line_bytes + 2 < length left → (t rest : List ℕ) → t ≡ bytes ++ rest → max_line_bytes < length t
  long-text over t rest e = rw (text-parts t rest e, length-append, length-append) (omega (arith, over))

  module _ (all : Files) (t rest : List ℕ) (e : t ≡ bytes ++ rest) (known : Knows held all talker (lines t)) where
    whole-lines : lines t ≡ lines h.front ++ lines (left ++ rest)
    whole-lines = two-lines t h.front (left ++ rest) (text-parts t rest e) h.whole

    pub parts-known : Knows held all talker (lines h.front) × Knows held all talker (lines (left ++ rest))
    parts-known = Knows-parts held all talker (lines h.front) (lines (left ++ rest)) (Knows-same held held all talker _ _ refl whole-lines known)

    abbrev answered-front : Answered (talk_of all m talker (lines h.front)) now told ends d f a b
    answered-front = h.answered all parts-known.0

    -- and more typed lines
    whole-talk : joined (talk_of all m talker (lines h.front)) (talk_of all now talker (lines (left ++ rest))) ≡ talk_of all m talker (lines t)
    whole-talk = then-more (typed_line all talker) m (lines h.front) (lines (left ++ rest)) answered-front ∙ ap (talk_of all m talker) (sym whole-lines)

    -- a line ended the talk
    pub ended : ends ≡ true → Answered (talk_of all m talker (lines t)) now told ends d f a b
    ended over =
        Answered-as told told ends ends whole-talk refl refl (Answered-over (talk_of all now talker (lines (left ++ rest))) told ends over answered-front)

    -- no more is read
    unread : (new : Option (List ℕ)) → new ≡ Some rest → AnswersRead all m talker t new a b
    unread new is = (h.front, left, rest, is, text-parts t rest e, h.whole, h.part, answered-front.written)

    pub unread-failed : (new : Option (List ℕ)) → new ≡ Some rest → TalksTo all m talker t (Err faults.Read) new a b
    unread-failed new is = (Err faults.Read, refl, unread new is)

    pub unread-long : (new : Option (List ℕ)) → new ≡ Some rest → TalksTo all m talker t (Err faults.Long) new a b
    unread-long new is = (Err faults.Long, refl, unread new is)

-- the last line, which has no line feed, at the end of the text; and whole lines of which the answers are begun
module _ {held later_held : Option Files} {d e : Option (List Saved)} (m mid : Moment) (talker : Talker)
    (bytes left : List ℕ) (told : Told) (a b : Option (List ℕ)) (h : Hears held m talker bytes left mid told false d e a b)
    (same : later_held ≡ held) (all : Files) (t : List ℕ) (known : Knows held all talker (lines t)) where
  module _ (text : List ℕ) (here : t ≡ bytes ++ []) (is : text ≡ left) where
    end-lines : lines (left ++ []) ≡ lines text
    end-lines = ap lines (append-nil left ∙ sym is)

    pub end-known : Knows later_held all talker (lines text)
    end-known = Knows-same later_held held all talker _ _ same end-lines (parts-known m mid talker bytes left told false a b h all t [] here known).1

    before : Answered (talk_of all m talker (lines h.front)) mid told false d e a b
    before = h.answered all (parts-known m mid talker bytes left told false a b h all t [] here known).0

    end-talk : joined (talk_of all m talker (lines h.front)) (talk_of all mid talker (lines text)) ≡ talk_of all m talker (lines t)
    end-talk =
        ap (λ l. joined (talk_of all m talker (lines h.front)) (talk_of all mid talker l)) (sym end-lines)
        ∙ whole-talk m mid talker bytes left told false a b h all t [] here known

    pub end-answered : {f : Option (List Saved)} (now : Moment) (more : Told) (ends : Bool) (c : Option (List ℕ))
        → Answered (talk_of all mid talker (lines text)) now more ends e f b c
        → Answered (talk_of all m talker (lines t)) now (told_of_both told more) ends d f a c
    end-answered now more ends c k = Answered-as _ _ ends ends end-talk refl refl (Answered-then told more ends before k)

    pub end-begun : (c : Option (List ℕ)) → AppendsFront b c (talk_of all mid talker (lines text)).bytes
        → AppendsFront a c (talk_of all m talker (lines t)).bytes
    end-begun c begun =
        let ys = talk_of all mid talker (lines text) in
        subst (λ s. AppendsFront a c s.bytes) (ap (joined (talk_of all m talker (lines h.front))) (joined-end ys) ∙ end-talk)
        (Answered-begun ys (silent ys.moment) a b c before begun)

  module _ (part rest text more : List ℕ) (here : t ≡ (bytes ++ part) ++ rest) (parts : left ++ part ≡ text ++ more) (whole : is_whole text ≡ true) where
    more-here : t ≡ bytes ++ (part ++ rest)
    more-here = here ∙ append_assoc bytes part rest

    more-lines : lines (left ++ (part ++ rest)) ≡ lines text ++ lines (more ++ rest)
    more-lines =
        two-lines _ text (more ++ rest) (sym (append_assoc left part rest) ∙ ap (λ l. l ++ rest) parts ∙ append_assoc text more rest) whole

    more-parts : Knows held all talker (lines h.front) × Knows held all talker (lines (left ++ (part ++ rest)))
    more-parts = parts-known m mid talker bytes left told false a b h all t (part ++ rest) more-here known

    pub more-known : Knows later_held all talker (lines text)
    more-known =
        Knows-same later_held held all talker _ _ same refl
        (Knows-parts held all talker (lines text) (lines (more ++ rest)) (Knows-same held held all talker _ _ refl more-lines more-parts.1)).0

    pub more-begun : (c : Option (List ℕ)) → AppendsFront b c (talk_of all mid talker (lines text)).bytes
        → AppendsFront a c (talk_of all m talker (lines t)).bytes
    more-begun c begun =
        let ys = talk_of all mid talker (lines text) in
        subst (λ s. AppendsFront a c s.bytes)
        (ap (joined (talk_of all m talker (lines h.front)))
        (sym (ap (talk_of all mid talker) more-lines ∙ each-append (typed_line all talker) mid (lines text) (lines (more ++ rest))))
        ∙ whole-talk m mid talker bytes left told false a b h all t (part ++ rest) more-here known)
        (Answered-begun ys (talk_of all ys.moment talker (lines (more ++ rest))) a b c (h.answered all more-parts.0) begun)
