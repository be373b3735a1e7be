-- Stretches of a talk, one after the other: what is said of the parts holds of the whole.
use Rattle.std.proofs.Common.{◌≡◌, ◌∙◌, ℕ, Bool, true, false, cond, List, [], ◌∷◌, ◌++◌, append_assoc, Option, refl, sym, ap, ap₂, subst}
use Rattle.std.proofs.lemmas.List.{append-nil}
use Rattle.mix_session.specs.declared.reply.Told.{Told}
use Rattle.mix_session.specs.declared.reply.Told.TheVariants.{Accepted}
use Rattle.mix_session.specs.Reply.{told_of_both}
use Rattle.mix_stream.specs.Stream.{AppendsFront}
use Rattle.mix_lines.specs.Lines.{lines, lines-nil}
use Rattle.mix_run.specs.Prelude.{Answered, Saved, noted, Moment}
use Rattle.mix_run.specs.Stretch.{Stretch, each_line, joined, silent}
use Rattle.mix_run.proofs.RunLemmas.{both-accepted, both-assoc}
use Rattle.mix_run.proofs.TalkLemmas.{noted-then}
use Rattle.mix_run.proofs.Written.{Appends-nothing, Appends-then, AppendsFront-after}

-- two stretches of which the first does not end the talk
abbrev both : Stretch → Stretch → Stretch
both a b = record {
  moment = b.moment;
  bytes = a.bytes ++ b.bytes;
  told = told_of_both a.told b.told;
  over = b.over;
  saved = a.saved ++ b.saved;
}

pub joined-over : (a b : Stretch) → a.over ≡ true → joined a b ≡ a
joined-over a b over = ap (λ v. cond v a (both a b)) over

joined-still : (a b : Stretch) → a.over ≡ false → joined a b ≡ both a b
joined-still a b still = ap (λ v. cond v a (both a b)) still

-- nothing is said after a stretch
pub joined-end : (a : Stretch) → joined a (silent a.moment) ≡ a
joined-end a = go a.over refl
  where
    go : (v : Bool) → a.over ≡ v → joined a (silent a.moment) ≡ a
    go true over = joined-over a (silent a.moment) over
    go false still =
        joined-still a (silent a.moment) still
        ∙ ap₂ (λ x y. record { moment = a.moment; bytes = x; told = told_of_both a.told Accepted; over = false; saved = y }) (append-nil a.bytes)
        (append-nil a.saved)
        ∙ ap₂ (λ t v. record { moment = a.moment; bytes = a.bytes; told = t; over = v; saved = a.saved }) (both-accepted a.told) (sym still)

both-assoc-of : (a b c : Stretch) → both a (both b c) ≡ both (both a b) c
both-assoc-of a b c =
    ap₂ (λ x y. record { moment = c.moment; bytes = x; told = told_of_both a.told (told_of_both b.told c.told); over = c.over; saved = y })
    (sym (append_assoc a.bytes b.bytes c.bytes)) (sym (append_assoc a.saved b.saved c.saved))
    ∙ ap (λ t. record { moment = c.moment; bytes = (a.bytes ++ b.bytes) ++ c.bytes; told = t; over = c.over; saved = (a.saved ++ b.saved) ++ c.saved })
    (sym (both-assoc a.told b.told c.told))

-- three stretches, of which the last begins at the moment to which those before it led
three : (a b : Stretch) (next : Moment → Stretch) → joined a (joined b (next b.moment)) ≡ joined (joined a b) (next (joined a b).moment)
three a b next = go a.over refl b.over refl
  where
    go : (v : Bool) → a.over ≡ v → (w : Bool) → b.over ≡ w
        → joined a (joined b (next b.moment)) ≡ joined (joined a b) (next (joined a b).moment)
    go true over w e =
        joined-over a (joined b (next b.moment)) over ∙ sym (joined-over a (next a.moment) over)
        ∙ ap (λ s. joined s (next s.moment)) (sym (joined-over a b over))
    go false still true over =
        ap (joined a) (joined-over b (next b.moment) over) ∙ joined-still a b still ∙ sym (joined-over (both a b) (next b.moment) over)
        ∙ ap (λ s. joined s (next s.moment)) (sym (joined-still a b still))
    go false still false on =
        ap (joined a) (joined-still b (next b.moment) on) ∙ joined-still a (both b (next b.moment)) still ∙ both-assoc-of a b (next b.moment)
        ∙ sym (joined-still (both a b) (next b.moment) on) ∙ ap (λ s. joined s (next s.moment)) (sym (joined-still a b still))

-- some lines, and then more
pub each-append : (one : Moment → List ℕ → Stretch) (m : Moment) (xs ys : List (List ℕ))
    → each_line one m (xs ++ ys) ≡ joined (each_line one m xs) (each_line one (each_line one m xs).moment ys)
each-append one m [] ys = refl
each-append one m (line ∷ xs) ys =
    let first = one m line in
    ap (joined first) (each-append one first.moment xs ys) ∙ three first (each_line one first.moment xs) (λ now. each_line one now ys)

-- ---- stretches that were answered

pub Answered-as : {a b : Stretch} {now : Moment} {d f : Option (List Saved)} {x y : Option (List ℕ)} (told said : Told) (ends on : Bool) → a ≡ b
    → said ≡ told → ends ≡ on → Answered a now told ends d f x y → Answered b now said on d f x y
Answered-as {a} {b} {now} {d} {f} {x} {y} told said ends on same is goes h =
    subst (λ s. Answered s now said on d f x y) same
    (subst (λ t. Answered a now t on d f x y) (sym is) (subst (λ v. Answered a now told v d f x y) goes h))

pub Answered-then : {a b : Stretch} {mid now : Moment} {d e f : Option (List Saved)} {x y z : Option (List ℕ)} (told more : Told) (ends : Bool)
    → Answered a mid told false d e x y → Answered b now more ends e f y z → Answered (joined a b) now (told_of_both told more) ends d f x z
Answered-then {a} {b} {mid} {now} {d} {e} {f} {x} {y} {z} told more ends h k =
    subst (λ s. Answered s now (told_of_both told more) ends d f x z) (sym (joined-still a b (sym h.over))) (record {
      moment = k.moment;
      told = ap₂ told_of_both h.told k.told;
      over = k.over;
      written = Appends-then x y z a.bytes b.bytes h.written k.written;
      saved = k.saved ∙ ap (λ t. noted t b.saved) h.saved ∙ noted-then d a.saved b.saved;
    })

-- after the line that ends the talk nothing more is done
pub Answered-over : {a : Stretch} {now : Moment} {d f : Option (List Saved)} {x y : Option (List ℕ)} (b : Stretch) (told : Told) (ends : Bool) → ends ≡ true
    → Answered a now told ends d f x y → Answered (joined a b) now told ends d f x y
Answered-over {a} {now} {d} {f} {x} {y} b told ends over h =
    subst (λ s. Answered s now told ends d f x y) (sym (joined-over a b (sym h.over ∙ over))) h

pub Answered-nothing : {d : Option (List Saved)} (m now : Moment) (told : Told) (a : Option (List ℕ)) → now ≡ m → told ≡ Accepted
    → Answered (silent m) now told false d d a a
Answered-nothing m now told a same is = record { moment = same; told = is; over = refl; written = Appends-nothing a; saved = refl }

front-of : (b c : Stretch) → (rest : List ℕ) × ((joined b c).bytes ≡ b.bytes ++ rest)
front-of b c = go b.over refl
  where
    go : (v : Bool) → b.over ≡ v → (rest : List ℕ) × ((joined b c).bytes ≡ b.bytes ++ rest)
    go true over = ([], ap (λ s. s.bytes) (joined-over b c over) ∙ sym (append-nil b.bytes))
    go false still = (c.bytes, ap (λ s. s.bytes) (joined-still b c still))

-- the replies to the next stretch are begun
pub Answered-begun : {a : Stretch} {mid : Moment} {told : Told} {d e : Option (List Saved)} (b c : Stretch) (x y z : Option (List ℕ))
    → Answered a mid told false d e x y → AppendsFront y z b.bytes → AppendsFront x z (joined a (joined b c)).bytes
Answered-begun {a} b c x y z h begun =
    let front = front-of b c in
    AppendsFront-after x y z a.bytes b.bytes front.0 _ h.written begun
    (ap (λ s. s.bytes) (joined-still a (joined b c) (sym h.over)) ∙ ap (λ l. a.bytes ++ l) front.1)

-- some lines, and the next ones at the moment to which they led
pub then-more : (one : Moment → List ℕ → Stretch) (m : Moment) {mid : Moment} {told : Told} {ends : Bool} {d e : Option (List Saved)} {x y : Option (List ℕ)}
    (xs ys : List (List ℕ)) → Answered (each_line one m xs) mid told ends d e x y → joined (each_line one m xs) (each_line one mid ys) ≡ each_line one m (xs ++ ys)
then-more one m {mid} xs ys h =
    ap (λ now. joined (each_line one m xs) (each_line one now ys)) h.moment ∙ sym (each-append one m xs ys)

-- ---- one line more

module _ (one : Moment → List ℕ → Stretch) {d e : Option (List Saved)} (m mid : Moment) (front : List (List ℕ)) (told : Told) (a b : Option (List ℕ))
    (h : Answered (each_line one m front) mid told false d e a b) (line : List ℕ) where
  pub line-then : {f : Option (List Saved)} (now : Moment) (more said : Told) (ends on : Bool) (c : Option (List ℕ))
      → said ≡ told_of_both told more → ends ≡ on → Answered (one mid line) now more ends e f b c
      → Answered (each_line one m (front ++ line ∷ [])) now said on d f a c
  line-then now more said ends on c is goes k =
      Answered-as (told_of_both told more) said ends on (then-more one m front (line ∷ []) h) is goes
      (Answered-then told more ends h (Answered-as more more ends ends (sym (joined-end (one mid line))) refl refl k))

  module _ (whole after : List (List ℕ)) (cut : whole ≡ front ++ (line ∷ after)) where
    cut-after : whole ≡ (front ++ line ∷ []) ++ after
    cut-after = cut ∙ sym (append_assoc front (line ∷ []) after)

    -- it ends the talk
    pub line-over : {f : Option (List Saved)} (now : Moment) (more said : Told) (ends : Bool) (c : Option (List ℕ))
        → said ≡ told_of_both told more → ends ≡ true → Answered (one mid line) now more ends e f b c → Answered (each_line one m whole) now said true d f a c
    line-over now more said ends c is over k =
        let to_here = line-then now more said ends true c is over k in
        Answered-as said said true true (then-more one m (front ++ line ∷ []) after to_here ∙ ap (each_line one m) (sym cut-after)) refl refl
        (Answered-over (each_line one now after) said true refl to_here)

    -- its answer is begun
    pub line-begun : (c : Option (List ℕ)) → AppendsFront b c (one mid line).bytes → AppendsFront a c (each_line one m whole).bytes
    line-begun c begun =
        let first = one mid line in
        subst (λ s. AppendsFront a c s.bytes) (then-more one m front (line ∷ after) h ∙ ap (each_line one m) (sym cut))
        (Answered-begun first (each_line one first.moment after) a b c h begun)

-- no line is left
pub lines-done : (one : Moment → List ℕ → Stretch) {d e : Option (List Saved)} (m now : Moment) (front whole : List (List ℕ)) (told : Told)
    (a b : Option (List ℕ)) (rest : List ℕ) → whole ≡ front ++ lines rest → rest ≡ [] → Answered (each_line one m front) now told false d e a b
    → Answered (each_line one m whole) now told false d e a b
lines-done one m now front whole told a b rest cut none h =
    let same : whole ≡ front = cut ∙ ap (λ t. front ++ lines t) none ∙ ap (λ l. front ++ l) lines-nil ∙ append-nil front in
    Answered-as told told false false (ap (each_line one m) (sym same)) refl refl h
