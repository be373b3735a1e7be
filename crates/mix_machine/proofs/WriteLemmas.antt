-- Lists of writes one after the other.
use Rattle.std.proofs.Common.{ℕ, zero, suc, ◌+◌, ◌≤◌, ◌≡◌, ◌∙◌, List, [], ◌∷◌, ◌++◌, length, ap, sym, refl, arith, length-append, append_assoc}
use Rattle.std.proofs.lemmas.List.{append-nil}
use Rattle.undo_core.specs.Pack.{KeptList}
use Rattle.mix_machine.specs.Prelude.{WorldState, cell_of, HasRoom, Wrote, Old, Cell}
use Rattle.mix_machine.specs.Write.{Write, set, written, replaced, write_all, kept_by, copies}

pub write_all-append : (w : WorldState) (xs ys : List Write) → write_all w (xs ++ ys) ≡ write_all (write_all w xs) ys
write_all-append w [] ys = refl
write_all-append w (x ∷ xs) ys = write_all-append (written w x) xs ys

pub kept_by-append : (w : WorldState) (xs ys : List Write) → kept_by w (xs ++ ys) ≡ kept_by w xs ++ kept_by (write_all w xs) ys
kept_by-append w [] ys = refl
kept_by-append w (x ∷ xs) ys = ap (λ os. replaced w x ∷ os) (kept_by-append (written w x) xs ys)

-- as many words are copied as are asked for
pub length-copies : (n from to : ℕ) (w : WorldState) → length (copies n from to w) ≡ n
length-copies zero from to w = refl
length-copies (suc n) from to w = ap suc (length-copies n (from + 1) (to + 1) (written w (set (Cell to (cell_of w from)))))

pub length-kept_by : (w : WorldState) (xs : List Write) → length (kept_by w xs) ≡ length xs
length-kept_by w [] = refl
length-kept_by w (x ∷ xs) = ap suc (length-kept_by (written w x) xs)

-- one list of writes after another
pub ruleset one_after_another = (write_all-append, kept_by-append, length-copies, length-append, append_assoc)

-- nothing is written
pub wrote-none : (w : WorldState) (ks : KeptList Old) → Wrote [] w w ks ks
wrote-none w ks = record { state = refl; kept = sym (append-nil ks.items); room = omega arith }

-- and then more
pub joined : (xs ys : List Write) (w v u : WorldState) (ks ls ms : KeptList Old) → Wrote xs w v ks ls → Wrote ys v u ls ms →
    Wrote (xs ++ ys) w u ks ms
joined xs ys w v u ks ls ms a b =
    let all = length-append xs ys in
    let first = a.room in
    let second = b.room in
    record {
      state = b.state ∙ ap (λ (s : WorldState). write_all s ys) a.state ∙ sym (write_all-append w xs ys);
      kept = rw (b.kept, a.kept, a.state) (append_assoc (ks.items) (kept_by w xs) _ ∙ sym (ap (λ os. ks.items ++ os) (kept_by-append w xs ys)));
      room = omega arith;
    }

-- there is room for the first of them, for the next one, and for the rest
pub room-first : (xs ys : List Write) (ks : KeptList Old) → HasRoom ks (xs ++ ys) → HasRoom ks xs
room-first xs ys ks h = let all = length-append xs ys in omega arith

pub room-next : (xs ys : List Write) (x y : Write) (w v : WorldState) (ks ls : KeptList Old) → HasRoom ks (xs ++ x ∷ ys) → Wrote xs w v ks ls →
    HasRoom ls (y ∷ [])
room-next xs ys x y w v ks ls h a =
    let all = length-append xs (x ∷ ys) in
    let room = a.room in
    omega arith

pub room-last : (xs ys zs : List Write) (x y : Write) (w v u : WorldState) (ks ls ms : KeptList Old) → HasRoom ks (xs ++ x ∷ ys) →
    Wrote xs w v ks ls → Wrote (y ∷ []) v u ls ms → length zs ≡ length ys → HasRoom ms zs
room-last xs ys zs x y w v u ks ls ms h a b e =
    let all = length-append xs (x ∷ ys) in
    let first = a.room in
    let second = b.room in
    omega arith

pub room-rest : (x : Write) (xs : List Write) (ks ls : KeptList Old) → HasRoom ks (x ∷ xs) → ks.room ≤ ls.room + 1 → HasRoom ls xs
room-rest x xs ks ls h e = omega arith
