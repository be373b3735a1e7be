-- What is read of a file that is sourced gives its lines.
use Rattle.std.proofs.Common.{◌≡◌, ◌∙◌, ◌<◌, ◌≤◌, ◌+◌, ℕ, zero, suc, List, [], ◌∷◌, length, take, Result, Ok, Err, refl, sym, ap, subst, arith}
use Rattle.std.proofs.lemmas.Bool.{le-ltb, lt-ltb}
use Rattle.mix_lines.specs.Lines.{lines}
use Rattle.mix_refused.specs.declared.refused.Refused.{Refused}
use Rattle.mix_refused.specs.declared.refused.Refused.TheVariants as refused
use Rattle.mix_run.specs.Prelude.{GivesText, max_script_bytes, Reason}
use Rattle.mix_run.specs.Sources.{lines_of}
use Rattle.mix_run.specs.declared.opener.Unread.{Unread}

length-taken : (n : ℕ) (xs : List ℕ) → length (take n xs) ≤ length xs
length-taken zero xs = omega arith
length-taken (suc n) [] = omega arith
length-taken (suc n) (x ∷ xs) = let less = length-taken n xs in omega (arith, less)

-- fewer bytes than were asked for are all
short-take : (n : ℕ) (xs : List ℕ) → length (take n xs) < n → take n xs ≡ xs
short-take zero xs lt = absurd (omega (arith, lt))
short-take (suc n) [] lt = refl
short-take (suc n) (x ∷ xs) lt = ap (λ l. x ∷ l) (short-take n xs (omega (arith, lt)))

long-is : (n : ℕ) (read text : List ℕ) → read ≡ take n text → max_script_bytes < length read → lines_of (Ok text) ≡ []
long-is n read text is over =
    let more : max_script_bytes < length text = let less = length-taken n text in omega (arith, over, less, ap length is) in
    rw (lt-ltb max_script_bytes (length text) more) refl

short-is : (n : ℕ) (read text : List ℕ) → n ≡ max_script_bytes + 1 → read ≡ take n text → length read ≤ max_script_bytes → lines_of (Ok text) ≡ lines read
short-is n read text most is within =
    let same = short-take n text (omega (arith, most, within, ap length is)) in
    let less : length text ≤ max_script_bytes = omega (arith, within, ap length (is ∙ same)) in
    rw (le-ltb max_script_bytes (length text) less) (ap lines (sym (is ∙ same)))

module _ {V : Type 0} (bytes : V → List ℕ) (n : ℕ) where
  pub long-lines : (held : Result (List ℕ) Reason) (v : V) → GivesText bytes held n (Ok v) → max_script_bytes < length (bytes v) → lines_of held ≡ []
  long-lines (Ok text) v given over = long-is n (bytes v) text given over
  long-lines (Err reason) v given over = absurd given

  pub short-lines : (held : Result (List ℕ) Reason) (v : V) → n ≡ max_script_bytes + 1 → GivesText bytes held n (Ok v)
      → length (bytes v) ≤ max_script_bytes → lines_of held ≡ lines (bytes v)
  short-lines (Ok text) v most given within = short-is n (bytes v) text most given within
  short-lines (Err reason) v most given within = absurd given

  unread-text : (held : Result (List ℕ) Reason) (why : Unread) → GivesText bytes held n (Err (refused.Fault why)) → lines_of held ≡ []
  unread-text (Ok text) why given = absurd given
  unread-text (Err reason) why given = refl

  pub unread-lines : (held : Result (List ℕ) Reason) (result : Result V (Refused Unread)) (why : Unread) → result ≡ Err (refused.Fault why)
      → GivesText bytes held n result → lines_of held ≡ []
  unread-lines held result why is given = unread-text held why (subst (GivesText bytes held n) is given)
