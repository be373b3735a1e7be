-- One cell more.
use Rattle.std.proofs.Common.{◌≡◌, ◌<◌, ◌≤◌, ◌+◌, ◌++◌, ℕ, suc, [], ◌∷◌, arith, refl}
use Rattle.std.proofs.lemmas.Bool.{ne_eqb}
use Rattle.std.proofs.lemmas.List.{append-nil}
use Rattle.mix_session.specs.declared.tally.Tally.{Tally}
use Rattle.mix_run.specs.Executed.{executed}

pub executed-some : (tally : ℕ → Tally) (n : ℕ) → 0 < (tally n).count → executed tally (n + 1) ≡ executed tally n ++ (n, tally n) ∷ []
executed-some tally n some =
    let next : n + 1 ≡ suc n = omega arith in
    rw next (rw (ne_eqb (tally n).count 0 (λ e. omega arith)) refl)

pub executed-none : (tally : ℕ → Tally) (n : ℕ) → (tally n).count ≤ 0 → executed tally (n + 1) ≡ executed tally n
executed-none tally n none =
    let next : n + 1 ≡ suc n = omega arith in
    let never : (tally n).count ≡ 0 = omega arith in
    rw next (rw never (append-nil (executed tally n)))

pub ruleset cells = (executed-some, executed-none)
