-- The table of names after one name more.
use Rattle.std.proofs.Common.{◌≡◌, ℕ, ◌+◌, ◌≤◌, nat_eq, Bool, true, false, cond, if◌then◌else◌, List, [], ◌∷◌, ◌++◌, Some, None, refl, sym, ap, subst, ◌∙◌, arith, add-zero, zero-add}
use Rattle.std.specs.Map.{lookup}
use Rattle.std.specs.Option.{option_or}
use Rattle.std.proofs.lemmas.List.Sums.{sum_by-append, fold-append}
use Rattle.std.specs.Cmp.{unsigned_Decides}
use Rattle.indexmap.specs.IndexMap.{insert_entry}
use Rattle.mix_word.specs.Word.{WordValue}
use Rattle.mixal_asm.specs.declared.key.Key.{Key}
use Rattle.mixal_asm.specs.declared.key.Key.TheVariants.{Name, Local, Literal}
use Rattle.mixal_asm.specs.declared.names.Latest.{Latest}
use Rattle.mixal_asm.specs.Key.{same_key, same_key_decides, is_local}
use Rattle.mixal_asm.specs.PassOne.{NamesSoFar, value_of, locals_in, back_of}
use Rattle.mixal_asm.specs.Table.{IsTable, IsNew, IsNoted, count_of, latest_value}

-- a look-up in a list with one entry more
pub lookup_push : {K X : Type 0} (test : K → Bool) (entries : List (K × X)) (k : K) (x : X)
    → lookup test (entries ++ (k, x) ∷ []) ≡ option_or (lookup test entries) (cond (test k) (Some x) None)
lookup_push test [] k x = refl
lookup_push test (entry ∷ entries) k x =
    let P : Bool → Type 0 = λ b.
    cond b (Some entry.1) (lookup test (entries ++ (k, x) ∷ []))
    ≡ option_or (cond b (Some entry.1) (lookup test entries)) (cond (test k) (Some x) None) in
    elim (test entry.0) as P [ true ↦ refl | false ↦ lookup_push test entries k x ]

pub locals_push : (d : ℕ) (names : NamesSoFar) (name : Key) (value : WordValue)
    → locals_in d (names ++ (name, value) ∷ []) ≡ locals_in d names + cond (is_local d name) 1 0
locals_push d names name value =
    let counts : Key × WordValue → ℕ = λ e. cond (is_local d e.0) 1 0 in
    sum_by-append counts names ((name, value) ∷ []) ∙ ap (λ n. locals_in d names + n) (zero-add (cond (is_local d name) 1 0))

pub back_push : (d : ℕ) (names : NamesSoFar) (name : Key) (value : WordValue)
    → back_of (names ++ (name, value) ∷ []) d ≡ (if is_local d name then Some value else back_of names d)
back_push d names name value = fold-append _ None names ((name, value) ∷ [])

-- a new name has no value
pub new_has_none : (names : NamesSoFar) (latest : List (ℕ × Latest)) (name : Key) → IsTable names latest → IsNew names name → value_of names name ≡ None
new_has_none names latest (Name symbol) table new = new
new_has_none names latest (Local d n) table new = table.fresh d n (omega arith)
new_has_none names latest (Literal j) table new = new

-- a dH that is none of the names is none of them with one more that is another
still_fresh : (names : NamesSoFar) (d m : ℕ) (name : Key) (value : WordValue) → value_of names (Local d m) ≡ None
    → same_key (Local d m) name ≡ false → value_of (names ++ (name, value) ∷ []) (Local d m) ≡ None
still_fresh names d m name value none other = lookup_push (same_key (Local d m)) names name value ∙ rw (none, other) refl

table_with_local : (names : NamesSoFar) (latest new : List (ℕ × Latest)) (d n : ℕ) (value : WordValue)
    → IsTable names latest → n ≡ locals_in d names → IsNoted latest new (Local d n) value
    → IsTable (names ++ (Local d n, value) ∷ []) new
table_with_local names latest new d n value table is_next noted = record {
  value = λ e. values e (nat_eq d e) refl;
  count = λ e. counts e (nat_eq d e) refl;
  fresh = λ e m over. fresh e m over (same_key (Local e m) (Local d n)) refl;
}
  where
    values : (e : ℕ) (b : Bool) → nat_eq d e ≡ b → latest_value (lookup (nat_eq e) new) ≡ back_of (names ++ (Local d n, value) ∷ []) e
    values e true is = rw (noted e, back_push e names (Local d n) value, is) refl
    values e false is = rw (noted e, back_push e names (Local d n) value, is) (table.value e)

    counts : (e : ℕ) (b : Bool) → nat_eq d e ≡ b → count_of (lookup (nat_eq e) new) ≡ locals_in e (names ++ (Local d n, value) ∷ [])
    counts e true is =
        let same : d ≡ e = (unsigned_Decides d e).0 is in
        rw (noted e, locals_push e names (Local d n) value, is) (ap (λ k. k + 1) (is_next ∙ ap (λ k. locals_in k names) same))
    counts e false is = rw (noted e, locals_push e names (Local d n) value, is) (table.count e ∙ sym (add-zero (locals_in e names)))

    fresh : (e m : ℕ) → locals_in e (names ++ (Local d n, value) ∷ []) ≤ m → (b : Bool) → same_key (Local e m) (Local d n) ≡ b
        → value_of (names ++ (Local d n, value) ∷ []) (Local e m) ≡ None
    fresh e m over false is =
        let grown : locals_in e (names ++ (Local d n, value) ∷ []) ≡ locals_in e names + cond (nat_eq d e) 1 0 = locals_push e names (Local d n) value in
        still_fresh names e m (Local d n) value (table.fresh e m (omega arith)) is
    fresh e m over true is =
        let same : Local e m ≡ Local d n = (same_key_decides (Local e m) (Local d n)).0 is in
        let e_is : e ≡ d = cc in
        let m_is : m ≡ n = cc in
        let grown : locals_in e (names ++ (Local d n, value) ∷ []) ≡ locals_in e names + cond (nat_eq d e) 1 0 = locals_push e names (Local d n) value in
        let one : cond {A = ℕ} (nat_eq d e) 1 0 ≡ 1 = rw ((unsigned_Decides d e).1 (sym e_is)) refl in
        let counted : locals_in e names ≡ locals_in d names = ap (λ k. locals_in k names) e_is in
        absurd (omega arith)

table_with_other : (names : NamesSoFar) (latest : List (ℕ × Latest)) (name : Key) (value : WordValue)
    → ((d : ℕ) → is_local d name ≡ false) → ((d m : ℕ) → same_key (Local d m) name ≡ false)
    → IsTable names latest → IsTable (names ++ (name, value) ∷ []) latest
table_with_other names latest name value not_local other table = record {
  value = λ d. rw (back_push d names name value, not_local d) (table.value d);
  count = λ d. rw (locals_push d names name value, not_local d) (table.count d ∙ sym (add-zero (locals_in d names)));
  fresh = λ d m over.
      let grown : locals_in d (names ++ (name, value) ∷ []) ≡ locals_in d names + 0 = rw (locals_push d names name value, not_local d) refl in
      still_fresh names d m name value (table.fresh d m (omega arith)) (other d m);
}

pub table_with : (names : NamesSoFar) (latest new : List (ℕ × Latest)) (name : Key) (value : WordValue)
    → IsTable names latest → IsNew names name → IsNoted latest new name value → IsTable (names ++ (name, value) ∷ []) new
table_with names latest new (Name symbol) value table is_new noted =
    subst (IsTable (names ++ (Name symbol, value) ∷ [])) (sym noted) (table_with_other names latest (Name symbol) value (λ d. refl) (λ d m. refl) table)
table_with names latest new (Local d n) value table is_new noted = table_with_local names latest new d n value table is_new noted
table_with names latest new (Literal j) value table is_new noted =
    subst (IsTable (names ++ (Literal j, value) ∷ [])) (sym noted) (table_with_other names latest (Literal j) value (λ d. refl) (λ d m. refl) table)

-- a key that is not there goes last
insert_absent-step : (names : NamesSoFar) (entry : Key × WordValue) (name : Key) (value : WordValue) (b : Bool) → same_key name entry.0 ≡ b
    → value_of (entry ∷ names) name ≡ None
    → (value_of names name ≡ None → insert_entry same_key names name value ≡ names ++ (name, value) ∷ [])
    → insert_entry same_key (entry ∷ names) name value ≡ (entry ∷ names) ++ (name, value) ∷ []
insert_absent-step names entry name value true is none more =
    let some : value_of (entry ∷ names) name ≡ Some entry.1 = rw is refl in cc
insert_absent-step names entry name value false is none more =
    let rest : value_of (entry ∷ names) name ≡ value_of names name = rw is refl in
    rw is (ap (λ (done : NamesSoFar). entry ∷ done) (more (sym rest ∙ none)))

insert_absent : (names : NamesSoFar) (name : Key) (value : WordValue) → value_of names name ≡ None
    → insert_entry same_key names name value ≡ names ++ (name, value) ∷ []
insert_absent [] name value none = refl
insert_absent (entry ∷ names) name value none =
    insert_absent-step names entry name value (same_key name entry.0) refl none (insert_absent names name value)

pub inserted_new : (names kept now : NamesSoFar) (latest : List (ℕ × Latest)) (name : Key) (value : WordValue)
    → IsTable names latest → IsNew names name → kept ≡ names → now ≡ insert_entry same_key kept name value
    → now ≡ names ++ (name, value) ∷ []
inserted_new names kept now latest name value table is_new same put =
    put ∙ ap (λ es. insert_entry same_key es name value) same ∙ insert_absent names name value (new_has_none names latest name table is_new)
