-- One token more.
use Rattle.std.proofs.Common.{◌≡◌, true, List, [], ◌∷◌, ◌++◌, Option, None, Some, refl, subst, sym}
use Rattle.mix_lsp.specs.Tokens.{AreInOrder, Ends, is_behind, last_of}
use Rattle.mix_lsp.specs.declared.tokens.Token.{Token}

order-append : (last : Option Token) (ts : List Token) (t : Token) → AreInOrder last ts → is_behind (last_of last ts) t ≡ true
    → AreInOrder last (ts ++ t ∷ [])
order-append last [] t order behind = (behind, tt)
order-append last (x ∷ ts) t order behind = (order.0, order-append (Some x) ts t order.1 behind)

last-append : (last : Option Token) (ts : List Token) (t : Token) → last_of last (ts ++ t ∷ []) ≡ Some t
last-append last [] t = refl
last-append last (x ∷ ts) t = last-append (Some x) ts t

pub one_more : (ts : List Token) (last : Option Token) (t : Token) → Ends ts last → is_behind last t ≡ true → Ends (ts ++ t ∷ []) (Some t)
one_more ts last t ends behind = record {
  order = order-append None ts t ends.order (subst (λ l. is_behind l t ≡ true) (sym ends.ends) behind);
  ends = last-append None ts t;
}

pub none_yet : Ends [] None
none_yet = record { order = tt; ends = refl }

pub ruleset adding = (one_more, none_yet)
