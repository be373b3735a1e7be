-- Tokens of a text, as the protocol wants them.
use Rattle.std.specs.Prelude.{◌≡◌, ℕ, ◌==◌, ◌&&◌, ◌||◌, nat_lt, nat_le, Bool, true, List, [], ◌∷◌, Option, None, Some}
use Rattle.mix_lsp.specs.declared.tokens.Token.{Token}

-- whether a token has a unit or more, and begins behind the one before it
abbrev pub begins_behind : Option Token → Token → Bool
begins_behind None t = true
begins_behind (Some last) t = nat_lt last.line t.line || (last.line == t.line && nat_le last.to t.from)

abbrev pub is_behind : Option Token → Token → Bool
is_behind last t = nat_lt t.from t.to && begins_behind last t

-- tokens follow one another, and no two overlap
abbrev pub AreInOrder : Option Token → List Token → Type 0
AreInOrder last [] = Unit {0}
AreInOrder last (t ∷ ts) = (is_behind last t ≡ true) × AreInOrder (Some t) ts

abbrev pub last_of : Option Token → List Token → Option Token
last_of last [] = last
last_of last (t ∷ ts) = last_of (Some t) ts

-- tokens in order, and the last of them
pub record Ends (ts : List Token) (last : Option Token) : Type 0 where
  pub order : AreInOrder None ts
  pub ends : last_of None ts ≡ last
