-- The shape of linked memory (2.2.3): where its nodes are, the fields of each, and the links into them from outside.
use Rattle.std.specs.Prelude.{ℕ, ◌<◌, ◌≤◌, List, Option, unwrap_or}
use Rattle.mix_word.specs.Word.{WordValue, zero_word}
use Rattle.mix_nodes.specs.declared.shape.FieldAt.{FieldAt}
use Rattle.mix_nodes.specs.declared.shape.HeadLink.{HeadLink}

-- a head: how it was typed, and its link
pub record HeadValue : Type 0 where
  pub text : List ℕ
  pub link : HeadLink

-- The nodes are in the cells from a first to a last one, so many words each. A link is counted from the base, if one is given. A field
-- is one of a word that is so far after the first one of a node.
pub record ShapeValue : Type 0 where
  pub first : ℕ
  pub last : ℕ
  pub size : ℕ
  pub base : Option WordValue
  pub labels : List FieldAt
  pub links : List FieldAt
  pub heads : List HeadValue

-- what every shape meets: the region is one of cells, and a node has a word
pub record IsShape (s : ShapeValue) : Type 0 where
  pub first : s.first ≤ s.last
  pub last : s.last < 4000
  pub some : 0 < s.size
  pub size : s.size ≤ 4000

-- what links are counted from
abbrev pub base_of : ShapeValue → WordValue
base_of s = unwrap_or s.base zero_word
