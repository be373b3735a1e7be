-- The nodes of linked memory (2.2.3): where their links lead, and how far each is from a root.
use Rattle.std.specs.Prelude.{ℕ, ◌+◌, ◌-◌, ◌*◌, ◌/◌, ◌%◌, ◌==◌, nat_lt, ◌&&◌, ◌||◌, Bool, false, ℤ, pos, negsuc, ◌+ℤ◌, List, [], ◌∷◌, length, Option, if◌then◌else◌}
use Rattle.std.specs.List.{list_any}
use Rattle.mix_word.specs.Word.{WordValue, zero_word, number_of}
use Rattle.mix_word.specs.Field.{field_value_of}
use Rattle.mix_word.specs.declared.register.Reg.{Reg}
use Rattle.mix_word.specs.declared.register.Reg.TheVariants.{I1, I2, I3, I4, I5, I6}
use Rattle.mix_machine.specs.World.{WorldState, cell_of, register_of}
use Rattle.mix_nodes.specs.Rows.{any_below, is_row, row_by, row_in}
use Rattle.mix_nodes.specs.Shape.{ShapeValue, HeadValue, base_of}
use Rattle.mix_nodes.specs.declared.shape.FieldAt.{FieldAt}
use Rattle.mix_nodes.specs.declared.shape.HeadLink.{HeadLink}
use Rattle.mix_nodes.specs.declared.shape.HeadLink.TheVariants.{Literal, Cell, Register}
use Rattle.mix_nodes.specs.declared.shape.Target.{Target}
use Rattle.mix_nodes.specs.declared.shape.Target.TheVariants.{Nil, Node, Inside, Out}

-- ---- the nodes

-- as many as have all their words in the region
abbrev pub node_count : ShapeValue → ℕ
node_count s = (s.last + 1 - s.first) / s.size

-- the cell of the first word of a node, by its number
abbrev pub location_of : ShapeValue → ℕ → ℕ
location_of s i = s.first + i * s.size

-- the word of a number; +0 where there is no cell of it
abbrev pub word_at : WorldState → ℤ → WordValue
word_at w (pos p) = if nat_lt p 4000 then cell_of w p else zero_word
word_at w (negsuc p) = zero_word

-- the value of a field of what begins at a location
abbrev pub value_of : WorldState → ℕ → FieldAt → WordValue
value_of w at f = field_value_of (word_at w (pos at +ℤ number_of f.after)) f.field

-- ---- where links lead

-- to a cell so far after the first one of the region
abbrev pub target_after : ShapeValue → WordValue → ℕ → Target
target_after s link far =
    if nat_lt far (node_count s * s.size) then (if far % s.size == 0 then Node (far / s.size) (s.first + far) else Inside (s.first + far)) else Out link

-- to what has a number
abbrev pub target_at : ShapeValue → WordValue → ℤ → Target
target_at s link (pos p) = if nat_lt p s.first then Out link else target_after s link (p - s.first)
target_at s link (negsuc p) = Out link

-- a link is 0 and leads nowhere, or leads to what is so far after the base
unfoldable pub target_of : ShapeValue → WordValue → Target
target_of s link = if link.magnitude == 0 then Nil else target_at s link (number_of (base_of s) +ℤ number_of link)

-- whether that is a node
abbrev pub leads_to : ℕ → Target → Bool
leads_to b Nil = false
leads_to b (Node a cell) = a == b
leads_to b (Inside p) = false
leads_to b (Out link) = false

-- where a link of a node leads
abbrev pub link_target : WorldState → ShapeValue → ℕ → FieldAt → Target
link_target w s a f = target_of s (value_of w (location_of s a) f)

-- whether a link of a node leads to another
unfoldable pub leads : WorldState → ShapeValue → ℕ → ℕ → Bool
leads w s a b = list_any (λ f. leads_to b (link_target w s a f)) s.links

-- ---- the roots

-- the link of a head
abbrev pub head_value : WorldState → HeadLink → WordValue
head_value w (Literal link) = link
head_value w (Cell f) = value_of w 0 f
head_value w (Register r) = register_of w r

abbrev pub head_target : WorldState → ShapeValue → HeadValue → Target
head_target w s head = target_of s (head_value w head.link)

-- the registers that may point to nodes
abbrev pub pointers : List Reg
pointers = I1 ∷ I2 ∷ I3 ∷ I4 ∷ I5 ∷ I6 ∷ []

-- a root is a node to which a head leads, and every node where there are no heads
unfoldable pub is_root : WorldState → ShapeValue → ℕ → Bool
is_root w s b =
    length s.heads == 0 || list_any (λ head. leads_to b (head_target w s head)) s.heads

-- ---- the rows

-- of each node
unfoldable pub row_of : WorldState → ShapeValue → ℕ → Option ℕ
row_of w s b = row_by (is_root w s) (leads w s) (node_count s) b

-- whether a link of a node of a row leads to another one
abbrev pub is_found : WorldState → ShapeValue → List (Option ℕ) → ℕ → ℕ → ℕ → Bool
is_found w s rows row n b = any_below n (λ a. is_row row (row_in rows a) && leads w s a b)
