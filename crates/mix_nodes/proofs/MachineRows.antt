-- The rows of the nodes of a machine, one more each time.
use Rattle.std.proofs.Common.{◌≡◌, ℕ, ◌+◌, ◌-◌, ◌<◌, ◌≤◌, Option, List, [], ◌++◌, length, take, drop, refl, sym, ap, ◌∙◌, arith}
use Rattle.std.specs.Option.{option_or}
use Rattle.std.proofs.lemmas.List.{take_all, drop_all, append-nil}
use Rattle.mix_machine.specs.World.{WorldState}
use Rattle.mix_nodes.specs.Shape.{ShapeValue}
use Rattle.mix_nodes.specs.Nodes.{is_found, is_root, leads, node_count, row_of}
use Rattle.mix_nodes.specs.Rows.{row_below, row_by, row_if, row_in}
use Rattle.mix_nodes.proofs.RowLemmas.{rows-all, rows-end, rows-next}

-- a slice of a vector that was written is all of it
pub written : (len : ℕ) (new old : List (Option ℕ)) → length new ≡ length old → len ≡ length old → take len (new ++ drop (length new) old) ≡ new
written len new old same all =
    let rest : drop (length new) old ≡ [] = drop_all (length new) old (omega (arith, same)) in
    ap (λ xs. take len (new ++ xs)) rest ∙ ap (take len) (append-nil new) ∙ take_all len new (omega (arith, same, all))

module _ (w : WorldState) (s : ShapeValue) (n : ℕ) (count : n ≡ node_count s) where
  -- one row more
  pub row-more : (k len : ℕ) (items slice new : List (Option ℕ)) → slice ≡ items → len ≡ length items → length items ≡ n → length new ≡ length slice
      → ((b : ℕ) → b < length slice → row_in new b ≡ option_or (row_in slice b) (row_if (is_found w s slice k (node_count s) b) (k + 1)))
      → ((b : ℕ) → b < n → row_in items b ≡ row_below (is_root w s) (leads w s) n (k + 1) b)
      → (b : ℕ) → b < n → row_in (take len (new ++ drop (length new) items)) b ≡ row_below (is_root w s) (leads w s) n (k + 1 + 1) b
  row-more k len items slice new same all each size added so_far b less =
      ap (λ l. row_in l b) (written len new items (size ∙ ap length same) all)
      ∙ added b (omega (arith, ap length same, each, less))
      ∙ ap (λ l. option_or (row_in l b) (row_if (is_found w s l k (node_count s) b) (k + 1))) same
      ∙ ap (λ m. option_or (row_in items b) (row_if (is_found w s items k m b) (k + 1))) (sym count)
      ∙ rows-next (is_root w s) (leads w s) n k (k + 1) (row_in items) refl so_far b less

  -- rows of all nodes
  pub rows-are : (rows : List (Option ℕ)) → length rows ≡ n → ((b : ℕ) → b < n → row_in rows b ≡ row_below (is_root w s) (leads w s) n n b)
      → (b : ℕ) → row_in rows b ≡ row_of w s b
  unfolding row_of
  rows-are rows len each b = rows-all (is_root w s) (leads w s) n rows len each b ∙ ap (λ m. row_by (is_root w s) (leads w s) m b) count

  -- the last rows, where one more added nothing
  pub rows-still : (k len : ℕ) (items slice new : List (Option ℕ)) → slice ≡ items → len ≡ length items → length items ≡ n → length new ≡ length slice
      → new ≡ slice → k + 1 < n
      → ((b : ℕ) → b < length slice → row_in new b ≡ option_or (row_in slice b) (row_if (is_found w s slice k (node_count s) b) (k + 1)))
      → ((b : ℕ) → b < n → row_in items b ≡ row_below (is_root w s) (leads w s) n (k + 1) b)
      → (b : ℕ) → row_in (take len (new ++ drop (length new) items)) b ≡ row_of w s b
  rows-still k len items slice new same all each size none most added so_far b =
      let whole : take len (new ++ drop (length new) items) ≡ items = written len new items (size ∙ ap length same) all ∙ none ∙ same in
      let two : k + 1 + 1 ≡ k + 2 = omega arith in
      ap (λ l. row_in l b) whole
      ∙ rows-are items each (rows-end (is_root w s) (leads w s) n k (row_in items) so_far
      (λ a less. sym (ap (λ l. row_in l a) whole) ∙ row-more k len items slice new same all each size added so_far a less
      ∙ ap (λ j. row_below (is_root w s) (leads w s) n j a) two) most) b

  -- the rows below the count are all rows
  pub rows-last : (k : ℕ) (rows : List (Option ℕ)) → length rows ≡ n → k ≤ n - 1 → n ≤ k + 1
      → ((b : ℕ) → b < n → row_in rows b ≡ row_below (is_root w s) (leads w s) n (k + 1) b) → (b : ℕ) → row_in rows b ≡ row_of w s b
  rows-last k rows len most past so_far =
      rows-are rows len (λ b less. let end : k + 1 ≡ n = omega (arith, most, past, less) in so_far b less ∙ ap (λ j. row_below (is_root w s) (leads w s) n j b) end)
