-- The titles of a table's rows are the lines of its text.
use Rattle.std.proofs.Common.{◌≡◌, ℕ, Bool, true, false, List, [], ◌∷◌, ◌++◌, flat_map, length, codes, refl, ◌∙◌, ap, append-nil}
use Rattle.std.specs.Prelude.{if◌then◌else◌}
use Rattle.std.specs.List.{range_with_len}
use Rattle.std.proofs.lemmas.Grind.{flat_map-append}
use Rattle.rcv_tables.specs.Rows.{row_at}
use Rattle.rcv_tables.specs.TableText.{is_own, start_text, role_lines}
use Rattle.rcv_charts.specs.Laws.{as_line, RowsAreLines}
use Rattle.rcv_charts.specs.RowTitles.{row_title, start_titles, role_titles}

nested : {X : Type 0} (f : X → List (List ℕ)) (h : X → List ℕ) → ((x : X) → flat_map as_line (f x) ≡ h x) → (xs : List X) → flat_map as_line (flat_map f xs) ≡ flat_map h xs
nested f h same [] = refl
nested f h same (x ∷ xs) =
    flat_map-append as_line (f x) (flat_map f xs) ∙ ap (λ ys. ys ++ flat_map as_line (flat_map f xs)) (same x) ∙ ap (λ ys. h x ++ ys) (nested f h same xs)

one_or_none : (b : Bool) (title : List ℕ) → flat_map as_line (if b then title ∷ [] else []) ≡ (if b then title ++ codes "\n" else [])
one_or_none true title = append-nil (title ++ codes "\n")
one_or_none false title = refl

pub rows_are_lines : RowsAreLines
rows_are_lines net names table =
    nested (role_titles net names table) (role_lines net names table)
    (λ p. nested (start_titles net names table p) (start_text net names table p) (λ n. one_or_none (is_own net p n) (row_title names p n (row_at table p n))) (range_with_len 1 net.count))
    (range_with_len 0 (length names))
