-- Worked examples: a small share, where cells stand, and which cell has the mark.
use Rattle.std.proofs.Common.{◌≡◌, ℕ, false, true, Some, None, [], ◌∷◌, refl, arith, codes}
use Rattle.std.specs.Fmt.{digits}
use Rattle.rcv_picture.specs.declared.look.Look.TheVariants.{Plain, Head, Note, Lost}
use Rattle.rcv_costs.specs.declared.numbers.Cost.{Cost}
use Rattle.rcv_heat.specs.declared.grid.Grid.{Grid}
use Rattle.rcv_losses.specs.Totals.{kept_in_all, worst_of}
use Rattle.rcv_heat.specs.Heat.{column_of, row_of, bar_height, is_worst, tints_of, tint_of}
use Rattle.rcv_heat.specs.Words.{name_look, totals_words, step_text}

-- 5 of 9 events are 26 of 48 pixels, all of them fill the cell, none of none are none
a_share : bar_height 5 9 ≡ 26
a_share = refl

a_whole : bar_height 9 9 ≡ 48
a_whole = refl

none_of_none : bar_height 0 0 ≡ 0
none_of_none = refl

-- not rounded up
no_more : bar_height 5 9 ≡ 27 → ⊥
no_more e = omega (arith, e)

abbrev a_grid : Grid
a_grid = record { left = 100; wide = 40; step = 3 }

abbrev a_cost : ℕ → ℕ → Cost
a_cost r n = record { role = r; count = n; before = None; after = None; lost = 0; undone = 0; kept = 0; concerned = record { 0 = 0 }; again = 0 }

the_same : is_worst (Some (a_cost 1 3)) (a_cost 1 3) ≡ true
the_same = refl

another_count : is_worst (Some (a_cost 1 3)) (a_cost 1 6) ≡ false
another_count = refl

-- every third count has a column of 40 pixels, and the rows are 84 pixels apart
third : column_of a_grid 6 ≡ 180
third = refl

second_row : row_of 1 ≡ 164
second_row = refl

-- a crash of B that undoes 2 of 3 events, and one that undoes 1 of 2
abbrev worse_cost : Cost
worse_cost = record { role = 1; count = 2; before = None; after = None; lost = 2; undone = 2; kept = 3; concerned = record { 0 = 3 }; again = 1 }

abbrev small_cost : Cost
small_cost = record { role = 1; count = 1; before = None; after = None; lost = 1; undone = 1; kept = 2; concerned = record { 0 = 3 }; again = 1 }

-- a cell is tinted if its crash undoes events, and else it isn't
tinted : tints_of a_grid worse_cost ≡ tint_of a_grid worse_cost ∷ []
tinted = refl

not_tinted : tints_of a_grid (a_cost 1 3) ≡ []
not_tinted = refl

-- they undo 3 events, and restarting everybody would undo 5; none of these numbers stands for the other
their_totals :
    totals_words 164 (small_cost ∷ worse_cost ∷ []) (worst_of (small_cost ∷ worse_cost ∷ []))
    ≡ record { base = 177; look = Plain; text = codes "undone 3 in all" }
    ∷ record { base = 192; look = Note; text = codes "restarting everybody: 5" }
    ∷ record { base = 207; look = Note; text = codes "worst at 2: undone 2 of 3" } ∷ []
unfolding digits
their_totals = refl

not_undone : kept_in_all (small_cost ∷ worse_cost ∷ []) ≡ 3 → ⊥
not_undone e = omega (arith, e)

-- the role of the worst crash looks dangerous, another one doesn't, and none does if nothing is undone
dangerous : name_look (Some worse_cost) 1 ≡ Lost
dangerous = refl

another_role : name_look (Some worse_cost) 0 ≡ Head
another_role = refl

no_danger : name_look (Some (a_cost 1 3)) 1 ≡ Head
no_danger = refl

-- each third count
each_third : step_text 3 ≡ codes " (sampled: every 3 counts)"
unfolding digits
each_third = refl

each_count : step_text 1 ≡ []
each_count = refl
