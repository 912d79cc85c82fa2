-- What is shown of sessions that differ in crash lines alone.
use Rattle.std.proofs.Common.{◌≡◌, ℕ, ◌+◌, List, Option, [], ◌∷◌, ◌++◌, length, map, take, refl, sym, ◌∙◌, ap, ap₂}
use Rattle.std.specs.Prelude.{flat_map, slice_index_or}
use Rattle.std.specs.List.{range_with_len}
use Rattle.rcv_tree.specs.declared.protocol.Protocol.{Protocol}
use Rattle.rcv_model.specs.Plan.{PlanLine, CrashLine, every_in}
use Rattle.rcv_plan.proofs.Alone.{alone}
use Rattle.rcv_session.specs.Session.{SessionView, roles_of, rules_of}
use Rattle.rcv_picture.specs.declared.look.Look.TheVariants.{Note}
use Rattle.rcv_picture.specs.declared.group.Group.{Group}
use Rattle.rcv_picture.specs.declared.picture.Picture.{Picture}
use Rattle.rcv_costs.specs.declared.numbers.Cost.{Cost}
use Rattle.rcv_costs.specs.declared.numbers.Costs.{Costs}
use Rattle.rcv_costs.specs.Rehearsal.{DiffersInCrashes}
use Rattle.rcv_losses.specs.Totals.{costs_by, worst_of}
use Rattle.rcv_losses.specs.LossText.{cost_text}
use Rattle.rcv_heat.specs.declared.grid.Grid.{Grid}
use Rattle.rcv_heat.specs.Heat.{row_of, AreCells, titled_in, ShowsCosts}
use Rattle.rcv_heat.specs.Words.{Words, name_look, saves_text, title_text, head_words, totals_words, row_words, rows_words, foot_text, foot_words, all_words, SaysCosts}

pointwise : {A : Type 0} (f g : ℕ → List A) → ((r : ℕ) → f r ≡ g r) → (rs : List ℕ) → flat_map f rs ≡ flat_map g rs
pointwise f g same [] = refl
pointwise f g same (r ∷ rs) = ap₂ (λ a b. a ++ b) (same r) (pointwise f g same rs)

-- the words of a name, by what they are made of
abbrev named : Protocol → ℕ → Option Cost → ℕ → List Words
named protocol every worst r =
    record { base = row_of r + 20; look = name_look worst r; text = take 24 (slice_index_or protocol.roles r []) }
    ∷ record { base = row_of r + 36; look = Note; text = saves_text every } ∷ []

module _ (old new : SessionView) (differs : DiffersInCrashes old new) where
  every_there : (r : ℕ) → (rules_of new).every r ≡ (rules_of old).every r
  every_there r =
      sym (alone.every 0 0 new.plan r)
      ∙ ap (λ (lines : List PlanLine). every_in (lines ++ CrashLine 0 0 ∷ []) r) differs.plan
      ∙ alone.every 0 0 old.plan r

  pub text_there : (cost : Cost) → cost_text new cost ≡ cost_text old cost
  unfolding Rattle.rcv_losses.specs.LossText.cost_text Rattle.rcv_losses.specs.LossText.names_text
  text_there cost = ap (λ (x : Protocol). cost_text (record old { protocol = x }) cost) differs.protocol

  pub titles_there : (costs : List Cost) → map (cost_text new) costs ≡ map (cost_text old) costs
  titles_there [] = refl
  titles_there (cost ∷ costs) = ap₂ (λ (t : List ℕ) (ts : List (List ℕ)). t ∷ ts) (text_there cost) (titles_there costs)

  cells_there : (grid : Grid) (worst : Option Cost) (costs : List Cost) (cells : List Group) → AreCells new grid worst costs cells → AreCells old grid worst costs cells
  cells_there grid worst [] [] are = tt
  cells_there grid worst [] (cell ∷ cells) are = absurd are
  cells_there grid worst (cost ∷ costs) [] are = absurd are
  cells_there grid worst (cost ∷ costs) (cell ∷ cells) are = (
    record { title_is = are.0.title_is ∙ text_there cost; shapes_are = are.0.shapes_are },
    cells_there grid worst costs cells are.1,
  )

  pub shown_there : (costs : Costs) (picture : Picture) → ShowsCosts new costs picture → ShowsCosts old costs picture
  shown_there costs picture shows = record {
    grid = shows.grid;
    is_grid = shows.is_grid;
    step_is = shows.step_is;
    cells = cells_there shows.grid (worst_of costs.list.items) costs.list.items (titled_in picture.groups.items) shows.cells;
  }

  row_there : (costs : List Cost) (r : ℕ) → row_words new costs r ≡ row_words old costs r
  row_there costs r =
      ap₂ (λ (x : Protocol) (n : ℕ). named x n (worst_of costs) r ++ totals_words (row_of r) (costs_by r costs) (worst_of (costs_by r costs)))
      differs.protocol (every_there r)

  foot_there : (costs : Costs) → foot_text new costs ≡ foot_text old costs
  foot_there costs = ap (λ (x : Protocol). foot_text (record old { protocol = x }) costs) differs.protocol

  words_there : (costs : Costs) → all_words new costs ≡ all_words old costs
  words_there costs =
      ap (λ (x : Protocol). head_words (title_text (record old { protocol = x })) ++ rows_words new costs.list.items (length x.roles) ++ foot_words (record old { protocol = x }) costs) differs.protocol
      ∙ ap (λ (ws : List Words). head_words (title_text old) ++ ws ++ foot_words old costs)
      (pointwise (row_words new costs.list.items) (row_words old costs.list.items) (row_there costs.list.items) (range_with_len 0 (roles_of old)))

  pub said_there : (costs : Costs) (picture : Picture) → SaysCosts new costs picture → SaysCosts old costs picture
  said_there costs picture says = record {
    title_is = says.title_is ∙ ap (λ (x : Protocol). title_text (record old { protocol = x })) differs.protocol;
    description_is = says.description_is ∙ foot_there costs;
    words = says.words;
    others = says.others;
    first = says.first;
    words_are = says.words_are ∙ words_there costs;
  }
