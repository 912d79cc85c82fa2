-- What the picture says in words: whose crashes a row shows, how often the role saves its state, what its crashes come to, and what
-- restarting everybody would cost instead.
use Rattle.std.specs.Prelude.{◌≡◌, ℕ, ◌+◌, ◌==◌, ◌&&◌, nat_lt, Bool, false, if◌then◌else◌, Option, None, Some, List, [], ◌∷◌, ◌++◌, flat_map, take, codes, decimal}
use Rattle.std.specs.List.{filter_map, range_with_len}
use Rattle.rcv_picture.specs.declared.look.Look.{Look}
use Rattle.rcv_picture.specs.declared.look.Look.TheVariants.{Plain, Head, Big, Note, Lost}
use Rattle.rcv_picture.specs.declared.shape.Shape.{Shape}
use Rattle.rcv_picture.specs.declared.shape.Shape.TheVariants as shapes
use Rattle.rcv_picture.specs.declared.group.Group.{Group}
use Rattle.rcv_picture.specs.declared.picture.Picture.{Picture}
use Rattle.rcv_session.specs.Session.{SessionView, roles_of, rules_of}
use Rattle.rcv_journal.specs.JournalText.{name_of}
use Rattle.rcv_costs.specs.declared.numbers.Cost.{Cost}
use Rattle.rcv_costs.specs.declared.numbers.Costs.{Costs}
use Rattle.rcv_losses.specs.Totals.{costs_by, undone_in_all, kept_in_all, worst_of}
use Rattle.rcv_losses.specs.LossText.{crash_text, share_text}
use Rattle.rcv_heat.specs.Heat.{row_of}

-- Words, with their look and the height of their baseline.
pub record Words : Type 0 where
  pub base : ℕ
  pub look : Look
  pub text : List ℕ

-- Those of a shape, if it is a text, and those of shapes, in order.
abbrev pub words_of : Shape → Option Words
words_of (shapes.Line from to look) = None
words_of (shapes.Rect corner width height round look) = None
words_of (shapes.Circle center radius look) = None
words_of (shapes.Path places look) = None
words_of (shapes.Text place anchor look text) = Some (record { base = place.y.0; look = look; text = text.items })

abbrev pub words_in : List Shape → List Words
words_in shapes = filter_map words_of shapes

-- The title, and two lines that say how to read the picture.
abbrev pub title_text : SessionView → List ℕ
title_text session = session.protocol.name ++ codes ": what each crash would undo"

abbrev pub cell_hint : List ℕ
cell_hint = codes "A cell is one crash, after so many of the role's events. Tinted: it undoes events. Bar: their share of all kept events."

abbrev pub row_hint : List ℕ
row_hint = codes "A full bar is what restarting everybody costs. Beside a row: all its crashes together. Dashed: the worst crash of all."

abbrev pub head_words : List ℕ → List Words
head_words title =
    record { base = 26; look = Big; text = title }
    ∷ record { base = 44; look = Note; text = cell_hint }
    ∷ record { base = 58; look = Note; text = row_hint } ∷ []

-- A role's name, its first 24 letters; and every how many events it saves its state.
abbrev pub shown_name : SessionView → ℕ → List ℕ
shown_name session r = take 24 (name_of session r)

abbrev pub saves_text : ℕ → List ℕ
saves_text every = codes "saves every " ++ decimal every

-- The worst crash of all is this role's, and undoes events.
abbrev pub is_dangerous : Option Cost → ℕ → Bool
is_dangerous None r = false
is_dangerous (Some worst) r = worst.role == r && nat_lt 0 worst.undone

abbrev pub name_look : Option Cost → ℕ → Look
name_look worst r = if is_dangerous worst r then Lost else Head

-- What the crashes of a role come to: how many events they undo in all, how many restarting everybody would, and the worst.
abbrev pub undone_text : ℕ → List ℕ
undone_text undone = codes "undone " ++ decimal undone ++ codes " in all"

abbrev pub restart_text : ℕ → List ℕ
restart_text kept = codes "restarting everybody: " ++ decimal kept

abbrev pub worst_at_text : Cost → List ℕ
worst_at_text cost = codes "worst at " ++ decimal cost.count ++ codes ": " ++ share_text cost

-- The same beside the cells of a row with this upper edge; nothing if there are none.
abbrev pub totals_words : ℕ → List Cost → Option Cost → List Words
totals_words top costs None = []
totals_words top costs (Some worst) =
    record { base = top + 13; look = Plain; text = undone_text (undone_in_all costs) }
    ∷ record { base = top + 28; look = Note; text = restart_text (kept_in_all costs) }
    ∷ record { base = top + 43; look = Note; text = worst_at_text worst } ∷ []

-- All words of a role's row.
abbrev pub names_words : SessionView → Option Cost → ℕ → List Words
names_words session worst r =
    record { base = row_of r + 20; look = name_look worst r; text = shown_name session r }
    ∷ record { base = row_of r + 36; look = Note; text = saves_text ((rules_of session).every r) } ∷ []

abbrev pub row_words : SessionView → List Cost → ℕ → List Words
row_words session costs r =
    names_words session (worst_of costs) r ++ totals_words (row_of r) (costs_by r costs) (worst_of (costs_by r costs))

-- The worst crash of all: `worst: crash B 3, undone 5 of 9`.
abbrev pub worst_text : SessionView → Option Cost → List ℕ
worst_text session None = []
worst_text session (Some cost) = codes "worst: " ++ crash_text session cost ++ codes ", " ++ share_text cost

-- Says that one of every so many counts is looked at, if not each is.
abbrev pub sampled_text : ℕ → List ℕ
sampled_text step = codes " (sampled: every " ++ decimal step ++ codes " counts)"

abbrev pub step_text : ℕ → List ℕ
step_text step = if step == 1 then [] else sampled_text step

-- The last line.
abbrev pub foot_text : SessionView → Costs → List ℕ
foot_text session costs = worst_text session (worst_of costs.list.items) ++ step_text costs.step

abbrev pub foot_words : SessionView → Costs → List Words
foot_words session costs = record { base = row_of (roles_of session) + 10; look = Plain; text = foot_text session costs } ∷ []

-- All words: the head, a row for each role, and the last line.
abbrev pub rows_words : SessionView → List Cost → ℕ → List Words
rows_words session costs roles = flat_map (row_words session costs) (range_with_len 0 roles)

abbrev pub all_words : SessionView → Costs → List Words
all_words session costs =
    head_words (title_text session) ++ rows_words session costs.list.items (roles_of session) ++ foot_words session costs

-- The picture is called so, says its last line to whom can't see it, and its first group says all words.
pub record SaysCosts (session : SessionView) (costs : Costs) (picture : Picture) : Type 0 where
  pub title_is : picture.title.items ≡ title_text session
  pub description_is : picture.description.items ≡ foot_text session costs
  pub words : Group
  pub others : List Group
  pub first : picture.groups.items ≡ words ∷ others
  pub words_are : words_in words.shapes.items ≡ all_words session costs
