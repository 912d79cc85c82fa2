-- What the lines of a listing say.
use Rattle.std.specs.Prelude.{◌≡◌, ℕ, ◌-◌, ◌≤◌, ◌==◌, Bool, ◌&&◌, nat_le, IsTrue, not, if◌then◌else◌, codes, decimal, List, [], ◌∷◌, ◌++◌, flat_map, slice_index_or}
use Rattle.std.specs.List.{range_with_len}
use Rattle.rcv_tree.specs.declared.refusal.Refusal.{Refusal}
use Rattle.rcv_tree.specs.declared.refusal.Refusal.TheVariants as refusals
use Rattle.rcv_tree.specs.Names.{name_at}
use Rattle.rcv_model.specs.Net.{Net}
use Rattle.rcv_model.specs.Next.{AreNext}
use Rattle.rcv_input.specs.Line.{refusal_line}
use Rattle.rcv_input.specs.declared.refused.Refused.TheVariants.{Rule}
use Rattle.rcv_explain.specs.declared.explanation.Explanation.{Explanation}
use Rattle.rcv_explain.specs.Explained.{HasRule, IsNamed}
use Rattle.rcv_listing.specs.declared.written.PointLines.{PointLines}
use Rattle.rcv_listing.specs.Way.{IsInTheWay}

-- The line of a point, which counts from 1, and those of the calls through which it came.
abbrev pub nowhere : PointLines
nowhere = record { line = 0; calls = [] }

abbrev pub line_of : List PointLines → ℕ → ℕ
line_of lines p = (slice_index_or lines (p - 1) nowhere).line

abbrev pub calls_of : List PointLines → ℕ → List ℕ
calls_of lines p = (slice_index_or lines (p - 1) nowhere).calls

-- do line LINE, for each call
abbrev pub calls_text : List ℕ → List ℕ
calls_text lines = flat_map (λ (line : ℕ). codes " do line " ++ decimal line) lines

-- POINT line LINE LABEL from SENDER to RECEIVER
abbrev pub message_text : List (List ℕ) → Net → List PointLines → ℕ → List ℕ
message_text roles net lines p =
    decimal p ++ codes " line " ++ decimal (line_of lines p) ++ codes " " ++ net.label p ++ codes " from "
    ++ name_at roles (net.sender p) ++ codes " to " ++ name_at roles (net.receiver p)

-- The line of a point: its message, and its calls, the outermost first.
abbrev pub point_text : List (List ℕ) → Net → List PointLines → ℕ → List ℕ
point_text roles net lines p = message_text roles net lines p ++ calls_text (calls_of lines p) ++ codes "\n"

-- The lines of points, and those of all points of a text.
abbrev pub points_text : List (List ℕ) → Net → List PointLines → List ℕ → List ℕ
points_text roles net lines ps = flat_map (point_text roles net lines) ps

abbrev pub all_text : List (List ℕ) → Net → List PointLines → List ℕ
all_text roles net lines = points_text roles net lines (range_with_len 1 net.count)

-- A refusal with this code stands at a place of its role; one with another code of a rule stands at a point.
abbrev pub is_at_place : ℕ → Bool
is_at_place code = nat_le 21 code && nat_le code 25

-- Where a role is: at the start, or after a point.
abbrev pub stand_text : List PointLines → ℕ → List ℕ
stand_text lines place =
    if place == 0 then codes " is at the start" else codes " is after its point " ++ decimal place ++ codes ", line " ++ decimal (line_of lines place)

abbrev pub place_text : List (List ℕ) → List PointLines → ℕ → ℕ → List ℕ
place_text roles lines role place = name_at roles role ++ stand_text lines place ++ codes ". Its next points there:\n"

-- What is wrong with a point: another role than the one that decides sends it, no way comes to it, or none leads from it
-- to the end of its lane.
abbrev pub subject_text : List (List ℕ) → ℕ → List ℕ
subject_text roles role = name_at roles role ++ codes " decides, but another role sends this first message:\n"

abbrev pub unreached_text : List (List ℕ) → ℕ → List ℕ
unreached_text roles role = name_at roles role ++ codes " sends this message, but no way from the start comes to it:\n"

abbrev pub endless_text : List (List ℕ) → ℕ → List ℕ
endless_text roles role = name_at roles role ++ codes " sends this message, but no way leads from it to the end of its lane, and a stage follows:\n"

-- What is said of the place or the point where a rule fails, in front of the points that are shown.
abbrev pub where_text : List (List ℕ) → List PointLines → ℕ → ℕ → ℕ → List ℕ
where_text roles lines code role number =
    if is_at_place code then place_text roles lines role number
    else (if code == 20 then subject_text roles role else (if code == 28 then endless_text roles role else unreached_text roles role))

-- These points are shown: the role's next ones at the place, or the one that is wrong.
pub record AreShown (net : Net) (code role number : ℕ) (shown : List ℕ) : Type 0 where
  pub place : IsTrue (is_at_place code) → AreNext net role number shown
  pub point : IsTrue (not (is_at_place code)) → shown ≡ number ∷ []

-- The rule and its repair.
abbrev pub rule_text : Explanation → List ℕ
rule_text e = e.rule.now ++ codes "\n" ++ codes "Repair: " ++ e.repair.now ++ codes "\n"

-- The choice with this first message, which stands in the way of a role's next send; its sender decides there.
abbrev pub first_text : List PointLines → ℕ → List ℕ
first_text lines p = codes "The choice whose first message is point " ++ decimal p ++ codes ", line " ++ decimal (line_of lines p)

abbrev pub decides_text : List (List ℕ) → ℕ → List ℕ
decides_text roles role = codes ", stands in its way. There " ++ name_at roles role ++ codes " decides.\n"

abbrev pub choice_text : List (List ℕ) → Net → List PointLines → ℕ → List ℕ
choice_text roles net lines p = first_text lines p ++ decides_text roles (net.sender p)

-- For the code of a send that isn't enabled, this says which choice stands in the way, if there is one. For other codes it says nothing.
pub data IsWay (roles : List (List ℕ)) (net : Net) (lines : List PointLines) : ℕ → ℕ → ℕ → List ℕ → Type 0 where
  choice : {role number : ℕ} (p : ℕ) → IsInTheWay net role number p → IsWay roles net lines 24 role number (choice_text roles net lines p)
  nothing : {code role number : ℕ} → (code ≡ 24 → (p : ℕ) → IsInTheWay net role number p → ⊥) → IsWay roles net lines code role number []

-- What a refusal says: its line, the place with its points, the choice in the way, the rule and the repair.
abbrev pub told_text : List (List ℕ) → Net → List PointLines → ℕ → ℕ → ℕ → List ℕ → List ℕ → Explanation → List ℕ
told_text roles net lines code role number shown way e =
    codes "\n" ++ refusal_line (Rule code (name_at roles role) number) ++ where_text roles lines code role number
    ++ points_text roles net lines shown ++ way ++ rule_text e

-- This is said of a refusal by a rule.
pub record IsTold (roles : List (List ℕ)) (net : Net) (lines : List PointLines) (code role number : ℕ) (told : List ℕ) : Type 0 where
  pub shown : List ℕ
  pub way : List ℕ
  pub explanation : Explanation
  pub are_shown : AreShown net code role number shown
  pub is_way : IsWay roles net lines code role number way
  pub explains : IsNamed code explanation.name.now
  pub text : told ≡ told_text roles net lines code role number shown way explanation

-- The number of a refusal is a place of the text, or a point of it.
abbrev pub IsNumberIn : Net → ℕ → ℕ → Type 0
IsNumberIn net code number = (number ≤ net.count) × (IsTrue (not (is_at_place code)) → 1 ≤ number)

-- The text goes on with what is said of a refusal.
abbrev pub AddsTold : List (List ℕ) → Net → List PointLines → ℕ → ℕ → ℕ → List ℕ → List ℕ → Type 0
AddsTold roles net lines code role number before after =
    (told : List ℕ) × IsTold roles net lines code role number told × (after ≡ before ++ told)

-- The refusal is by a rule, and its number is one of the text.
abbrev pub IsRuleIn : Net → Refusal → Type 0
IsRuleIn net r = (code : ℕ) × (role : ℕ) × (number : ℕ) × (r ≡ refusals.Rule code role number) × HasRule code × IsNumberIn net code number

-- The text goes on with what is said of this refusal.
abbrev pub AddsRefusal : List (List ℕ) → Net → List PointLines → Refusal → List ℕ → List ℕ → Type 0
AddsRefusal roles net lines r before after =
    (code : ℕ) × (role : ℕ) × (number : ℕ) × (r ≡ refusals.Rule code role number) × AddsTold roles net lines code role number before after
