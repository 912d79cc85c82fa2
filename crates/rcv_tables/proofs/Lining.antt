-- What the line offers at each place, as it is read and found.
use Rattle.std.proofs.Common.{◌≡◌, ℕ, ◌<◌, ◌≤◌, List, [], length, get_or, sym, ◌∙◌, subst, arith}
use Rattle.std.specs.Prelude.{slice_index_or}
use Rattle.rcv_model.specs.Net.{Net, IsIn}
use Rattle.rcv_points.specs.Follow.{PointsView, AreWithin, net_in}
use Rattle.rcv_points.proofs.Adding.{in_at}
use Rattle.rcv_points.proofs.Within.{IsOfText}
use Rattle.rcv_tables.specs.Wanted.{AreChannels}
use Rattle.rcv_tree.specs.declared.role.RoleSet.{RoleSet}
use Rattle.rcv_tables.specs.Line.{line}
use Rattle.rcv_tables.specs.OnLine.{AreOnLine}
use Rattle.rcv_tables.proofs.InLine.{line_text}

-- the point at an index of what the line offers at a place
pub on_line_is : (points : PointsView) (places : List (List ℕ)) (k : ℕ) (xs : List ℕ) (i x : ℕ) → AreWithin points → AreOnLine points places → k ≤ length points.messages → xs ≡ slice_index_or places k [] → i < length xs → x ≡ get_or xs i 0 → IsOfText points x
on_line_is points places k xs i x within are low same lt q =
    let t = line_text (net_in points) 8 within.proper k x (subst (IsIn x) (same ∙ are.each k low) (subst (λ y. IsIn y xs) (sym q) (in_at xs i lt))) in
    let few = within.few in
    let last = t.1 in
    record { first = t.0; last = last; few = omega (arith, last, few) }

-- channels are those of the line, too
pub channels_in_line : (net : Net) (sets : List RoleSet) → AreChannels net sets → AreChannels (line net) sets
channels_in_line net sets are = record { all = are.all; each = are.each }
