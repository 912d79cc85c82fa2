use Rattle.std.proofs.Common.{◌≡◌, ◌*◌, ◌≤◌, length, vec_capacity}
use Rattle.rcv_checkpoint.proofs.Patches.{NotedTo}
use Rattle.rcv_checkpoint.proofs.rows.note_all.Given as goal

abbrev pub invariant-loop-quarter : goal.invariant-loop-quarter
invariant-loop-quarter l =
    NotedTo (l.quarter * 4) l.fn.places.items l.places.items l.fn.values.items l.values.items l.fn.vars l.vars l.to l.changed
    × (vec_capacity l.fn.places ≤ vec_capacity l.places)
    × (vec_capacity l.fn.values ≤ vec_capacity l.values)

abbrev pub invariant-loop-place : goal.invariant-loop-place
invariant-loop-place l =
    NotedTo l.place l.fn.places.items l.places.items l.fn.values.items l.values.items l.fn.vars l.vars-inside.0 l.to l.changed
    × (length l.fn.vars ≡ 16)
    × (vec_capacity l.fn.places ≤ vec_capacity l.places)
    × (vec_capacity l.fn.values ≤ vec_capacity l.values)
