-- One role's undone events more.
use Rattle.std.proofs.Common.{◌≡◌, ℕ, suc, ◌+◌, ◌<◌, length, ap, arith}
use Rattle.std.specs.Prelude.{slice_index}
use Rattle.std.specs.List.{sum_by, range_with_len}
use Rattle.rcv_ledger.specs.Logs.{log_at}
use Rattle.rcv_guide.proofs.Filling.{sum_up_to, sum_part}
use Rattle.rcv_guide.proofs.failing.undone.Goals as goal

pub overflow_add-undone : goal.overflow_add-undone
overflow_add-undone c =
    let low : c.loop-role.role < length c.args.ledger.now.logs = omega (arith, c.loop-role-test.true, c.roles-role-end.ensures) in
    let own = c.made.ensures in
    let last = sum_up_to (λ (r : ℕ). length (log_at c.args.ledger.now.logs r)) c.loop-role.role in
    let part = sum_part (λ (r : ℕ). length (log_at c.args.ledger.now.logs r)) 0 (suc c.loop-role.role) (length c.args.ledger.now.logs) (omega (arith, low)) in
    omega (arith, own, last, part, c.requires.few, c.loop-role.invariant)

pub loop-role-preserved : goal.loop-role-preserved
loop-role-preserved c =
    let low : c.loop-role.role < length c.args.ledger.now.logs = omega (arith, c.loop-role-test.true, c.roles-role-end.ensures) in
    let own = c.made.ensures in
    let one : c.loop-role.role + 1 ≡ suc c.loop-role.role = omega arith in
    let few = c.requires.counts c.loop-role.role low in
    let a = ap (λ n. sum_by (λ (r : ℕ). length (log_at c.args.ledger.now.logs r)) (range_with_len 0 n)) one in
    let b = ap (λ n. sum_by (λ (r : ℕ). slice_index c.args.counts.now r) (range_with_len 0 n)) one in
    omega (arith, own, few, a, b, sum_up_to (λ (r : ℕ). length (log_at c.args.ledger.now.logs r)) c.loop-role.role, sum_up_to (λ (r : ℕ). slice_index c.args.counts.now r) c.loop-role.role, c.loop-role.invariant)
