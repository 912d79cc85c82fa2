-- The counts are as they were read, so the later ones are in range.
use Rattle.std.proofs.Common.{rules, ◌≡◌, ℕ, List, map, length, sym, subst}
use Rattle.std.specs.List.{All}
use Rattle.rcv_model.specs.Plan.{PlanLine}
use Rattle.rcv_plan.specs.declared.line.Line.{Line}
use Rattle.rcv_plan.specs.Lines.{line_in, IsPlanFor, HasReadCount}
use Rattle.rcv_plan.specs.Shifted.{shifted}
use Rattle.rcv_plan.proofs.Shifting.{counts_of, shifted_fits, shifted_planned}
use Rattle.rcv_plan.proofs.plan.Plan.shifted.Goals as goal

pub shifted_lines-requires-clause-counts : goal.shifted_lines-requires-clause-counts
shifted_lines-requires-clause-counts c =
    let counts : All HasReadCount (map line_in c.self.inside.lines.items) = subst (λ (p : List PlanLine). All HasReadCount p) (sym c.self.view_is) c.requires.counts in
    subst (λ (lines : List Line). All (λ line. HasReadCount (line_in line)) lines) (sym c.as_slice.ensures.value) (counts_of c.self.inside.lines.items counts)

pub returns-in_err-lines-clause-planned : goal.returns-in_err-lines-clause-planned
returns-in_err-lines-clause-planned c = λ roles p. shifted_planned roles c.args.by c.args.self.now c.requires.by c.requires.counts p

pub of-requires-clause-fits : goal.of-requires-clause-fits
of-requires-clause-fits c =
    let counts : All HasReadCount (map line_in c.self.inside.lines.items) = subst (λ (p : List PlanLine). All HasReadCount p) (sym c.self.view_is) c.requires.counts in
    let later : map line_in c.in_ok-lines.lines.items ≡ shifted c.args.by (map line_in c.self.inside.lines.items) = search rules in
    let roles : c.len.result ≡ length c.self.inside.rows.items = search rules in
    subst (λ (m : ℕ). IsPlanFor m (map line_in c.in_ok-lines.lines.items)) (sym roles)
    (subst (λ (p : List PlanLine). IsPlanFor (length c.self.inside.rows.items) p) (sym later)
    (shifted_fits (length c.self.inside.rows.items) c.args.by (map line_in c.self.inside.lines.items) c.requires.by counts c.self.invariant.fits))

pub returns-clause-planned : goal.returns-clause-planned
returns-clause-planned c = λ roles p. shifted_planned roles c.args.by c.args.self.now c.requires.by c.requires.counts p
