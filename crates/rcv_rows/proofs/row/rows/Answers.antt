-- A shown entry has its row behind the fold of those before it; at the end all are told.
use Rattle.std.proofs.Common.{◌≡◌, ◌+◌, List, [], ◌∷◌, ◌++◌, length, sym, ap, subst, arith}
use Rattle.rcv_picture.specs.declared.group.Says.{Says}
use Rattle.rcv_rows.specs.Told.{IsMarked}
use Rattle.rcv_rows.specs.Adding.{IsFolded}
use Rattle.rcv_rows.proofs.Adding.{IsGoing, going_on, ready, shown_next, all_told, marked_told}
use Rattle.rcv_rows.proofs.Kept.{is_not}
use Rattle.rcv_rows.proofs.row.rows.Goals as goal
use Rattle.rcv_rows.proofs.row.rows.Goals.{then-is_marked+in_ok-fold+in_ok-push, else-is_marked}

pub loop-place-preserved : goal.loop-place-preserved
loop-place-preserved c = λ kept has.
    let entries = c.args.record.now.entries in
    let marks = c.args.shown.now in
    let place = c.loop-place.place in
    elim c.if-is_marked.branch [
      | then-is_marked+in_ok-fold+in_ok-push w ↦
          let mark = c.is_marked.ensures.0 w.if-is_marked.true in
          let r = ready kept entries marks c.loop-place.rows.items w.fold.new.rows.items c.loop-place.behind place (c.loop-place.invariant kept has) (w.in_ok-fold.ensures kept has) in
          let next = shown_next kept entries marks w.fold.new.rows.items place w.row_of.result r mark (w.row_of.ensures kept has) in
          subst (λ (rows : List Says). IsGoing kept entries marks rows c.if-is_marked.behind (place + 1)) (ap (λ v. v.items) (sym w.rows-is))
          (subst (λ (rows : List Says). IsGoing kept entries marks rows c.if-is_marked.behind (place + 1)) (sym w.in_ok-push.ensures.items)
          (subst (λ n. IsGoing kept entries marks (w.fold.new.rows.items ++ w.row_of.result ∷ []) n (place + 1)) (sym w.behind-is) next))
      | else-is_marked w ↦
          subst (λ (rows : List Says). IsGoing kept entries marks rows c.if-is_marked.behind (place + 1)) (ap (λ v. v.items) (sym w.rows-is))
          (subst (λ n. IsGoing kept entries marks c.loop-place.rows.items n (place + 1)) (sym w.behind-is)
          (going_on kept entries marks c.loop-place.rows.items c.loop-place.behind place (c.loop-place.invariant kept has) (is_not (IsMarked marks place) c.is_marked.result c.is_marked.ensures w.if-is_marked.false)))
    ]

pub returns-clause-rows : goal.returns-clause-rows
returns-clause-rows c = λ kept has.
    let entries = c.args.record.now.entries in
    let marks = c.args.shown.now in
    let same = c.requires in
    let done = c.loop-place-test.false in
    let up = c.loop-place.auto.place-end in
    let at : c.loop-place.place ≡ length entries = omega (arith, same, done, up) in
    let going = subst (IsGoing kept entries marks c.loop-place.rows.items c.loop-place.behind) at (c.loop-place.invariant kept has) in
    let folded = subst (λ n. IsFolded kept entries c.loop-place.behind n c.loop-place.rows.items c.fold-2.new.rows.items) same (c.in_ok-fold-2.ensures kept has) in
    all_told kept entries marks c.fold-2.new.rows.items (ready kept entries marks c.loop-place.rows.items c.fold-2.new.rows.items c.loop-place.behind (length entries) going folded)

pub returns-clause-marked : goal.returns-clause-marked
returns-clause-marked c =
    let kept = c.entries-entries.ensures.is.kept in
    let has = c.entries-entries.ensures.is.has in
    let entries = c.args.record.now.entries in
    let marks = c.args.shown.now in
    let same = c.requires in
    let done = c.loop-place-test.false in
    let up = c.loop-place.auto.place-end in
    let at : c.loop-place.place ≡ length entries = omega (arith, same, done, up) in
    let going = subst (IsGoing kept entries marks c.loop-place.rows.items c.loop-place.behind) at (c.loop-place.invariant kept has) in
    let folded = subst (λ n. IsFolded kept entries c.loop-place.behind n c.loop-place.rows.items c.fold-2.new.rows.items) same (c.in_ok-fold-2.ensures kept has) in
    marked_told kept entries marks c.fold-2.new.rows.items (ready kept entries marks c.loop-place.rows.items c.fold-2.new.rows.items c.loop-place.behind (length entries) going folded) same
