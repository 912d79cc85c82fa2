-- All journals were written, or a beginning of them.
use Rattle.std.proofs.Common.{◌≡◌, ℕ, Bool, true, false, List, [], Option, map, refl, subst, inl, inr, arith, Bor}
use Rattle.rcv_page.specs.Page.{PageView, state, Adds}
use Rattle.rcv_page.proofs.Adding.{whole_written, partly_written}
use Rattle.rcv_joined.specs.Joined.{joined}
use Rattle.rcv_top.specs.Sharing.{lent}
use Rattle.rcv_top.proofs.Adding.{all_run}
use Rattle.rcv_top.proofs.journals.write_journals_of.Goals as goal

-- through a page that was empty, of texts that are these
through : (written now : Option (List ℕ)) (faults later : ℕ) (page : PageView) (json : Bool) (texts all : List (Bor (List ℕ))) (failed : Bool) → page ≡ record { held = []; failed = false } → texts ≡ all
    → Adds (state written faults page.held page.failed) (state now later [] failed) (joined json 0 (map (λ t. t.now) texts))
    → Adds (state written faults [] false) (state now later [] failed) (joined json 0 (map (λ t. t.now) all))
through written now faults later page json texts all failed empty same adds =
    subst (λ (ts : List (Bor (List ℕ))). Adds (state written faults [] false) (state now later [] failed) (joined json 0 (map (λ t. t.now) ts))) same
    (subst (λ (p : PageView). Adds (state written faults p.held p.failed) (state now later [] failed) (joined json 0 (map (λ t. t.now) texts))) empty adds)

pub returns-in-Ok-clause-later : goal.returns-in-Ok-clause-later
returns-in-Ok-clause-later g c =
    let all = c.in_ok-journals.journals in
    let whole = whole_written (g.K.Sink.written c.args.sink.now) (g.K.Sink.written c.write_journals.new.sink) (g.K.Sink.faults c.args.sink.now) (g.K.Sink.faults c.write_journals.new.sink) (joined c.args.json 0 (lent all))
    (through (g.K.Sink.written c.args.sink.now) (g.K.Sink.written c.write_journals.new.sink) (g.K.Sink.faults c.args.sink.now) (g.K.Sink.faults c.write_journals.new.sink) c.in_ok-page.page c.args.json c.as_slice.result.now all.texts.items false c.in_ok-page.ensures c.as_slice.ensures.value c.in-Ok.ensures.done) in
    let calm = whole.1 in
    omega (arith, calm)

pub returns-in-Ok-clause-writes : goal.returns-in-Ok-clause-writes
returns-in-Ok-clause-writes g c =
    let all = c.in_ok-journals.journals in
    let whole = whole_written (g.K.Sink.written c.args.sink.now) (g.K.Sink.written c.write_journals.new.sink) (g.K.Sink.faults c.args.sink.now) (g.K.Sink.faults c.write_journals.new.sink) (joined c.args.json 0 (lent all))
    (through (g.K.Sink.written c.args.sink.now) (g.K.Sink.written c.write_journals.new.sink) (g.K.Sink.faults c.args.sink.now) (g.K.Sink.faults c.write_journals.new.sink) c.in_ok-page.page c.args.json c.as_slice.result.now all.texts.items false c.in_ok-page.ensures c.as_slice.ensures.value c.in-Ok.ensures.done) in
    record {
      status = all.status;
      bytes = joined c.args.json 0 (lent all);
      is_kind = all_run c.args.json c.args.jobs.now all c.requires.as_json c.in_ok-journals.ensures;
      wrote = inl (refl, whole.0, whole.1);
    }

pub returns-clause-later : goal.returns-clause-later
returns-clause-later g c =
    let all = c.in_ok-journals.journals in
    (partly_written (g.K.Sink.written c.args.sink.now) (g.K.Sink.written c.write_journals.new.sink) (g.K.Sink.faults c.args.sink.now) (g.K.Sink.faults c.write_journals.new.sink) (joined c.args.json 0 (lent all))
    (through (g.K.Sink.written c.args.sink.now) (g.K.Sink.written c.write_journals.new.sink) (g.K.Sink.faults c.args.sink.now) (g.K.Sink.faults c.write_journals.new.sink) c.in_ok-page.page c.args.json c.as_slice.result.now all.texts.items true c.in_ok-page.ensures c.as_slice.ensures.value c.in-Err.ensures.failed)).later

pub returns-clause-writes : goal.returns-clause-writes
returns-clause-writes g c =
    let all = c.in_ok-journals.journals in
    let some = partly_written (g.K.Sink.written c.args.sink.now) (g.K.Sink.written c.write_journals.new.sink) (g.K.Sink.faults c.args.sink.now) (g.K.Sink.faults c.write_journals.new.sink) (joined c.args.json 0 (lent all))
    (through (g.K.Sink.written c.args.sink.now) (g.K.Sink.written c.write_journals.new.sink) (g.K.Sink.faults c.args.sink.now) (g.K.Sink.faults c.write_journals.new.sink) c.in_ok-page.page c.args.json c.as_slice.result.now all.texts.items true c.in_ok-page.ensures c.as_slice.ensures.value c.in-Err.ensures.failed) in
    record {
      status = all.status;
      bytes = joined c.args.json 0 (lent all);
      is_kind = all_run c.args.json c.args.jobs.now all c.requires.as_json c.in_ok-journals.ensures;
      wrote = inr (refl, some.rose, some.beginning);
    }
