-- A line, or the front of one, more.
use Rattle.std.proofs.Common.{◌≡◌, ◌∙◌, ◌+◌, ◌-◌, ◌<◌, ◌≤◌, ◌++◌, ℕ, true≢false, List, [], take, drop, length, Err, refl, sym, ap, subst, arith, append-nil, length-take, length-drop, length-append, take_all, ◌∷◌}
use Rattle.std.proofs.lemmas.Result.{err_from_is_err_and}
use Rattle.rcv_io.specs.Source.{Took}
use Rattle.rcv_io.proofs.Taking.{took_more}
use Rattle.rcv_pipe.specs.Opening.{Opens, most}
use Rattle.rcv_pipe.specs.Pipe.{PipeView, roomy}
use Rattle.rcv_pipe.proofs.Openings.{IsSoFar, add_failed, fill_failed, front_too_long, goes_on, is_events_so, is_other_so, none_so_far, opened, piece_too_long, regrouped, so_far_more, too_long_so}
use Rattle.rcv_pipe.proofs.Waiting.{roomy_same}
use Rattle.rcv_pipe.proofs.opening.read_text.Goals as goal

-- All of a text from a place on.
rest_of : (xs ys : List ℕ) (line : ℕ) → xs ≡ ys → take (length xs - line) (drop line xs) ≡ drop line ys
rest_of xs ys line same = take_all (length xs - line) (drop line xs) (let short = length-drop line xs in omega (arith, short)) ∙ ap (drop line) same

pub returns-in_err-add-in-Some-clause-takes : goal.returns-in_err-add-in-Some-clause-takes
returns-in_err-add-in-Some-clause-takes g c =
    let gone = err_from_is_err_and c.from_residual.result c.from_residual.ensures.1 in
    let text = c.loop-feed.text.items in
    let feed = c.in-Some.feed in
    let inv = c.loop-feed.invariant in
    add_failed _ _ _ _ (text ++ c.loop-feed.pipe.held) _ _ gone.0 gone.1 inv.took inv.short
    (λ is. piece_too_long text c.loop-feed.pipe.held feed c.loop-feed.line inv.so_far c.in-Some.ensures.some
    (subst (λ (h : List ℕ). 1048587 < length text + length (take (feed + 1) h)) c.held.ensures.value (c.add.ensures.long (c.in_err-add-in-Some.was ∙ ap (λ e. Err e) (sym gone.2 ∙ is)))))
    (λ is. c.add.ensures.calm (c.in_err-add-in-Some.was ∙ ap (λ e. Err e) (sym gone.2 ∙ is)))
    (λ is. c.add.ensures.other (c.in_err-add-in-Some.was ∙ ap (λ e. Err e) (sym gone.2 ∙ is)))

pub returns-then-is_events-clause-takes : goal.returns-then-is_events-clause-takes
returns-then-is_events-clause-takes g c =
    let text = c.loop-feed.text.items in
    let held = c.loop-feed.pipe.held in
    let feed = c.in-Some.feed in
    let line = c.loop-feed.line in
    let inv = c.loop-feed.invariant in
    let s = inv.so_far in
    let f = c.in-Some.ensures.some in
    let added : c.add.new.text.items ≡ text ++ take (feed + 1) held = c.in_ok-add-in-Some.ensures.added ∙ ap (λ (h : List ℕ). text ++ take (feed + 1) h) c.held.ensures.value in
    let bytes = rest_of c.as_slice.result.now (text ++ take (feed + 1) held) line (c.as_slice.ensures.value ∙ added) in
    let is = is_events_so text held _ feed line s f bytes (c.is_events.ensures.0 c.if-is_events.true) in
    let cut : c.truncate.new.self.items ≡ take line (text ++ take (feed + 1) held) = c.truncate.ensures.items ∙ ap (take line) added in
    let short = length-take line (text ++ take (feed + 1) held) in
    let few = s.few in
    record {
      taken = text ++ held;
      took = inv.took;
      is = (
        subst (λ (p : PipeView). Opens (text ++ held) c.truncate.new.self.items p.held) (sym c.pass.ensures)
            (subst (λ (t : List ℕ). Opens (text ++ held) t (drop (feed + 1) held)) (sym cut) (opened text held feed line s f is)),
        subst (λ (t : List ℕ). length t ≤ most) (sym cut) (omega (arith, short, few)),
      );
      short = ap (λ (p : PipeView). p.long) c.pass.ensures;
    }

pub returns-then-line-gt-MOST-clause-takes : goal.returns-then-line-gt-MOST-clause-takes
returns-then-line-gt-MOST-clause-takes g c =
    let text = c.loop-feed.text.items in
    let held = c.loop-feed.pipe.held in
    let feed = c.in-Some.feed in
    let line = c.loop-feed.line in
    let inv = c.loop-feed.invariant in
    let s = inv.so_far in
    let f = c.in-Some.ensures.some in
    let added : c.add.new.text.items ≡ text ++ take (feed + 1) held = c.in_ok-add-in-Some.ensures.added ∙ ap (λ (h : List ℕ). text ++ take (feed + 1) h) c.held.ensures.value in
    let bytes = rest_of c.as_slice.result.now (text ++ take (feed + 1) held) line (c.as_slice.ensures.value ∙ added) in
    let other = is_other_so text held _ feed line s f bytes (λ e. true≢false (sym (c.is_events.ensures.1 e) ∙ c.if-is_events.false)) in
    let long = ap length added in
    let many : most < length (text ++ take (feed + 1) held) = omega (arith, long, c.len-line.ensures, c.if-line-gt-MOST.true) in
    record {
      taken = text ++ held;
      took = inv.took;
      is = too_long_so text held feed line s f other many;
      short = ap (λ (p : PipeView). p.long) c.pass.ensures;
    }

pub loop-feed-preserved-else-line-gt-MOST : goal.loop-feed-preserved-else-line-gt-MOST
loop-feed-preserved-else-line-gt-MOST g c =
    let text = c.loop-feed.text.items in
    let held = c.loop-feed.pipe.held in
    let feed = c.in-Some.feed in
    let line = c.loop-feed.line in
    let inv = c.loop-feed.invariant in
    let s = inv.so_far in
    let f = c.in-Some.ensures.some in
    let added : c.add.new.text.items ≡ text ++ take (feed + 1) held = c.in_ok-add-in-Some.ensures.added ∙ ap (λ (h : List ℕ). text ++ take (feed + 1) h) c.held.ensures.value in
    let bytes = rest_of c.as_slice.result.now (text ++ take (feed + 1) held) line (c.as_slice.ensures.value ∙ added) in
    let other = is_other_so text held _ feed line s f bytes (λ e. true≢false (sym (c.is_events.ensures.1 e) ∙ c.if-is_events.false)) in
    let behind : c.pass.new.self.held ≡ drop (feed + 1) held = ap (λ (p : PipeView). p.held) c.pass.ensures in
    let whole : text ++ held ≡ c.add.new.text.items ++ c.pass.new.self.held =
    regrouped text held feed f ∙ ap (λ (t : List ℕ). t ++ drop (feed + 1) held) (sym added) ∙ ap (λ (h : List ℕ). c.add.new.text.items ++ h) (sym behind) in
    let same = ap length added in
    let long : c.len-line.result ≡ length (text ++ take (feed + 1) held) = omega (arith, same, c.len-line.ensures) in
    let few : length (text ++ take (feed + 1) held) ≤ most = omega (arith, long, c.if-line-gt-MOST.false) in
    let dropped = length-drop (feed + 1) held in
    let held-few = inv.few in
    record {
      took = subst (λ (t : List ℕ). Took (g.S.Source.rest c.args.source.now) (g.S.Source.rest c.loop-feed.source) (g.S.Source.given c.args.source.now) (g.S.Source.given c.loop-feed.source) t) whole inv.took;
      so_far = subst (λ (n : ℕ). IsSoFar c.add.new.text.items n) (sym long) (subst (λ (t : List ℕ). IsSoFar t (length (text ++ take (feed + 1) held))) (sym added) (goes_on text held feed line s f other few));
      room = subst (λ (t : List ℕ). length t ≤ 1048587) (sym added) (omega (arith, few));
      short = ap (λ (p : PipeView). p.long) c.pass.ensures;
      few = subst (λ (h : List ℕ). length h ≤ 65536) (sym behind) (omega (arith, dropped, held-few));
      fine = inv.fine;
    }

pub returns-in_err-add-in-None-clause-takes : goal.returns-in_err-add-in-None-clause-takes
returns-in_err-add-in-None-clause-takes g c =
    let gone = err_from_is_err_and c.from_residual-in_err-add-in-None.result c.from_residual-in_err-add-in-None.ensures.1 in
    let text = c.loop-feed.text.items in
    let inv = c.loop-feed.invariant in
    add_failed _ _ _ _ (text ++ c.loop-feed.pipe.held) _ _ gone.0 gone.1 inv.took inv.short
    (λ is. front_too_long text c.loop-feed.pipe.held c.loop-feed.line inv.so_far c.in-None.ensures.none
    (subst (λ (h : List ℕ). 1048587 < length text + length h) c.held-in-None.ensures.value (c.add-in-None.ensures.long (c.in_err-add-in-None.was ∙ ap (λ e. Err e) (sym gone.2 ∙ is)))))
    (λ is. c.add-in-None.ensures.calm (c.in_err-add-in-None.was ∙ ap (λ e. Err e) (sym gone.2 ∙ is)))
    (λ is. c.add-in-None.ensures.other (c.in_err-add-in-None.was ∙ ap (λ e. Err e) (sym gone.2 ∙ is)))

pub returns-in_err-fill-in-None-clause-takes : goal.returns-in_err-fill-in-None-clause-takes
returns-in_err-fill-in-None-clause-takes g c =
    let gone = err_from_is_err_and c.from_residual-in_err-fill-in-None.result c.from_residual-in_err-fill-in-None.ensures.1 in
    let text = c.loop-feed.text.items in
    let held = c.loop-feed.pipe.held in
    let inv = c.loop-feed.invariant in
    let pipe : c.fill.new.self ≡ record { held = []; long = c.loop-feed.pipe.long } =
    c.in_err-fill-in-None.ensures.none ∙ ap roomy c.clear.ensures ∙ roomy_same (record { held = []; long = c.loop-feed.pipe.long }) (omega arith) in
    fill_failed _ _ _ _ (text ++ held) _ _ gone.0 gone.1 gone.2
    (subst (λ rest. Took (g.S.Source.rest c.args.source.now) rest (g.S.Source.given c.args.source.now) (g.S.Source.given c.fill.new.source) (text ++ held)) (sym c.in_err-fill-in-None.ensures.rest)
    (subst (λ (n : ℕ). Took (g.S.Source.rest c.args.source.now) (g.S.Source.rest c.loop-feed.source) (g.S.Source.given c.args.source.now) n (text ++ held)) (sym c.in_err-fill-in-None.ensures.given) inv.took))
    (ap (λ (p : PipeView). p.long) pipe ∙ inv.short)
    (none_so_far (text ++ held) c.loop-feed.line (so_far_more text held c.loop-feed.line inv.so_far c.in-None.ensures.none))

pub returns-then-branch-eq0-clause-takes : goal.returns-then-branch-eq0-clause-takes
returns-then-branch-eq0-clause-takes g c =
    let text = c.loop-feed.text.items in
    let held = c.loop-feed.pipe.held in
    let inv = c.loop-feed.invariant in
    let r = c.in_ok-fill-in-None.ensures.reads in
    let took = took_more _ _ _ _ _ _ (text ++ held) r.read inv.took r.front r.number in
    let none : r.read ≡ [] = nothing r.read (r.count_is ∙ c.if-branch-eq0.true) in
    let cleared = roomy_same (record { held = []; long = c.loop-feed.pipe.long }) (omega arith) in
    record {
      taken = text ++ held;
      took = subst (λ (t : List ℕ). Took (g.S.Source.rest c.args.source.now) (g.S.Source.rest c.fill.new.source) (g.S.Source.given c.args.source.now) (g.S.Source.given c.fill.new.source) t)
          (ap (λ (x : List ℕ). (text ++ held) ++ x) none ∙ append-nil (text ++ held)) took;
      is = (none_so_far (text ++ held) c.loop-feed.line (so_far_more text held c.loop-feed.line inv.so_far c.in-None.ensures.none), r.end c.if-branch-eq0.true);
      short = c.in_ok-fill-in-None.ensures.long ∙ ap (λ (p : PipeView). (roomy p).long) c.clear.ensures ∙ ap (λ (p : PipeView). p.long) cleared ∙ inv.short;
    }
  where
    nothing : (xs : List ℕ) → length xs ≡ 0 → xs ≡ []
    nothing [] is = refl
    nothing (x ∷ xs) is = absurd (omega (arith, is))

pub loop-feed-preserved : goal.loop-feed-preserved
loop-feed-preserved g c =
    let text = c.loop-feed.text.items in
    let held = c.loop-feed.pipe.held in
    let inv = c.loop-feed.invariant in
    let r = c.in_ok-fill-in-None.ensures.reads in
    let took = took_more _ _ _ _ _ _ (text ++ held) r.read inv.took r.front r.number in
    let cleared = roomy_same (record { held = []; long = c.loop-feed.pipe.long }) (omega arith) in
    let added : c.add-in-None.new.text.items ≡ text ++ held = c.in_ok-add-in-None.ensures.added ∙ ap (λ (h : List ℕ). text ++ h) c.held-in-None.ensures.value in
    let read : c.fill.new.self.held ≡ r.read = r.held ∙ ap (λ (p : PipeView). (roomy p).held ++ r.read) c.clear.ensures ∙ ap (λ (p : PipeView). p.held ++ r.read) cleared in
    let fits = c.in_ok-add-in-None.ensures.fits in
    let both = ap length c.in_ok-add-in-None.ensures.added in
    record {
      took = subst (λ (t : List ℕ). Took (g.S.Source.rest c.args.source.now) (g.S.Source.rest c.fill.new.source) (g.S.Source.given c.args.source.now) (g.S.Source.given c.fill.new.source) t)
          (ap (λ (t : List ℕ). t ++ r.read) (sym added) ∙ ap (λ (h : List ℕ). c.add-in-None.new.text.items ++ h) (sym read)) took;
      so_far = subst (λ (t : List ℕ). IsSoFar t c.loop-feed.line) (sym added) (so_far_more text held c.loop-feed.line inv.so_far c.in-None.ensures.none);
      room = omega (arith, fits, both, length-append text c.held-in-None.result.now);
      short = c.in_ok-fill-in-None.ensures.long ∙ ap (λ (p : PipeView). (roomy p).long) c.clear.ensures ∙ ap (λ (p : PipeView). p.long) cleared ∙ inv.short;
      few = c.fill.ensures.few;
      fine = c.in_ok-fill-in-None.ensures.fine ∙ inv.fine;
    }
