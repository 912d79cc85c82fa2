use Rattle.std.proofs.Common.{◌≡◌, ◌+◌, length, refl, sym, ap, subst, ◌∙◌, arith}
use Rattle.std.proofs.lemmas.Option.{slice_get-get_or}
use Rattle.rcv_do.proofs.Reaching.{AreAlone, AreJoined, joined_at_first, call_added, place_joined, all_joined, written}
use Rattle.rcv_do.proofs.reach.reached.Goals as goal

pub loop-call-init : goal.loop-call-init
loop-call-init c =
    let all : c.loop-place.place ≡ c.args.count = omega arith in
    joined_at_first c.args.calls.now c.args.count 0 c.loop-place.rows.items c.requires.few refl (subst (λ n. AreAlone n c.loop-place.rows.items) all c.loop-place.invariant)

pub loop-call-preserved : goal.loop-call-preserved
loop-call-preserved c =
    let long : c.loop-call.rows.len ≡ length c.loop-call.rows.items = omega arith in
    let value : c.as_mut_slice.result.now ≡ c.loop-call.rows.items = c.as_mut_slice.ensures.value in
    subst (AreJoined c.args.calls.now c.args.count (c.loop-call.call-index + 1) 0)
    (sym (written c.loop-call.rows.len c.add_call.new.rows c.loop-call.rows.items long (c.add_call.ensures.long ∙ ap length value)))
    (call_added c.args.calls.now c.args.count c.loop-call.call-index _ c.as_mut_slice.result.now c.add_call.new.rows c.requires.few c.requires.inside
    (slice_get-get_or c.args.calls.now c.loop-call.call-index _ c.loop-call-test.true) c.add_call.ensures.long c.add_call.ensures.added
    (subst (AreJoined c.args.calls.now c.args.count c.loop-call.call-index 0) (sym value) c.loop-call.invariant))

pub loop-place-2-preserved : goal.loop-place-2-preserved
loop-place-2-preserved c =
    let long : c.loop-place-2.rows.len ≡ length c.loop-place-2.rows.items = omega arith in
    let value : c.as_mut_slice-in-loop-place-2.result.now ≡ c.loop-place-2.rows.items = c.as_mut_slice-in-loop-place-2.ensures.value in
    let has_long : length c.as_mut_slice-in-loop-place-2.result.now ≡ c.args.count = ap length value ∙ c.loop-place-2.invariant.long in
    subst (AreJoined c.args.calls.now c.args.count (length c.args.calls.now) (c.loop-place-2.place + 1))
    (sym (written c.loop-place-2.rows.len c.join_through.new.rows c.loop-place-2.rows.items long (c.join_through.ensures.long ∙ ap length value)))
    (place_joined c.args.calls.now c.args.count (length c.args.calls.now) c.loop-place-2.place c.as_mut_slice-in-loop-place-2.result.now c.join_through.new.rows c.requires.few c.requires.inside
    c.loop-place-2-test.true c.join_through.ensures.long (λ i j lt lj. c.join_through.ensures.joined i j (omega (arith, lt, has_long)) lj)
    (subst (AreJoined c.args.calls.now c.args.count (length c.args.calls.now) c.loop-place-2.place) (sym value) c.loop-place-2.invariant))

pub returns : goal.returns
returns c =
    all_joined c.args.calls.now c.args.count (length c.args.calls.now) c.loop-place-2.place c.loop-place-2.rows.items c.requires.few c.requires.inside (omega arith) c.loop-place-2-test.false c.loop-place-2.invariant
