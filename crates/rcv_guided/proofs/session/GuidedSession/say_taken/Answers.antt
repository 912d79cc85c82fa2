-- The lists are those of the answer.
use Rattle.std.proofs.Common.{◌≡◌, ℕ, ◌<◌, ◌++◌, List, length, map, sym, ◌∙◌, ap, subst, arith}
use Rattle.std.specs.Prelude.{All, OnOk, nat_lt, slice_index}
use Rattle.std.specs.List.{filter, range_with_len}
use Rattle.std.proofs.lemmas.List.Elements.{All-same}
use Rattle.rcv_tree.specs.Bits.{has_bit}
use Rattle.rcv_dialogue.specs.declared.answer.Answer.{Answer}
use Rattle.rcv_dialogue.specs.Answers.{answer_text, IsNamed}
use Rattle.rcv_guided.specs.Session.{SessionView, roles_in}
use Rattle.rcv_guided.specs.Hearing.{accepted_of}
use Rattle.rcv_guided.specs.Counts.{made_of}
use Rattle.rcv_guided.specs.Flights.{flights_to_all, IsFlight}
use Rattle.rcv_guided.proofs.Answered.{taken_answer, taken_named, taken_said}
use Rattle.rcv_guided.proofs.session.GuidedSession.say_taken.Goals as goal

pub raised-higher-requires : goal.raised-higher-requires
raised-higher-requires c =
    let same = ap (λ (l : List ℕ). length l) c.as_slice.ensures.value in
    let all = c.self.invariant.incarnations in
    let value = c.roles-roles.ensures.value in
    let few = c.roles-roles.ensures.few in
    omega (arith, same, all, value, few)

pub say-requires : goal.say-requires
say-requires c =
    let roles = ap (λ (s : SessionView). roles_in s) c.self.view_is in
    let is = taken_answer c.args.self.now c.args.before.now c.args.taken.now c.all_made-made.result c.self.inside.incarnations.items c.raised-higher.result.0 c.roles-roles.result
    (c.roles-roles.ensures.value ∙ roles) (c.self.invariant.incarnations ∙ roles)
    (subst (λ (s : SessionView). (r : ℕ) → r < roles_in s → slice_index c.all_made-made.result r ≡ made_of s r) c.self.view_is c.all_made-made.ensures.all)
    (ap (λ (s : SessionView). s.incarnations) c.self.view_is)
    (subst (λ (l : List ℕ). (r : ℕ) → r < length l → has_bit c.raised-higher.result.0 r ≡ nat_lt (slice_index c.args.before.now r) (slice_index l r)) c.as_slice.ensures.value c.raised-higher.ensures)
    c.concerned.result c.concerned.ensures (record { undone = c.undone.result; kept = c.as_slice-3.result }) c.as_slice-4.result.now c.as_slice-5.result.now c.undone.ensures (c.as_slice-3.ensures.value ∙ c.in_ok-kept.ensures)
    (c.as_slice-4.ensures.value ∙ subst (λ (l : List ℕ). c.in_ok-back.back.items ≡ map (λ r. record { role = r; count = slice_index c.all_made-made.result r; incarnation = slice_index l r }) (filter (has_bit c.raised-higher.result.0) (range_with_len 0 (length l)))) c.as_slice-2.ensures.value c.in_ok-back.ensures)
    (c.as_slice-5.ensures.value ∙ c.in_ok-flight.ensures.value ∙ ap (λ (s : SessionView). flights_to_all s.guide (filter (has_bit c.raised-higher.result.0) (range_with_len 0 (roles_in s)))) c.self.view_is) in
    subst (IsNamed (accepted_of c.args.self.now)) (sym c.answer.ensures)
    (taken_named c.args.self.now c.args.before.now c.args.taken.now (record { undone = c.undone.result; kept = c.as_slice-3.result }) c.as_slice-4.result c.as_slice-5.result is
    (All-same (IsFlight c.args.self.now.guide) c.as_slice-5.result.now c.in_ok-flight.flight.items c.as_slice-5.ensures.value (subst (λ (s : SessionView). All (IsFlight s.guide) c.in_ok-flight.flight.items) c.self.view_is c.in_ok-flight.ensures.declared)))

pub returns : goal.returns
returns c =
    let roles = ap (λ (s : SessionView). roles_in s) c.self.view_is in
    let is = taken_answer c.args.self.now c.args.before.now c.args.taken.now c.all_made-made.result c.self.inside.incarnations.items c.raised-higher.result.0 c.roles-roles.result
    (c.roles-roles.ensures.value ∙ roles) (c.self.invariant.incarnations ∙ roles)
    (subst (λ (s : SessionView). (r : ℕ) → r < roles_in s → slice_index c.all_made-made.result r ≡ made_of s r) c.self.view_is c.all_made-made.ensures.all)
    (ap (λ (s : SessionView). s.incarnations) c.self.view_is)
    (subst (λ (l : List ℕ). (r : ℕ) → r < length l → has_bit c.raised-higher.result.0 r ≡ nat_lt (slice_index c.args.before.now r) (slice_index l r)) c.as_slice.ensures.value c.raised-higher.ensures)
    c.concerned.result c.concerned.ensures (record { undone = c.undone.result; kept = c.as_slice-3.result }) c.as_slice-4.result.now c.as_slice-5.result.now c.undone.ensures (c.as_slice-3.ensures.value ∙ c.in_ok-kept.ensures)
    (c.as_slice-4.ensures.value ∙ subst (λ (l : List ℕ). c.in_ok-back.back.items ≡ map (λ r. record { role = r; count = slice_index c.all_made-made.result r; incarnation = slice_index l r }) (filter (has_bit c.raised-higher.result.0) (range_with_len 0 (length l)))) c.as_slice-2.ensures.value c.in_ok-back.ensures)
    (c.as_slice-5.ensures.value ∙ c.in_ok-flight.ensures.value ∙ ap (λ (s : SessionView). flights_to_all s.guide (filter (has_bit c.raised-higher.result.0) (range_with_len 0 (roles_in s)))) c.self.view_is) in
    taken_said c.say.result c.args.self.now c.args.text.now c.say.new.text c.args.before.now c.args.taken.now (record { undone = c.undone.result; kept = c.as_slice-3.result }) c.as_slice-4.result c.as_slice-5.result is
    (subst (λ (a : Answer). OnOk c.say.result (c.say.new.text ≡ c.args.text.now ++ answer_text (accepted_of c.args.self.now) a)) c.answer.ensures c.say.ensures)
