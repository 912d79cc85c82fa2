-- One part behind the other.
use Rattle.std.proofs.Common.{List, [], ◌∷◌, ◌++◌, ◌∙◌, ap, subst}
use Rattle.std.specs.Prelude.{All}
use Rattle.std.proofs.lemmas.List.Elements.{All-same, All-nil}
use Rattle.rcv_guide.specs.Remembered.{IsDeclaredIn, AreRemembered, seeds_of}
use Rattle.rcv_dialogue.specs.declared.line.Again.{Again}
use Rattle.rcv_dialogue.specs.declared.line.Again.TheVariants as again
use Rattle.rcv_dialogue.specs.Answers.{NamesInAgain}
use Rattle.rcv_guided.specs.Session.{SessionView}
use Rattle.rcv_guided.specs.Hearing.{accepted_of}
use Rattle.rcv_guided.proofs.Snapshots.{are_lines, one_named}
use Rattle.rcv_guided.proofs.session.GuidedSession.snapshot.Goals as goal

pub add_flights_again-requires : goal.add_flights_again-requires
add_flights_again-requires c =
    subst (λ (s : SessionView). All (IsDeclaredIn s.guide) c.as_slice.result.now) c.self.view_is
    (All-same (IsDeclaredIn c.self.inside.guide) c.as_slice.result.now c.in_ok-seeds.seeds.items c.as_slice.ensures.value c.in_ok-seeds.ensures.declared)

pub add_events-requires : goal.add_events-requires
add_events-requires c =
    subst (λ (s : SessionView). All (IsDeclaredIn s.guide) c.as_slice-2.result.now) c.self.view_is
    (All-same (IsDeclaredIn c.self.inside.guide) c.as_slice-2.result.now c.in_ok-events.events.items c.as_slice-2.ensures.value c.in_ok-events.ensures.declared)

pub returns-clause-value : goal.returns-clause-value
returns-clause-value c = record {
  events = c.in_ok-events.events.items;
  remembered = subst (λ (s : SessionView). AreRemembered s.guide c.in_ok-events.events.items) c.self.view_is c.in_ok-events.ensures;
  lines_are = are_lines c.args.self.now c.in_ok-events.events.items c.as_slice.result.now c.as_slice-2.result.now c.extent.result c.push.new.self.items c.add_roles.new.lines.items c.add_flights_again.new.lines.items
      c.add_events.new.lines.items c.add_saves.new.lines.items
      c.extent.ensures c.as_slice-2.ensures.value (c.as_slice.ensures.value ∙ c.in_ok-seeds.ensures.value ∙ ap (λ (s : SessionView). seeds_of s.guide) c.self.view_is)
      (c.in_ok-push.ensures.items ∙ ap (λ (l : List Again). l ++ again.Session c.extent.result ∷ []) c.new-lines.ensures.items) c.in_ok-add_roles.ensures.value c.in_ok-add_flights_again.ensures.value c.in_ok-add_events.ensures.value c.in_ok-add_saves.ensures.value;
}

pub returns-clause-named : goal.returns-clause-named
returns-clause-named c =
    c.in_ok-add_saves.ensures.named (c.in_ok-add_events.ensures.named (c.in_ok-add_flights_again.ensures.named (c.in_ok-add_roles.ensures.named
    (one_named c.args.self.now [] c.push.new.self.items (again.Session c.extent.result) (c.in_ok-push.ensures.items ∙ ap (λ (l : List Again). l ++ again.Session c.extent.result ∷ []) c.new-lines.ensures.items)
    tt (All-nil (NamesInAgain (accepted_of c.args.self.now)))))))
