-- A place that wasn't found yet has room, and stands last from now on.
use Rattle.std.proofs.Common.{◌+◌, take, subst, sym, set}
use Rattle.rcv_model.specs.Net.{IsIn}
use Rattle.rcv_points.specs.Found.{Adds, Is}
use Rattle.rcv_points.proofs.Finding.{no_flag_is_up, has_room, one_more, adds_one}
use Rattle.rcv_points.proofs.Marking.{found_one}
use Rattle.rcv_points.proofs.places.Places.add.Goals as goal

pub bounds-self-inside-self-inside : goal.bounds-self-inside-self-inside
bounds-self-inside-self-inside c = has_room c.self.inside.flags c.self.inside.items c.self.inside.count c.args.place c.self.invariant.once c.requires (λ i. no_flag_is_up (c.if-not-has.ensures.1 (subst (IsIn c.args.place) c.self.view_is i)))

pub invariant_of-self : goal.invariant_of-self
invariant_of-self c = found_one c.self.inside.flags c.self.inside.items c.self.inside.count c.args.place c.self.inside.points.0 c.only.result.0 c.union-self-inside.result.0 c.self.invariant c.requires (λ i. no_flag_is_up (c.if-not-has.ensures.1 (subst (IsIn c.args.place) c.self.view_is i))) c.only.ensures c.union-self-inside.ensures.all

pub returns-then-not-has-clause-adds : goal.returns-then-not-has-clause-adds
returns-then-not-has-clause-adds c =
    let room = has_room c.self.inside.flags c.self.inside.items c.self.inside.count c.args.place c.self.invariant.once c.requires (λ i. no_flag_is_up (c.if-not-has.ensures.1 (subst (IsIn c.args.place) c.self.view_is i))) in
    let last = one_more c.self.inside.items c.self.inside.count c.args.place c.self.invariant.once.items_all room in
    subst (λ l. Adds (Is c.args.place) l (take (c.self.inside.count + 1) (set c.self.inside.items c.self.inside.count c.args.place))) c.self.view_is
    (subst (Adds (Is c.args.place) (take c.self.inside.count c.self.inside.items)) (sym last)
    (adds_one (take c.self.inside.count c.self.inside.items) c.args.place))
