use Rattle.std.proofs.Common.{rules}
use Rattle.rcv_passes.proofs.Workers.{crew_works, stay_alike}
use Rattle.rcv_passes.proofs.round.run_round.Goals as goal

pub returns : goal.returns
returns g c =
    let worked = crew_works g.P.Place.like g.P.Place.ready g.P.Place.ran c.tools_carry.ensures c.kinds_join.ensures.reflexive c.args.tools.now _ _ _ c.args.places.now _ c.split_at_mut-crew.ensures.value (search rules) c.requires.alike c.share.ensures in
    record {
      ran = worked.1;
      like = worked.0;
      alike = stay_alike g.P.Place.like c.kinds_join.ensures.symmetric c.kinds_join.ensures.transitive c.args.tools.now _ c.requires.alike worked.0;
    }
