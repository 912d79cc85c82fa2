use Rattle.std.proofs.Common.{rules}
use Rattle.rcv_passes.proofs.Workers.{workers_join}
use Rattle.rcv_passes.proofs.round.+share.Goals as goal

pub share-returns : goal.share-returns
share-returns g t c =
    workers_join g.P.Place.like g.P.Place.ready g.P.Place.ran c.tools_carry.ensures
    c.args.tools.now _ _ _ _ c.args.places.now _ _ _ _
    c.split_at_mut-front_tools.ensures.value c.split_at_mut-front.ensures.value
    (search rules) (search rules) c.requires.1 c.both.ensures.front c.both.ensures.back
