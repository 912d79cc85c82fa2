-- By the crate's reading of a number that passed.
use Rattle.std.specs.Str.Parse.{ParsesUnsigned, ExplainsUnsignedError, HasUnsignedDigitsIfOk}
use Rattle.clap.specs.Words.{found_of}
use Rattle.rcv_look.proofs.Reading.{number_is_read}
use Rattle.rcv_look.proofs.given.number_in.Goals as goal

pub returns-clause-value : goal.returns-clause-value
returns-clause-value c =
    number_is_read _ (λ bs r. ParsesUnsigned 32 10 bs r × ExplainsUnsignedError 10 bs r × HasUnsignedDigitsIfOk bs r) c.args.least c.args.most
    (found_of c.args.matches.now) c.args.name.now c.get_one.result (λ u x g. g.0) c.ranges.most.fits c.get_one.ensures.none c.get_one.ensures.value c.requires
