-- The value is written as the number that it is.
use Rattle.std.proofs.Common.{ap, rules, w64}
use mir.Val.{SFits}
use Rattle.std.proofs.lemmas.Int.{to_z-of_z}
use Rattle.std.specs.Fmt.{signed_decimal}
use Rattle.rcv_page.proofs.Adding.{then, adds_same}
use Rattle.rcv_journal.proofs.entries.write_rest.Goals as goal

pub returns : goal.returns
returns g c =
    let event = c.args.event.now in
    let fits : SFits w64 event.value = search rules in
    let value = adds_same _ _ _ _ (ap signed_decimal (to_z-of_z w64 event.value fits)) c.signed_number.ensures in
    then (then value c.word.ensures) c.number.ensures
