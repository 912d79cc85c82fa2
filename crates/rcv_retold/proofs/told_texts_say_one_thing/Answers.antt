-- A line says one entry, and none behind the entries says one.
use Rattle.rcv_retold.proofs.Beginning.{one_list}
use Rattle.rcv_retold.proofs.told_texts_say_one_thing.Goals as goal

pub returns : goal.returns
returns c = λ setup text a b accepted x y. one_list setup accepted text a b x y
