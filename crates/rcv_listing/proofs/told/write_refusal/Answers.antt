-- What is said of a rule is said of the refusal by it.
use Rattle.std.specs.Prelude.{Result, Ok, Err, OnOk}
use Rattle.rcv_points.specs.Follow.{net_in}
use Rattle.rcv_listing.specs.Lines.{AddsTold, AddsRefusal}
use Rattle.rcv_listing.proofs.told.write_refusal.Goals as goal

where_written : {T E : Type 0} (result : Result T E) (P Q : Type 0) → (P → Q) → OnOk result P → OnOk result Q
where_written (Ok x) P Q f h = f h
where_written (Err e) P Q f h = tt

pub returns : goal.returns
returns c =
    let roles = c.args.table.now.roles.now in
    let net = net_in c.args.table.now.points.now in
    let lines = c.args.table.now.lines.now in
    let code = c.in-Rule.code in
    let role = c.in-Rule.role in
    let point = c.in-Rule.point in
    where_written c.write_told.result
    (AddsTold roles net lines code role point c.args.text.now c.write_told.new.text)
    (AddsRefusal roles net lines c.args.refusal c.args.text.now c.write_told.new.text)
    (λ told. (code, role, point, c.in-Rule.is, told)) c.write_told.ensures
