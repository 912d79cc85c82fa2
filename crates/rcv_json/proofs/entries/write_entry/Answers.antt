-- The lists of events are the entries', and what is said of a recovery has no float.
use Rattle.std.proofs.Common.{◌≡◌, List, ◌∷◌, [], ◌++◌, ℕ, OnOk, decimal, false, ◌∙◌, sym, ap, subst}
use Rattle.serde_json.specs.Data.{Data}
use Rattle.serde_json.specs.Written.{has_float}
use Rattle.rcv_tree.specs.declared.entry.Entry.{Entry}
use Rattle.rcv_tree.specs.declared.entry.Entry.TheVariants.{Recover}
use Rattle.rcv_json.specs.Pieces.{entry_json}
use Rattle.rcv_json.proofs.Floats.{in_entry}
use Rattle.rcv_json.proofs.Pieces.{recv_said, send_said}
use Rattle.rcv_json.proofs.entries.write_entry.Goals as goal

pub write_value-requires-in-Recover : goal.write_value-requires-in-Recover
write_value-requires-in-Recover c =
    subst (λ (d : Data). has_float d ≡ false) (sym c.in_ok-value-in-Recover.ensures) (in_entry c.args.setup.now (Recover c.in-Recover.role c.in-Recover.concerned c.in-Recover.kept c.in-Recover.undone))

pub returns-in_ok-write_send-in-Send : goal.returns-in_ok-write_send-in-Send
returns-in_ok-write_send-in-Send c =
    let said =
    ap (λ (t : List ℕ). t ++ 93 ∷ []) c.in_ok-write_send-in-Send.ensures
    ∙ send_said c.args.setup.now c.args.text.now c.in-Send.event
    ∙ ap (λ (e : Entry). c.args.text.now ++ entry_json c.args.setup.now e) (sym c.in-Send.is) in
    subst (λ (t : List ℕ). OnOk c.byte.result (c.byte.new.self ≡ t)) said c.byte.ensures.ok

pub returns-in_ok-large_number-in-Recv : goal.returns-in_ok-large_number-in-Recv
returns-in_ok-large_number-in-Recv c =
    let digits = decimal c.in-Recv.event.sent in
    let said =
    ap (λ (t : List ℕ). t ++ 93 ∷ []) (c.in_ok-large_number-in-Recv.ensures.ok ∙ ap (λ (t : List ℕ). t ++ digits) (c.in_ok-byte-in-Recv.ensures.ok ∙ ap (λ (t : List ℕ). t ++ 44 ∷ []) c.in_ok-write_recv-in-Recv.ensures))
    ∙ recv_said c.args.setup.now c.args.text.now c.in-Recv.event
    ∙ ap (λ (e : Entry). c.args.text.now ++ entry_json c.args.setup.now e) (sym c.in-Recv.is) in
    subst (λ (t : List ℕ). OnOk c.byte-in-Recv-2.result (c.byte-in-Recv-2.new.self ≡ t)) said c.byte-in-Recv-2.ensures.ok
