-- By the first entry that may not be told, or by what stands behind the entries.
use Rattle.std.proofs.Common.{◌≡◌, ◌<◌, ◌+◌, ◌-◌, ℕ, Option, List, length, take, drop, ◌∙◌, ap, sym, subst, arith}
use Rattle.std.specs.Prelude.{MatchOption}
use Rattle.std.proofs.lemmas.List.{take_all, length-drop}
use Rattle.rcv_tree.specs.declared.entry.Entry.{Entry}
use Rattle.rcv_tree.specs.declared.protocol.Protocol.{Protocol}
use Rattle.rcv_told.specs.Told.{told}
use Rattle.rcv_retold.specs.Retold.{terms_for, IsRetold, IsFirstUntold}
use Rattle.rcv_retold.specs.Closing.{IsClosing}
use Rattle.rcv_retold.specs.Text.{IsFirstWrong, IsFirstOther}
use Rattle.rcv_retold.proofs.Beginning.{wrong_entry, wrong_rest}
use Rattle.rcv_retold.proofs.Same.{closing_same}
use Rattle.rcv_retold.proofs.text.judge.Goals as goal

pub from_one-requires : goal.from_one-requires
from_one-requires c =
    let untold = c.in-Err-Entry.ensures.wrong c.in-Err-Entry.number c.in-Err-Entry.field-0-is in
    let inside = untold.inside in
    let is = c.in-Err-Entry.number-is in
    let few = c.requires.few in
    let all = c.requires.first.few in
    omega (arith, is, inside, few, all, ap length c.as_slice.ensures.value)

pub returns-in-Err-Entry-clause-wrong : goal.returns-in-Err-Entry-clause-wrong
returns-in-Err-Entry-clause-wrong c = λ k same.
    let first = c.requires.first in
    let untold = subst (λ (l : List Entry). IsFirstUntold (terms_for c.args.setup.now) l c.in-Err-Entry.number) c.as_slice.ensures.value (c.in-Err-Entry.ensures.wrong c.in-Err-Entry.number c.in-Err-Entry.field-0-is) in
    let line : c.from_one.result ≡ k = cc in
    subst (IsFirstWrong c.args.setup.now c.args.text.now) (sym (ap (λ n. n + 1) c.in-Err-Entry.number-is) ∙ sym c.from_one.ensures ∙ line)
    (wrong_entry c.args.setup.now c.protocol-protocol.ensures.accepted c.args.text.now c.args.front.now.entries.items (drop c.args.front.now.bytes c.args.text.now) first.formed first.is_text c.in-Err-Entry.number untold)

pub returns-in-Ok-Some-clause-wrong : goal.returns-in-Ok-Some-clause-wrong
returns-in-Ok-Some-clause-wrong c = λ k same.
    let setup = c.args.setup.now in
    let entries = c.args.front.now.entries.items in
    let rest = drop c.args.front.now.bytes c.args.text.now in
    let first = c.requires.first in
    let items = c.as_slice.ensures.value in
    let retold = subst (λ (l : List Entry). IsRetold (terms_for setup) l) items c.in-Ok.ensures.retold in
    let end = c.in-Ok-Some.ensures.end (told (terms_for setup) c.as_slice.result.now) c.in-Ok.ensures.memory in
    let closes = subst (λ (l : List Entry). IsClosing setup.protocol (told (terms_for setup) l) end.0) items
    (closing_same _ setup.protocol c.in-Ok.ensures.protocol (told (terms_for setup) c.as_slice.result.now) end.0 end.1) in
    let whole : take (length c.args.text.now - c.args.front.now.bytes) rest ≡ rest = take_all (length c.args.text.now - c.args.front.now.bytes) rest (omega (arith, length-drop c.args.front.now.bytes c.args.text.now)) in
    let differs = subst (λ (o : Option ℕ). MatchOption o (rest ≡ end.0) (IsFirstOther rest end.0)) c.in-Ok-Some.field-0-is
    (subst (λ (l : List ℕ). MatchOption c.in-Ok-Some.field-0 (l ≡ end.0) (IsFirstOther l end.0)) whole end.2) in
    let line : c.len.result + c.in-Ok-Some.number ≡ k = cc in
    subst (IsFirstWrong setup c.args.text.now) (ap (λ n. n + c.in-Ok-Some.number) (sym (c.len.ensures ∙ sym c.as_slice.ensures.len ∙ ap length items)) ∙ line)
    (wrong_rest setup c.protocol-protocol.ensures.accepted c.args.text.now entries rest first.formed first.is_text retold first.otherwise end.0 closes c.in-Ok-Some.number differs)
