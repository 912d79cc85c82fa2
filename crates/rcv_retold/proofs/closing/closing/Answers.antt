-- What stands behind the answer's first line.
use Rattle.std.proofs.Common.{◌≡◌, ◌<◌, ◌+◌, ℕ, List, ◌++◌, codes, length, sym, ◌∙◌, ap, subst, arith}
use Rattle.std.specs.Prelude.{slice_index_or}
use Rattle.rcv_tree.specs.declared.protocol.Protocol.{Protocol}
use Rattle.rcv_dialogue.specs.declared.answer.RoleState.{RoleState}
use Rattle.rcv_dialogue.specs.Answers.{more_text}
use Rattle.rcv_told.specs.Told.{Remembered}
use Rattle.rcv_guide.specs.Guide.{net_for, roles_of, IsMemory}
use Rattle.rcv_retold.specs.Closing.{states_text, IsClosing}
use Rattle.rcv_retold.proofs.Ending.{declared_states, few_states}
use Rattle.rcv_retold.proofs.Heads.{behind_head, copied}
use Rattle.rcv_retold.proofs.closing.closing.Goals as goal

pub write_end-requires : goal.write_end-requires
write_end-requires c = λ k d low.
    let mem = c.roles-roles.ensures.memory in
    let same = c.as_slice.ensures.value in
    let role : (slice_index_or c.in_ok-states.states.items k d).role < roles_of c.args.guide.now =
    declared_states (net_for c.args.guide.now) (roles_of c.args.guide.now) mem.memory c.in_ok-states.states.items (c.in_ok-states.ensures mem.memory mem.is) k d (subst (λ (l : List RoleState). k < length l) same low) in
    subst (λ (p : Protocol). (slice_index_or c.as_slice.result.now k d).role < length p.roles) (sym c.accepted.ensures)
    (subst (λ (l : List RoleState). (slice_index_or l k d).role < roles_of c.args.guide.now) (sym same) role)

pub returns : goal.returns
returns c =
    let states = c.in_ok-states.states.items in
    let same = c.as_slice.ensures.value in
    let written = c.in_ok-write_end.ensures in
    let begun = c.new-text.ensures in
    let is = c.as_slice-2.ensures.value ∙ c.finish-text.ensures ∙ written ∙ ap (λ (l : List ℕ). l ++ codes "end" ++ more_text (length c.as_slice.result.now + 1) ++ states_text c.accepted.result.now.protocol c.as_slice.result.now) begun in
    let few = few_states c.args.guide.now (c.in_ok-states.ensures c.roles-roles.ensures.memory.memory c.roles-roles.ensures.memory.is) c.roles-roles.result c.roles-roles.ensures.value c.roles-roles.ensures.few in
    let lines = behind_head (length c.as_slice.result.now + 1) (omega (arith, few, ap length same)) (states_text c.accepted.result.now.protocol c.as_slice.result.now) c.as_slice-2.result.now c.first_line.result.0.now c.first_line.result.1.now is
    c.first_line.ensures.parts c.first_line.ensures.line in
    let right : c.first_line.result.1.now ≡ states_text c.args.guide.now.protocol states =
    lines ∙ ap (λ (p : Protocol). states_text p c.as_slice.result.now) c.accepted.ensures ∙ ap (states_text c.args.guide.now.protocol) same in
    copied (λ text. (m : Remembered) → IsMemory c.args.guide.now m → IsClosing c.args.guide.now.protocol m text) c.first_line.result.1.now c.from_slice.result c.from_slice.ensures.items
    (λ m mem. record { states = states; are = c.in_ok-states.ensures m mem; is = right })
