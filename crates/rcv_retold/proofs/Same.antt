-- What is told of a protocol is told of another one with the same text.
use Rattle.std.proofs.Common.{◌≡◌, ℕ, ◌<◌, List, ◌++◌, length, flat_map, sym, ◌∙◌, ap, subst}
use Rattle.std.specs.Prelude.{Result, Ok, Err, IfErr}
use Rattle.std.specs.Result.{IsErrAnd}
use Rattle.rcv_tree.specs.declared.entry.Entry.{Entry}
use Rattle.rcv_tree.specs.declared.protocol.Protocol.{Protocol}
use Rattle.rcv_model.specs.Text.{Body, body_of}
use Rattle.rcv_model.specs.Net.{Net}
use Rattle.rcv_model.specs.Places.{net_of}
use Rattle.rcv_model.specs.Plan.{host_in}
use Rattle.rcv_model.specs.Journal.{events_of}
use Rattle.rcv_session.specs.Session.{SessionView}
use Rattle.rcv_told.specs.Told.{Terms, Remembered, told}
use Rattle.rcv_dialogue.specs.Answers.{role_line, end_line}
use Rattle.rcv_retold.specs.Retold.{terms_for, with_protocol, HasSameText, IsRetold, IsFirstUntold, HasStamps}
use Rattle.rcv_retold.specs.Stamps.{stamps_at, stamps_of}
use Rattle.rcv_retold.specs.Closing.{accepted_in, AreStates, IsClosing}

pub terms_same : (session : SessionView) (p : Protocol) → HasSameText p session.protocol → terms_for (with_protocol session p) ≡ terms_for session
terms_same session p same i = record { net = net_of (same.bodies i); roles = length (same.names i); host = host_in session.plan }

pub retold_same : (session : SessionView) (p : Protocol) → HasSameText p session.protocol → (entries : List Entry)
    → IsRetold (terms_for (with_protocol session p)) entries → IsRetold (terms_for session) entries
retold_same session p same entries is = subst (λ (t : Terms). IsRetold t entries) (terms_same session p same) is

pub untold_same : (session : SessionView) (p : Protocol) → HasSameText p session.protocol → (entries : List Entry) (k : ℕ)
    → IsFirstUntold (terms_for (with_protocol session p)) entries k → IsFirstUntold (terms_for session) entries k
untold_same session p same entries k is = subst (λ (t : Terms). IsFirstUntold t entries k) (terms_same session p same) is

pub stamps_same : (session : SessionView) (p : Protocol) → HasSameText p session.protocol → (entries : List Entry) (lists : List (List ℕ))
    → HasStamps (with_protocol session p) entries lists → HasStamps session entries lists
stamps_same session p same entries lists has = record {
  count = has.count ∙ ap length same.names;
  each = λ r low. subst (λ (t : Terms). stamps_at lists r ≡ stamps_of (events_of r (told t entries).held)) (terms_same session p same)
      (has.each r (subst (λ (n : ℕ). r < n) (sym (ap length same.names)) low));
}

pub closing_same : (p q : Protocol) → HasSameText p q → (m : Remembered) (text : List ℕ) → IsClosing p m text → IsClosing q m text
closing_same p q same m text closes = record {
  states = closes.states;
  are = subst (λ (n : Net). AreStates n (length q.roles) m closes.states) (ap (λ (b : Body). net_of b) same.bodies)
      (subst (λ (n : ℕ). AreStates (net_of (body_of p.body)) n m closes.states) (ap length same.names) closes.are);
  is = closes.is ∙ ap (λ (names : List (List ℕ)). flat_map (role_line (accepted_in (record p { roles = names }))) closes.states ++ end_line closes.states) same.names;
}

-- what holds of an error holds where there may be one
pub if_err : {T E : Type 0} (r : Result T E) (P Q : E → Type 0) → ((e : E) → P e → Q e) → IsErrAnd r P → IfErr r Q
if_err (Ok x) P Q so is = tt
if_err (Err e) P Q so is = so e is
