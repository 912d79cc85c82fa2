-- What holds of inputs.
use Rattle.std.specs.Prelude.{◌≡◌, ℕ, ◌^◌, ◌<◌, ◌⊎◌, List, length}
use Rattle.rcv_tree.specs.Words.{IsWord}
use Rattle.rcv_session.specs.Session.{SessionView}
use Rattle.rcv_grammar.specs.Laws.{SayTheSame}
use Rattle.rcv_input.specs.declared.refused.Refused.{Refused}
use Rattle.rcv_input.specs.declared.refused.Refused.TheVariants.{Rule}
use Rattle.rcv_input.specs.Input.{IsTaken}
use Rattle.rcv_input.specs.Refusals.{IsFirstRefusal}

-- An input is taken, or it has its first refusal.
abbrev pub HasAnswer : List ℕ → Type 0
HasAnswer input = ((session : SessionView) × IsTaken input session) ⊎ ((refused : Refused) × IsFirstRefusal input refused)

-- Both sessions say the same.
pub record AreSame (s t : SessionView) : Type 0 where
  pub protocols : SayTheSame s.protocol t.protocol
  pub scripts : s.scripts ≡ t.scripts
  pub plans : s.plan ≡ t.plan

-- An input of fewer than 2^63 bytes is taken or refused. None is both; what it is taken as says one thing, and its
-- refusal is one. A refusal by a rule has a word for the name of the role.
pub record InputsHaveOneAnswer : Type 0 where
  pub answered : (input : List ℕ) → length input < 2 ^ 63 → HasAnswer input
  pub sessions : (input : List ℕ) (s t : SessionView) → IsTaken input s → IsTaken input t → AreSame s t
  pub either : (input : List ℕ) (session : SessionView) (r : Refused) → IsTaken input session → IsFirstRefusal input r → ⊥
  pub refusals : (input : List ℕ) (r s : Refused) → IsFirstRefusal input r → IsFirstRefusal input s → r ≡ s
  pub named : (input : List ℕ) (code : ℕ) (name : List ℕ) (number : ℕ) → IsFirstRefusal input (Rule code name number) → IsWord name
