-- Told sessions in hindsight: if each failure keeps multiples of its roles' steps, what was told is a legal journal.
use Rattle.std.specs.Prelude.{◌≡◌, ℕ, ◌*◌, ◌/◌, ◌<◌, true, List, [], ◌∷◌, ◌++◌}
use Rattle.rcv_tree.specs.Bits.{is_listed}
use Rattle.rcv_tree.specs.declared.entry.Entry.{Entry}
use Rattle.rcv_tree.specs.declared.entry.Entry.TheVariants.{Send, Recv, Crash, Recover}
use Rattle.rcv_tree.specs.declared.role.RoleSet.{RoleSet}
use Rattle.rcv_model.specs.Journal.{Rules, reading, IsLegal}
use Rattle.rcv_told.specs.Told.{Terms, Remembered, state_of, told, told_after, made, group_of, HasFailed}

-- A failure is by steps: its line names roles below 8 by a byte, and each failed role has saved the greatest multiple of its
-- step.
pub record IsBySteps (terms : Terms) (every : ℕ → ℕ) (m : Remembered) (p : ℕ) (concerned : RoleSet) (kept : List ℕ) (undone : ℕ) : Type 0 where
  pub byte : concerned.0 < 256
  pub saved : ℕ → ℕ
  pub multiple : (q : ℕ) → is_listed (group_of terms p) q ≡ true → saved q ≡ made m q / every q * every q
  pub failed : HasFailed terms m p saved concerned kept undone

-- An entry is no failure, or one by steps; and each of these is, one after another.
abbrev pub FailsBySteps : Terms → (ℕ → ℕ) → Remembered → Entry → Type 0
FailsBySteps terms every m (Send e) = Unit {0}
FailsBySteps terms every m (Recv e) = Unit {0}
FailsBySteps terms every m (Crash p) = Unit {0}
FailsBySteps terms every m (Recover p concerned kept undone) = IsBySteps terms every m p concerned kept undone

abbrev pub FailBySteps : Terms → (ℕ → ℕ) → Remembered → List Entry → Type 0
FailBySteps terms every m [] = Unit {0}
FailBySteps terms every m (e ∷ entries) = FailsBySteps terms every m e × FailBySteps terms every (told_after terms m e) entries

-- By some scripts and crash lines it is a legal journal of the same protocol, hosts and steps, with this limit; and after each
-- of its entries the same events are kept, and the roles have the same numbers.
pub record IsLegalInHindsight (terms : Terms) (every : ℕ → ℕ) (limit : ℕ) (entries : List Entry) : Type 0 where
  pub rules : Rules
  pub net_is : rules.net ≡ terms.net
  pub roles_is : rules.roles ≡ terms.roles
  pub host_is : rules.host ≡ terms.host
  pub every_is : rules.every ≡ every
  pub limit_is : rules.limit ≡ limit
  pub legal : IsLegal rules entries
  pub same : (front back : List Entry) → front ++ back ≡ entries → reading rules front ≡ state_of (told terms front)
