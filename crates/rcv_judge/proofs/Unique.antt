-- What comes next of a role is one entry.
use Rattle.std.proofs.Common.{◌≡◌, ℕ, ◌<◌, true, false, sym, ◌∙◌, ap, subst}
use Rattle.rcv_tree.specs.declared.event.Event.{Event}
use Rattle.rcv_tree.specs.declared.entry.Entry.{Entry}
use Rattle.rcv_tree.specs.declared.entry.Entry.TheVariants.{Send, Recv, Crash, Recover}
use Rattle.rcv_model.specs.Net.{HasTwoEnds}
use Rattle.rcv_model.specs.Journal.{Rules, State, numbers_at, IsDue, MaySend, May, IsLegal}
use Rattle.rcv_model.specs.Final.{IsCrashed, IsActOf}
use Rattle.rcv_model.proofs.Numbers.{bounded}
use Rattle.rcv_model.proofs.Forms.{proper}
use Rattle.rcv_model.proofs.Unique.{one_recovery, one_send, one_recv, not_both}
use Rattle.rcv_accept.specs.Accepted.{IsAcceptedProtocol}
use Rattle.rcv_session.specs.Session.{SessionView, text_of, roles_of, net_for, rules_of}
use Rattle.rcv_core.specs.Book.{BookView, state_of, IsRecoveryOf}
use Rattle.rcv_judge.specs.Laws.{EntriesOfARoleAreOne}

pub two_ends : (setup : SessionView) → IsAcceptedProtocol setup.protocol → HasTwoEnds (net_for setup)
two_ends setup accepted = (proper (text_of setup) (roles_of setup) accepted.form).two_ends

pub one_act : (rules : Rules) (s : State) (r : ℕ) (d e : Entry) → HasTwoEnds rules.net → IsActOf rules s r d → IsActOf rules s r e → d ≡ e
one_act rules s r (Send d) (Send e) two x y = ap Send (one_send rules s d e (x.0 ∙ sym y.0) x.1 y.1)
one_act rules s r (Recv d) (Recv e) two x y = ap Recv (one_recv rules s d e (x.0 ∙ sym y.0) x.1 y.1)
one_act rules s r (Send d) (Recv e) two x y = absurd (not_both rules s d e (x.0 ∙ sym y.0) two x.1 y.1)
one_act rules s r (Recv d) (Send e) two x y = absurd (not_both rules s e d (y.0 ∙ sym x.0) two y.1 x.1)
one_act rules s r (Crash p) e two x y = absurd x
one_act rules s r (Recover p c k u) e two x y = absurd x
one_act rules s r (Send d) (Crash p) two x y = absurd y
one_act rules s r (Send d) (Recover p c k u) two x y = absurd y
one_act rules s r (Recv d) (Crash p) two x y = absurd y
one_act rules s r (Recv d) (Recover p c k u) two x y = absurd y

-- where a role has a step, the Send that may come is that step
pub is_that_step : (rules : Rules) (s : State) (d : Entry) (e : Event) → HasTwoEnds rules.net → IsActOf rules s e.role d → MaySend rules s e → d ≡ Send e
is_that_step rules s (Send d) e two x may = ap Send (one_send rules s d e x.0 x.1 may)
is_that_step rules s (Recv d) e two x may = absurd (not_both rules s e d (sym x.0) two may x.1)
is_that_step rules s (Crash p) e two x may = absurd x
is_that_step rules s (Recover p c k u) e two x may = absurd x

pub step_may : (rules : Rules) (s : State) (d : Entry) (e : Event) → IsActOf rules s e.role d → d ≡ Send e → MaySend rules s e
step_may rules s d e x same = (subst (IsActOf rules s e.role) same x).1

-- who acts is declared
pub acts_declared : (rules : Rules) (s : State) (r : ℕ) (e : Entry) → IsActOf rules s r e → r < rules.roles
acts_declared rules s r (Send e) x = subst (λ q. q < rules.roles) x.0 x.1.free.declared
acts_declared rules s r (Recv e) x = subst (λ q. q < rules.roles) x.0 x.1.own.free.declared
acts_declared rules s r (Crash p) x = absurd x
acts_declared rules s r (Recover p c k u) x = absurd x

pub one_recover : (book : BookView) (r : ℕ) (d e : Entry) → IsRecoveryOf book r d → IsRecoveryOf book r e → d ≡ e
one_recover book r (Recover p c k m) (Recover q d l n) x y =
    let same : p ≡ q = x.0 ∙ sym y.0 in
    ap (λ t. Recover t c k m) same
    ∙ one_recovery (rules_of book.setup) (state_of book) q c d k l m n (subst (λ t. May (rules_of book.setup) (state_of book) (Recover t c k m)) same x.1) y.1
one_recover book r (Send d) e x y = absurd x
one_recover book r (Recv d) e x y = absurd x
one_recover book r (Crash p) e x y = absurd x
one_recover book r (Recover p c k m) (Send e) x y = absurd y
one_recover book r (Recover p c k m) (Recv e) x y = absurd y
one_recover book r (Recover p c k m) (Crash q) x y = absurd y

-- who recovers is crashed, and declared
recovers_crashed : (book : BookView) (r : ℕ) (e : Entry) → IsRecoveryOf book r e → IsCrashed (state_of book) r
recovers_crashed book r (Recover p c k u) x = subst (IsCrashed (state_of book)) x.0 x.1.crashed
recovers_crashed book r (Send d) x = absurd x
recovers_crashed book r (Recv d) x = absurd x
recovers_crashed book r (Crash p) x = absurd x

pub recovers_declared : (book : BookView) (r : ℕ) (e : Entry) → IsLegal (rules_of book.setup) book.entries → IsRecoveryOf book r e → r < roles_of book.setup
recovers_declared book r e legal x =
    subst (λ n. r < n) (bounded (rules_of book.setup) book.entries legal).numbers (recovers_crashed book r e x).0

-- a crashed role doesn't run
runs : (s : State) (p q : ℕ) → p ≡ q → IsCrashed s p → (numbers_at s.roles q).crashed ≡ false → ⊥
runs s p q same crashed calm = let there : true ≡ false = sym crashed.1 ∙ ap (λ r. (numbers_at s.roles r).crashed) same ∙ calm in cc

-- of one role one entry may come
pub one_of_role : EntriesOfARoleAreOne
one_of_role rules s (Send d) (Send e) two same a b = ap Send (one_send rules s d e same a b)
one_of_role rules s (Recv d) (Recv e) two same a b = ap Recv (one_recv rules s d e same a b)
one_of_role rules s (Send d) (Recv e) two same a b = absurd (not_both rules s d e same two a b)
one_of_role rules s (Recv d) (Send e) two same a b = absurd (not_both rules s e d (sym same) two b a)
one_of_role rules s (Crash p) (Crash q) two same a b = ap Crash same
one_of_role rules s (Send d) (Crash q) two same a b = absurd (a.free.not_due (subst (IsDue rules s) (sym same) b.1))
one_of_role rules s (Recv d) (Crash q) two same a b = absurd (a.own.free.not_due (subst (IsDue rules s) (sym same) b.1))
one_of_role rules s (Crash p) (Send e) two same a b = absurd (b.free.not_due (subst (IsDue rules s) same a.1))
one_of_role rules s (Crash p) (Recv e) two same a b = absurd (b.own.free.not_due (subst (IsDue rules s) same a.1))
one_of_role rules s (Recover p c k u) (Recover q d l n) two same a b =
    ap (λ t. Recover t c k u) same
    ∙ one_recovery rules s q c d k l u n (subst (λ t. May rules s (Recover t c k u)) same a) b
one_of_role rules s (Recover p c k u) (Send e) two same a b = absurd (runs s p e.role same a.crashed b.free.running)
one_of_role rules s (Recover p c k u) (Recv e) two same a b = absurd (runs s p e.role same a.crashed b.own.free.running)
one_of_role rules s (Recover p c k u) (Crash q) two same a b = absurd (runs s p q same a.crashed b.1.0)
one_of_role rules s (Send d) (Recover q e l n) two same a b = absurd (runs s q d.role (sym same) b.crashed a.free.running)
one_of_role rules s (Recv d) (Recover q e l n) two same a b = absurd (runs s q d.role (sym same) b.crashed a.own.free.running)
one_of_role rules s (Crash p) (Recover q e l n) two same a b = absurd (runs s q p (sym same) b.crashed a.1.0)
