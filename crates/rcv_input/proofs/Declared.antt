-- A refusal by a rule is at a declared role.
use Rattle.std.proofs.Common.{ℕ, ◌+◌, ◌<◌, ◌≤◌, List, [], ◌∷◌, ◌++◌, length, ◌∙◌, subst, ◌⊎◌, inl, inr, ⊎_elim, arith}
use Rattle.std.proofs.lemmas.Bool.{cases_eq}
use Rattle.rcv_model.specs.Text.{Body, End, Single, Choose, Loop, Again, Parallel, Call, Bodies, NoMore, Or}
use Rattle.rcv_model.specs.Places.{Frame, Behind, Inside, Spot, SingleMessage, singles}
use Rattle.rcv_model.specs.Form.{IsNumberedFrom, HasForm, HaveSubjects, HaveSubjectsIn}
use Rattle.rcv_model.specs.Accept.{choices, choices_of, IsFirstOf, Fails, subject, mixed, senders, labels, not_enabled, maybe_done, unreachable, lane_end, IsRefusal}
use Rattle.rcv_model.proofs.Forms.{ends_of}
use Rattle.rcv_model.proofs.LanesOfText.{Has}

first_of_either : (a b : List (ℕ × Spot)) (s p : ℕ) → IsFirstOf (a ++ b) s p → IsFirstOf a s p ⊎ IsFirstOf b s p
first_of_either [] b s p h = inr h
first_of_either (e ∷ a) b s p (inl h) = inl (inl h)
first_of_either (e ∷ a) b s p (inr h) = ⊎_elim (λ x. inl (inr x)) (λ x. inr x) (first_of_either a b s p h)

mutual
  subject_declared : (roles : ℕ) (fs : List Frame) (body : Body) (s p : ℕ) → HaveSubjects roles body → IsFirstOf (choices fs body) s p → s < roles
  subject_declared roles fs End s p h first = absurd first
  subject_declared roles fs (Single label sorts a b q rest) s p h first = subject_declared roles fs rest s p h first
  subject_declared roles fs (Choose c bs rest) s p h (inl here) = subst (λ (n : ℕ). n < roles) here.0 h.0
  subject_declared roles fs (Choose c bs rest) s p h (inr more) =
      ⊎_elim (subjects_declared roles (Behind rest ∷ fs) bs s p h.1) (subject_declared roles fs rest s p h.2) (first_of_either (choices_of (Behind rest ∷ fs) bs) (choices fs rest) s p more)
  subject_declared roles fs (Loop name body rest) s p h first =
      ⊎_elim (subject_declared roles (Inside name body rest ∷ fs) body s p h.0) (subject_declared roles fs rest s p h.1) (first_of_either (choices (Inside name body rest ∷ fs) body) (choices fs rest) s p first)
  subject_declared roles fs (Again name rest) s p h first = subject_declared roles fs rest s p h first
  subject_declared roles fs (Parallel bs rest) s p h first =
      ⊎_elim (subjects_declared roles (Behind rest ∷ fs) bs s p h.0) (subject_declared roles fs rest s p h.1) (first_of_either (choices_of (Behind rest ∷ fs) bs) (choices fs rest) s p first)
  subject_declared roles fs (Call name qs rest) s p h first = subject_declared roles fs rest s p h first

  subjects_declared : (roles : ℕ) (fs : List Frame) (bs : Bodies) (s p : ℕ) → HaveSubjectsIn roles bs → IsFirstOf (choices_of fs bs) s p → s < roles
  subjects_declared roles fs NoMore s p h first = absurd first
  subjects_declared roles fs (Or b bs) s p h first =
      ⊎_elim (subject_declared roles fs b s p h.0) (subjects_declared roles fs bs s p h.1) (first_of_either (choices fs b) (choices_of fs bs) s p first)

-- each number of the text is that of a message
has_numbered : (n p : ℕ) (es : List (ℕ × SingleMessage)) → IsNumberedFrom n es → n ≤ p → p < n + length es → Has p es
has_numbered n p [] numbered low high = absurd (omega (arith, low, high))
has_numbered n p (e ∷ es) numbered low high = ⊎_elim (λ same. inl (numbered.0 ∙ same)) (λ other. inr (has_numbered (n + 1) p es numbered.1 (omega (arith, low, other)) (omega (arith, high)))) (cases_eq n p)

role_declared : (body : Body) (roles c r n : ℕ) → HasForm body roles → Fails body roles c r n → r < roles
role_declared body roles c r n form (subject first unsent) = subject_declared roles [] body r n form.subjects first
role_declared body roles c r n form (mixed x y declared place next other sends receives) = declared
role_declared body roles c r n form (senders x y declared place next other first second differ) = declared
role_declared body roles c r n form (labels x y declared place next other alike differ) = declared
role_declared body roles c r n form (not_enabled declared place closed) = declared
role_declared body roles c r n form (maybe_done z w declared place next walk ended none) = declared
role_declared body roles c r n form (unreachable sends first last unreached) = subst (λ (q : ℕ). q < roles) sends (ends_of roles n (singles body) form.ends (has_numbered 1 n (singles body) form.numbered first (omega (arith, last)))).0
role_declared body roles c r n form (lane_end sends first last later never) = subst (λ (q : ℕ). q < roles) sends (ends_of roles n (singles body) form.ends (has_numbered 1 n (singles body) form.numbered first (omega (arith, last)))).0

pub refused_role_declared : (body : Body) (roles c r n : ℕ) → HasForm body roles → IsRefusal body roles c r n → r < roles
refused_role_declared body roles c r n form refusal = role_declared body roles c r n form refusal.fails
