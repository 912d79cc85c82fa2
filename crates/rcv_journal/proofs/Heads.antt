-- The heads of all points, the head of one, and the text that it begins.
use Rattle.std.proofs.Common.{◌≡◌, ℕ, ◌≤◌, ◌+◌, ◌-◌, List, [], ◌∷◌, ◌++◌, length, get_or, append_assoc, codes, decimal, sym, ◌∙◌, ap, subst, arith}
use Rattle.std.proofs.lemmas.List.FromFn.{length-map-range_with_len, get_or-map-range_with_len, map-range_with_len_more}
use Rattle.std.specs.Fmt.{signed_decimal}
use Rattle.rcv_tree.specs.declared.event.Event.{Event}
use Rattle.rcv_session.specs.Session.{SessionView, net_for}
use Rattle.rcv_journal.specs.Heads.{HeadView, Begins, head_text, head_of, heads_to, AreHeads, rest_text}
use Rattle.rcv_journal.specs.JournalText.{name_of, event_text}

module _ (begins : Begins) (setup : SessionView) where
  -- there is one for each point
  pub count_of : (heads : List HeadView) → AreHeads begins setup heads → length heads ≡ (net_for setup).count
  count_of heads are = ap length are ∙ length-map-range_with_len (head_of begins setup) 1 (net_for setup).count

  -- and that of a point stands at its place
  pub head_at : (heads : List HeadView) (p : ℕ) (d : HeadView) → AreHeads begins setup heads → 1 ≤ p → p ≤ (net_for setup).count → get_or heads (p - 1) d ≡ head_of begins setup p
  head_at heads p d are first last =
      ap (λ l. get_or l (p - 1) d) are ∙ get_or-map-range_with_len (head_of begins setup) 1 (net_for setup).count (p - 1) p d (omega (arith, first, last)) (omega (arith, first))

  -- one more is that of the next point
  pub one_more : (heads more : List HeadView) (head : HeadView) (n : ℕ) → more ≡ heads ++ head ∷ [] → head ≡ head_of begins setup (n + 1) → heads ≡ heads_to begins setup n → more ≡ heads_to begins setup (n + 1)
  one_more heads more head n added is are =
      added
      ∙ ap (λ h. heads ++ h ∷ []) is
      ∙ ap (λ l. l ++ head_of begins setup (n + 1) ∷ []) are
      ∙ sym (map-range_with_len_more (head_of begins setup) 1 n (n + 1) (omega arith))

-- how a line begins is one piece, and what stands behind it another: the same text as the parts one behind the other
pub joined : (t k n a p b l c v m d : List ℕ) → (t ++ (k ++ n ++ a ++ p ++ b ++ l ++ c)) ++ (v ++ m ++ d) ≡ (t ++ k) ++ (n ++ a ++ p ++ b ++ l ++ c ++ v ++ m ++ d)
joined t k n a p b l c v m d =
    let inner : k ++ n ++ a ++ p ++ b ++ l ++ c ≡ k ++ (n ++ a ++ p ++ b ++ l ++ c) =
    ap (λ x. x ++ p ++ b ++ l ++ c) (append_assoc k n a)
    ∙ ap (λ x. x ++ b ++ l ++ c) (append_assoc k (n ++ a) p)
    ∙ ap (λ x. x ++ l ++ c) (append_assoc k (n ++ a ++ p) b)
    ∙ ap (λ x. x ++ c) (append_assoc k (n ++ a ++ p ++ b) l)
    ∙ append_assoc k (n ++ a ++ p ++ b ++ l) c in
    let rest : (n ++ a ++ p ++ b ++ l ++ c) ++ (v ++ m ++ d) ≡ n ++ a ++ p ++ b ++ l ++ c ++ v ++ m ++ d =
    sym (append_assoc (n ++ a ++ p ++ b ++ l ++ c) (v ++ m) d)
    ∙ ap (λ x. x ++ d) (sym (append_assoc (n ++ a ++ p ++ b ++ l ++ c) v m)) in
    ap (λ x. x ++ (v ++ m ++ d)) (ap (λ x. t ++ x) inner ∙ sym (append_assoc t k (n ++ a ++ p ++ b ++ l ++ c)))
    ∙ append_assoc (t ++ k) (n ++ a ++ p ++ b ++ l ++ c) (v ++ m ++ d)
    ∙ ap (λ x. (t ++ k) ++ x) rest

-- so it is where the event's role is the one that the beginning names
pub begun : (setup : SessionView) (t kind : List ℕ) (e : Event) (r : ℕ) → e.role ≡ r → (t ++ head_text setup kind r e.point) ++ rest_text e ≡ (t ++ kind) ++ event_text setup e
begun setup t kind e r is =
    subst (λ q. (t ++ head_text setup kind q e.point) ++ rest_text e ≡ (t ++ kind) ++ event_text setup e) is (joined t kind (name_of setup e.role) (codes " ") (decimal e.point) (codes " ") ((net_for setup).label e.point) (codes " ") (signed_decimal e.value) (codes " @") (decimal e.stamp))
