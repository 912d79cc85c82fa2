-- What is said of a journal is the same for two sessions whose texts, scripts and plans say the same.
use Rattle.std.proofs.Common.{◌≡◌, ℕ, ◌<◌, ◌≤◌, List, [], ◌∷◌, ◌++◌, length, map, take, flat_map, codes, refl, inl, inr, sym, ◌∙◌, ap, ap₂, subst, ⊎_elim, ◌-◌}
use Rattle.std.specs.List.{All}
use Rattle.std.specs.Prelude.{slice_index_or}
use Rattle.std.proofs.lemmas.List.Elements.{All-nil, All-cons, All-head, All-tail}
use Rattle.rcv_tree.specs.declared.event.Dir.{Dir}
use Rattle.rcv_tree.specs.declared.event.Event.{Event}
use Rattle.rcv_tree.specs.declared.entry.Entry.{Entry}
use Rattle.rcv_tree.specs.declared.entry.Entry.TheVariants.{Send, Recv, Crash, Recover}
use Rattle.rcv_model.specs.Text.{Body, body_of}
use Rattle.rcv_model.specs.Places.{net_of}
use Rattle.rcv_model.specs.Journal.{Rules, reading, IsLegal}
use Rattle.rcv_session.specs.Session.{SessionView, rules_of}
use Rattle.rcv_input.specs.Laws.{AreSame}
use Rattle.rcv_journal.specs.JournalText.{entry_line, role_line}
use Rattle.rcv_journal.proofs.SameText.{same_rules, same_entry, same_role}
use Rattle.rcv_journal.specs.Recorded.{JournalView, bare}
use Rattle.rcv_journal.specs.Form.{IsFormedEvent, IsFormedEntry, IsFormed, end_line, journal_lines, lines_of, Spells, MayBegin, IsFirstWrong, AreCuts}
use Rattle.rcv_judge.specs.Closing.{Closes}
use Rattle.rcv_judge.specs.Judged.{IsFirstWrong as IsFirstIllegal}
use Rattle.rcv_replay.specs.declared.replayed.Replayed.{Replayed}
use Rattle.rcv_replay.specs.declared.replayed.Replayed.TheVariants as said
use Rattle.rcv_replay.specs.Replaying.{IsVerdict, IsOfText}

all_by : {A : Type 0} (P Q : A → Type 0) → ((x : A) → P x → Q x) → (xs : List A) → All P xs → All Q xs
all_by P Q each [] all = All-nil Q
all_by P Q each (x ∷ xs) all = All-cons Q x xs (each x (All-head P x xs all)) (all_by P Q each xs (All-tail P x xs all))

map_by : {A : Type 0} (f g : A → List ℕ) → ((x : A) → f x ≡ g x) → (xs : List A) → map f xs ≡ map g xs
map_by f g each [] = refl
map_by f g each (x ∷ xs) = ap₂ (λ y ys. y ∷ ys) (each x) (map_by f g each xs)

module _ (s t : SessionView) (names : s.protocol.roles ≡ t.protocol.roles) (bodies : body_of s.protocol.body ≡ body_of t.protocol.body) where
  event_moves : (dir : Dir) (e : Event) → IsFormedEvent s dir e → IsFormedEvent t dir e
  event_moves dir e is = record {
    named = record { role = subst (λ n. e.role < n) (ap length names) is.named.role; first = is.named.first; last = subst (λ n. e.point ≤ n) (ap (λ (b : Body). (net_of b).count) bodies) is.named.last };
    way = is.way;
    value = is.value;
    stamp = is.stamp;
    sent = is.sent;
  }

  entry_moves : (e : Entry) → IsFormedEntry s e → IsFormedEntry t e
  entry_moves (Send e) is = (event_moves _ e is.0, is.1)
  entry_moves (Recv e) is = event_moves _ e is
  entry_moves (Crash p) is = subst (λ n. p < n) (ap length names) is
  entry_moves (Recover p concerned kept undone) is = record {
    role = subst (λ n. p < n) (ap length names) is.role;
    cuts = subst (λ n. AreCuts n concerned.0 kept) (ap length names) is.cuts;
    undone_fits = is.undone_fits;
  }

  formed_moves : (j : JournalView) → IsFormed s j → IsFormed t j
  formed_moves j is = record {
    entries = all_by (IsFormedEntry s) (IsFormedEntry t) entry_moves j.entries is.entries;
    all = is.all ∙ ap length names;
    in_order = is.in_order;
    fit = is.fit;
    limited = record { declared = subst (λ n. All (λ r. r < n) j.limited) (ap length names) is.limited.declared; ascending = is.limited.ascending };
  }

  end_same : (limited : List ℕ) → end_line s limited ≡ end_line t limited
  end_same [] = refl
  end_same (r ∷ rest) = ap (λ (rs : List (List ℕ)). codes "limited" ++ flat_map (λ q. codes " " ++ slice_index_or rs q []) (r ∷ rest) ++ codes "\n") names

  lines_same : (j : JournalView) → journal_lines s j ≡ journal_lines t j
  lines_same j =
      ap (λ es. es ++ map (role_line s) j.roles ++ end_line s j.limited ∷ []) (map_by (entry_line s) (entry_line t) (same_entry s t names bodies) j.entries)
      ∙ ap (λ rs. map (entry_line t) j.entries ++ rs ++ end_line s j.limited ∷ []) (map_by (role_line s) (role_line t) (same_role s t names) j.roles)
      ∙ ap (λ l. map (entry_line t) j.entries ++ map (role_line t) j.roles ++ l ∷ []) (end_same j.limited)

  pub spells_moves : (text : List ℕ) (j : JournalView) → Spells s text j → Spells t text j
  spells_moves text j spells = (formed_moves j spells.0, spells.1 ∙ lines_same j)

  begin_moves : (lines : List (List ℕ)) → MayBegin s lines → MayBegin t lines
  begin_moves lines (j, is, more, e) = (j, formed_moves j is, more, sym (lines_same j) ∙ e)

-- both ways
module _ (s t : SessionView) (names : s.protocol.roles ≡ t.protocol.roles) (bodies : body_of s.protocol.body ≡ body_of t.protocol.body) where
  pub wrong_moves : (text : List ℕ) (k : ℕ) → IsFirstWrong s text k → IsFirstWrong t text k
  wrong_moves text k is = record {
    first = is.first;
    before = begin_moves s t names bodies (take (k - 1) (lines_of text)) is.before;
    wrong = ⊎_elim
        (λ a. inl (a.0, λ may. a.1 (begin_moves t s (sym names) (sym bodies) (take k (lines_of text)) may)))
        (λ b. inr (b.0, λ j spells. b.1 j (spells_moves t s (sym names) (sym bodies) text j spells)))
        is.wrong;
  }

-- what is said of the journal
verdict_moves : (s t : SessionView) (j : JournalView) (x : Replayed) → rules_of s ≡ rules_of t → IsVerdict s j x → IsVerdict t j x
verdict_moves s t j (said.Refused r) rules is = absurd is
verdict_moves s t j (said.Legal count limited) rules is = (
  subst (λ (r : Rules). IsLegal r j.entries) rules is.0,
  subst (λ (r : Rules). Closes r (reading r j.entries) j.roles j.limited) rules is.1,
  is.2,
  is.3,
)
verdict_moves s t j (said.WrongEntry k) rules is = (is.0, is.1, subst (λ (r : Rules). IsFirstIllegal r j.entries is.0) rules is.2)
verdict_moves s t j said.WrongEnd rules is = (
  subst (λ (r : Rules). IsLegal r j.entries) rules is.0,
  λ closes. is.1 (subst (λ (r : Rules). Closes r (reading r j.entries) j.roles j.limited) (sym rules) closes),
)

pub text_moves : (s t : SessionView) (text : List ℕ) (feeds : ℕ) (x : Replayed) → AreSame s t → IsOfText s text feeds x → IsOfText t text feeds x
text_moves s t text feeds x same is = ⊎_elim
    (λ a. inl (a.0, a.1, wrong_moves (bare s.protocol) (bare t.protocol) same.protocols.role_names same.protocols.bodies text a.0 a.2))
    (λ b. inr (
      b.0,
      spells_moves (bare s.protocol) (bare t.protocol) same.protocols.role_names same.protocols.bodies text b.0 b.1,
      verdict_moves s t b.0 x (same_rules s t same.protocols.role_names same.protocols.bodies same.scripts same.plans) b.2,
    ))
    is
