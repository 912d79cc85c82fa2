-- Words are a command, or they are none.
use Rattle.std.proofs.Common.{◌≡◌, ◌≤◌, ℕ, Bool, true, false, List, [], ◌∷◌, Option, Some, None, refl, sym, ap, ap₂, ◌∙◌, subst, ◌⊎◌, inl, inr, ⊎_elim, codes, arith}
use Rattle.std.specs.Prelude.{unwrap_or}
use Rattle.std.specs.Str.{bytes_eq}
use Rattle.std.proofs.lemmas.Bool.{cases_eq, cases_lt}
use Rattle.std.proofs.lemmas.Slice.Eq.{bytes_eq-Decides}
use Rattle.clap.specs.Words.{Kinds, Text, fault_of}
use Rattle.rcv_words.specs.Commands.{CommandView, Run, RunMany, Check, Project, Table, Gen, Replay, Line, Given, HasOptions, Says, IsWithin, IsCommand, IsNoCommand, given, line_of}
use Rattle.rcv_words.specs.Program.{rcv}

abbrev OrNot : Type 0 → Type 0
OrNot A = A ⊎ (A → ⊥)

both : {A B : Type 0} → OrNot A → OrNot B → OrNot (A × B)
both (inl a) (inl b) = inl (a, b)
both (inl a) (inr never) = inr (λ ab. never ab.1)
both (inr never) b = inr (λ ab. never ab.0)

is_none : {X : Type 0} (o : Option X) → OrNot (o ≡ None)
is_none None = inl refl
is_none (Some x) = inr (λ e. cc)

is_some : {X : Type 0} (o : Option X) (x : X) → OrNot (o ≡ Some (unwrap_or o x))
is_some None x = inr (λ e. cc)
is_some (Some y) x = inl refl

is_false : (b : Bool) → OrNot (b ≡ false)
is_false false = inl refl
is_false true = inr (λ e. cc)

is_text : (a b : Text) → OrNot (a ≡ b)
is_text a b = go (bytes_eq a b) refl
  where
    go : (t : Bool) → bytes_eq a b ≡ t → OrNot (a ≡ b)
    go true e = inl ((bytes_eq-Decides a b).0 e)
    go false e = inr (λ same. let yes = (bytes_eq-Decides a b).1 same in cc)

is_word : (o : Option Text) (w : Text) → OrNot (o ≡ Some w)
is_word None w = inr (λ e. cc)
is_word (Some v) w = ⊎_elim (λ e. inl (ap Some e)) (λ never. inr (λ e. never (ap (λ (o : Option Text). unwrap_or o []) e))) (is_text v w)

is_at_most : (m n : ℕ) → OrNot (m ≤ n)
is_at_most m n = ⊎_elim (λ more. inr (λ few. omega (arith, more, few))) (λ few. inl few) (cases_lt n m)

has_options : (g : Given) (r : Option Text) (n : Option ℕ) → OrNot (g.role ≡ r) → OrNot (g.number ≡ n) → OrNot (HasOptions g r n)
has_options g r n role number = go (both (is_none g.workers) (both (is_false g.json) (both (is_none g.sessions) (both role number))))
  where
    go : OrNot ((g.workers ≡ None) × ((g.json ≡ false) × ((g.sessions ≡ None) × ((g.role ≡ r) × (g.number ≡ n))))) → OrNot (HasOptions g r n)
    go (inl a) = inl (record { workers = a.0; json = a.1.0; sessions = a.1.1.0; role = a.1.1.1.0; number = a.1.1.1.1 })
    go (inr never) = inr (λ h. never (h.workers, (h.json, (h.sessions, (h.role, h.number)))))

-- What is given says this command, whose numbers are in range.
abbrev SaysWithin : Given → CommandView → Type 0
SaysWithin g c = Says g c × IsWithin c

abbrev run_of : Given → CommandView
run_of g = Run (unwrap_or g.workers 1) g.json

abbrev many_of : Given → CommandView
many_of g = RunMany (unwrap_or g.sessions 1) (unwrap_or g.workers 1) g.json

abbrev project_of : Given → CommandView
project_of g = Project (unwrap_or g.role [])

abbrev gen_of : Given → CommandView
gen_of g = Gen (unwrap_or g.number 0)

-- For each word there is one command that it can be.
says_run : (g : Given) → OrNot (SaysWithin g (run_of g))
says_run g = go (both (is_word g.command (codes "run")) (both (is_none g.role) (both (is_none g.number) (both (cases_eq (unwrap_or g.sessions 1) 1) (both (is_at_most 1 (unwrap_or g.workers 1)) (is_at_most (unwrap_or g.workers 1) 8))))))
  where
    go : OrNot ((g.command ≡ Some (codes "run")) × ((g.role ≡ None) × ((g.number ≡ None) × ((unwrap_or g.sessions 1 ≡ 1) × ((1 ≤ unwrap_or g.workers 1) × (unwrap_or g.workers 1 ≤ 8)))))) → OrNot (SaysWithin g (run_of g))
    go (inl a) = inl ((a.0, refl, refl, a.1.0, a.1.1.0, a.1.1.1.0), (a.1.1.1.1.0, a.1.1.1.1.1))
    go (inr never) = inr (λ s. never (s.0.0, (s.0.3, (s.0.4, (s.0.5, (s.1.0, s.1.1))))))

says_many : (g : Given) → OrNot (SaysWithin g (many_of g))
says_many g = go (both (is_word g.command (codes "run")) (both (is_none g.role) (both (is_none g.number) (both (both (is_at_most 2 (unwrap_or g.sessions 1)) (is_at_most (unwrap_or g.sessions 1) 64)) (both (is_at_most 1 (unwrap_or g.workers 1)) (is_at_most (unwrap_or g.workers 1) 8))))))
  where
    go : OrNot ((g.command ≡ Some (codes "run")) × ((g.role ≡ None) × ((g.number ≡ None) × (((2 ≤ unwrap_or g.sessions 1) × (unwrap_or g.sessions 1 ≤ 64)) × ((1 ≤ unwrap_or g.workers 1) × (unwrap_or g.workers 1 ≤ 8)))))) → OrNot (SaysWithin g (many_of g))
    go (inl a) = inl ((a.0, refl, refl, a.1.0, a.1.1.0, refl), (a.1.1.1.0.0, a.1.1.1.0.1, a.1.1.1.1.0, a.1.1.1.1.1))
    go (inr never) = inr (λ s. never (s.0.0, (s.0.3, (s.0.4, ((s.1.0, s.1.1), (s.1.2, s.1.3))))))

says_alone : (g : Given) (word : Text) → OrNot ((g.command ≡ Some word) × HasOptions g None None)
says_alone g word = both (is_word g.command word) (has_options g None None (is_none g.role) (is_none g.number))

free : {A : Type 0} → OrNot A → OrNot (A × Unit {0})
free (inl a) = inl (a, tt)
free (inr never) = inr (λ b. never b.0)

says_project : (g : Given) → OrNot (SaysWithin g (project_of g))
says_project g = free (both (is_word g.command (codes "project")) (has_options g (Some (unwrap_or g.role [])) None (is_some g.role []) (is_none g.number)))

says_gen : (g : Given) → OrNot (SaysWithin g (gen_of g))
says_gen g = both (both (is_word g.command (codes "gen")) (has_options g None (Some (unwrap_or g.number 0)) (is_none g.role) (is_some g.number 0))) (is_at_most (unwrap_or g.number 0) 4000)

value_of : {X : Type 0} (o : Option X) (x y : X) → o ≡ Some y → y ≡ unwrap_or o x
value_of o x y e = sym (ap (λ p. unwrap_or p x) e)

-- None of the eight, never command.
none_of : (g : Given) → (SaysWithin g (run_of g) → ⊥) → (SaysWithin g (many_of g) → ⊥) → (SaysWithin g Check → ⊥) → (SaysWithin g (project_of g) → ⊥) → (SaysWithin g Table → ⊥) → (SaysWithin g (gen_of g) → ⊥) → (SaysWithin g Replay → ⊥) → (SaysWithin g Line → ⊥) → (c : CommandView) → SaysWithin g c → ⊥
none_of g run many check project table gen replay line (Run n json) s = run (subst (SaysWithin g) (ap₂ Run (sym s.0.1) (sym s.0.2)) s)
none_of g run many check project table gen replay line (RunMany k n json) s = many (subst (SaysWithin g) (ap (λ x. RunMany x n json) (sym s.0.5) ∙ ap₂ (RunMany (unwrap_or g.sessions 1)) (sym s.0.1) (sym s.0.2)) s)
none_of g run many check project table gen replay line Check s = check s
none_of g run many check project table gen replay line (Project r) s = project (subst (SaysWithin g) (ap Project (value_of g.role [] r s.0.1.role)) s)
none_of g run many check project table gen replay line Table s = table s
none_of g run many check project table gen replay line (Gen n) s = gen (subst (SaysWithin g) (ap Gen (value_of g.number 0 n s.0.1.number)) s)
none_of g run many check project table gen replay line Replay s = replay s
none_of g run many check project table gen replay line Line s = line s

says_or_not : (g : Given) → ((c : CommandView) × SaysWithin g c) ⊎ ((c : CommandView) → SaysWithin g c → ⊥)
says_or_not g =
    ⊎_elim (λ s. inl (run_of g, s)) (λ run.
    ⊎_elim (λ s. inl (many_of g, s)) (λ many.
    ⊎_elim (λ s. inl (Check, s)) (λ check.
    ⊎_elim (λ s. inl (project_of g, s)) (λ project.
    ⊎_elim (λ s. inl (Table, s)) (λ table.
    ⊎_elim (λ s. inl (gen_of g, s)) (λ gen.
    ⊎_elim (λ s. inl (Replay, s)) (λ replay.
    ⊎_elim (λ s. inl (Line, s)) (λ line. inr (none_of g run many check project table gen replay line))
    (free (says_alone g (codes "line")))) (free (says_alone g (codes "replay")))) (says_gen g)) (free (says_alone g (codes "table")))) (says_project g)) (free (says_alone g (codes "check")))) (says_many g)) (says_run g)

pub command_or_none : (words : List Text) → ((c : CommandView) × IsCommand words c) ⊎ IsNoCommand words
command_or_none words = go (fault_of rcv (line_of words)) refl
  where
    said : fault_of rcv (line_of words) ≡ [] → ((c : CommandView) × SaysWithin (given words) c) ⊎ ((c : CommandView) → SaysWithin (given words) c → ⊥) → ((c : CommandView) × IsCommand words c) ⊎ IsNoCommand words
    said taken (inl s) = inl (s.0, (taken, s.1.0, s.1.1))
    said taken (inr none) = inr (λ c is. none c (is.1, is.2))

    go : (kinds : Kinds) → fault_of rcv (line_of words) ≡ kinds → ((c : CommandView) × IsCommand words c) ⊎ IsNoCommand words
    go [] e = said e (says_or_not (given words))
    go (k ∷ ks) e = inr (λ c is. let taken = is.0 in cc)
