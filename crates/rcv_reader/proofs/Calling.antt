-- Calls: their arguments, read one after another, and what they say.
use Rattle.std.proofs.Common.{◌≡◌, ℕ, ◌<◌, false, Some, List, [], ◌∷◌, ◌++◌, length, refl, sym, ap, subst, ◌∙◌, arith, append_assoc, append-nil}
use Rattle.std.proofs.lemmas.List.{map-append}
use Rattle.rcv_tree.specs.declared.statement.Stmt.{Stmt}
use Rattle.rcv_tree.specs.declared.statement.Stmt.TheVariants as stmt
use Rattle.rcv_model.proofs.Text.{stmt_body-Do}
use Rattle.rcv_machine.specs.Words.{Comma, Left, Right, Semicolon, Do, Is, Word, ADo, names_behind, or_first, place_of, is_listed, role_at, roles_at, MayCall, Item, Argument, MoreArguments}
use Rattle.rcv_reader.specs.Descent.{Standing, at, named_in, answers, IsGiven, AreArguments, TakesSome}
use Rattle.rcv_reader.proofs.Reading.{one_more}
use Rattle.rcv_reader.proofs.Blocks.{added_by}

-- The first arguments were read.
pub record ArgumentsSoFar (old now : Standing) (earlier : ℕ) (before : List ℕ) : Type 0 where
  pub goes : (k : List Item) → answers old (Argument (named_in old.roles earlier) [] ∷ k)
      ≡ answers now (MoreArguments (named_in old.roles earlier) before ∷ k)
  pub given : AreArguments old now before
  pub shorter : length now.rest < length old.rest

-- one argument more at the end
may_push : (roles : List (List ℕ)) (before : List ℕ) (names : List (List ℕ)) (n : List ℕ) (r : ℕ) → place_of roles n ≡ Some r
    → is_listed r (before ++ roles_at roles names) ≡ false → MayCall roles before names → MayCall roles before (names ++ n ∷ [])
may_push roles before [] n r is first may =
    let place : role_at roles n ≡ r = ap or_first is in ((r, is), rw place (rw append-nil at first), tt)
may_push roles before (m ∷ names) n r is first may =
    (may.0, may.1, may_push roles (before ++ role_at roles m ∷ []) names n r is (rw append_assoc first) may.2)

pub arguments_first : (old new : Standing) (earlier : ℕ) (none after : List ℕ) → none ≡ []
    → ((k : List Item) → answers old (Argument (named_in old.roles earlier) none ∷ k)
    ≡ answers new (MoreArguments (named_in old.roles earlier) after ∷ k))
    → ((r : ℕ) × IsGiven old new none r × (after ≡ none ++ r ∷ [])) → ArgumentsSoFar old new earlier after
arguments_first old new earlier none after empty goes given =
    let (role, is, pushed) = rw empty at given in
    let place : role_at new.roles is.name ≡ role = ap or_first is.is_role in
    record {
      goes = rw empty at goes;
      given = record {
        first = is.name;
        others = [];
        may = may_push new.roles [] [] is.name role is.is_role is.first tt;
        places = rw (pushed, place) refl;
        spelled = is.spelled;
      };
      shorter = rw is.spelled (omega arith);
    }

pub arguments_next : (old p q new : Standing) (earlier : ℕ) (before after : List ℕ)
    → ArgumentsSoFar old p earlier before → p ≡ at q (Is Comma ∷ q.rest)
    → ((k : List Item) → answers q (Argument (named_in q.roles earlier) before ∷ k)
    ≡ answers new (MoreArguments (named_in q.roles earlier) after ∷ k))
    → ((r : ℕ) × IsGiven q new before r × (after ≡ before ++ r ∷ [])) → ArgumentsSoFar old new earlier after
arguments_next old p q new earlier before after so_far e goes (role, is, pushed) =
    let here = rw e at so_far in
    let so = rw is.spelled at here in
    let had = so.given in
    let place : role_at new.roles is.name ≡ role = ap or_first is.is_role in
    let roles : q.roles ≡ old.roles = sym (ap (λ (x : Standing). x.roles) here.given.spelled) in
    let on = λ (k : List Item). subst (λ (all : List (List ℕ)). answers q (Argument (named_in all earlier) before ∷ k)
    ≡ answers new (MoreArguments (named_in all earlier) after ∷ k)) roles (goes k) in
    record {
      goes = λ k. here.goes k ∙ on k;
      given = record {
        first = had.first;
        others = had.others ++ is.name ∷ [];
        may = may_push new.roles [] (had.first ∷ had.others) is.name role is.is_role (rw had.places at is.first) had.may;
        places = rw (pushed, had.places, ← place) (sym (map-append (role_at new.roles) (had.first ∷ had.others) (is.name ∷ [])));
        spelled = rw (one_more names_behind (λ n next. Is Comma ∷ Word n ∷ next) (λ next. refl) (λ n ns next. refl) had.others
            is.name new.rest) had.spelled;
      };
      shorter = omega (arith, so.shorter);
    }

pub call_read : (p p1 p2 p3 new : Standing) (name : List ℕ) (arguments : List ℕ) (block block' : List Stmt)
    → p ≡ at p1 (Word name ∷ p1.rest) → p1 ≡ at p2 (Is Left ∷ p2.rest) → AreArguments p2 (at p3 (Is Right ∷ p3.rest)) arguments
    → p3 ≡ at new (Is Semicolon ∷ new.rest) → block' ≡ block ++ stmt.Do name arguments ∷ []
    → TakesSome p new (Is Do ∷ []) block block'
call_read p p1 p2 p3 new name arguments block block' e1 e2 given e4 is =
    let are = rw e4 at given in
    rw (e1, e2, are.spelled) (
      refl,
      added_by new.roles new.count new.count _ block block' _ _ is (λ m body next w. record {
        written = ADo name are.first are.others w.written;
        sound = (w.sound.0, (are.may, w.sound.1));
        spelled = rw w.spelled refl;
        counted = w.counted;
        tree = rw (stmt_body-Do, w.tree, are.places) refl;
      }) (λ m body next w. tt),
    )
