-- What a plan that was read says: each line fits the roles, and no role crashes twice at one count. This goes by what
-- "read" means alone, without the reader: where no code holds, each role is declared, each number is in its range, and no
-- crash line stands before.
use Rattle.std.proofs.Common.{◌≡◌, ℕ, Bool, true, false, List, [], ◌∷◌, ◌++◌, ◌<◌, ◌≤◌, length, refl, sym, ap, subst, ◌∙◌, append_assoc, append-nil, arith}
use Rattle.std.specs.Prelude.{not, codes, map, Option, Some, None, is_some, unwrap_or}
use Rattle.std.specs.List.{All}
use Rattle.std.proofs.lemmas.List.Elements.{All-nil, All-cons}
use Rattle.rcv_tree.specs.Names.{place_of}
use Rattle.rcv_model.specs.Plan.{PlanLine, CrashLine, HostLine}
use Rattle.rcv_lexer.proofs.Refusing.{backward_append}
use Rattle.rcv_plan.specs.declared.sign.Sign.TheVariants.{Equals, Comma}
use Rattle.rcv_plan.specs.Symbols.{Symbol, Word, Number, Is}
use Rattle.rcv_plan.specs.declared.fault.Fault.TheVariants.{Role, Twice, Range}
use Rattle.rcv_plan.specs.Lines.{IsLineFor, IsPlanFor, has_crash, IsPlanned}
use Rattle.rcv_plan.specs.Grammar.{Written, WrittenEvery, WrittenCrash, WrittenLimit, WrittenRoom, WrittenHost, more_roles, item_text, plan_text, is_role, place, said}
use Rattle.rcv_plan.specs.Codes.{is_between, with_role, lines_before, is_unknown, is_repeated, is_out_of_range, within}
use Rattle.rcv_plan.specs.Refusing.{backward, IsFree, IsRead}
use Rattle.rcv_plan.proofs.Fresh.{Fresh, fresh}
use Rattle.rcv_plan.proofs.Telling.{declared, in_range}
use Rattle.rcv_plan.proofs.Hosting.{last_grows, Behind, grown}

-- ---- where no code holds

-- no code from 41 on holds at the symbol
record NoCode (roles : List (List ℕ)) (back : List Symbol) (t : Symbol) (ts : List Symbol) : Type 0 where
  known : is_unknown roles back t ≡ false
  single : is_repeated roles back t ts ≡ false
  ranged : is_out_of_range back t ≡ false

-- nor at any of these symbols, behind those
abbrev IsClear : List (List ℕ) → List Symbol → List Symbol → Type 0
IsClear roles back [] = Unit {0}
IsClear roles back (t ∷ ts) = NoCode roles back t ts × IsClear roles (t ∷ back) ts

not_true : (b : Bool) → (b ≡ true → ⊥) → b ≡ false
not_true true none = absurd (none refl)
not_true false none = refl

not_false : (b : Bool) → (b ≡ false → ⊥) → b ≡ true
not_false true none = refl
not_false false none = absurd (none refl)

left_clear : (roles : List (List ℕ)) (symbols : List Symbol) → IsFree roles symbols → (front left : List Symbol) → symbols ≡ front ++ left → IsClear roles (backward front []) left
left_clear roles symbols free front [] cut = tt
left_clear roles symbols free front (t ∷ ts) cut = (
  record {
    known = not_true (is_unknown roles (backward front []) t) (free Role front (t ∷ ts) cut);
    single = not_true (is_repeated roles (backward front []) t ts) (free Twice front (t ∷ ts) cut);
    ranged = not_true (is_out_of_range (backward front []) t) (free Range front (t ∷ ts) cut);
  },
  subst (λ (back : List Symbol). IsClear roles back ts) (backward_append front (t ∷ []) []) (left_clear roles symbols free (front ++ t ∷ []) ts (cut ∙ sym (append_assoc front (t ∷ []) ts))),
)

clear_behind : (roles : List (List ℕ)) (xs ys back : List Symbol) → IsClear roles back (xs ++ ys) → IsClear roles (backward xs back) ys
clear_behind roles [] ys back clear = clear
clear_behind roles (x ∷ xs) ys back clear = clear_behind roles xs ys (x ∷ back) clear.1

known_place : (roles : List (List ℕ)) (r : List ℕ) → not (is_role roles r) ≡ false → place roles r < length roles
known_place roles r known = go (place_of roles r) refl known
  where
    go : (o : Option ℕ) → place_of roles r ≡ o → not (is_some o) ≡ false → unwrap_or o (length roles) < length roles
    go None is known = absurd cc
    go (Some p) is known = declared roles r p is

-- ---- one item

-- a crash line is the first of its role at its count
abbrev IsAlone : List PlanLine → PlanLine → Type 0
IsAlone before (CrashLine r n) = has_crash r n before ≡ false
IsAlone before _ = Unit {0}

-- What the item says fits the roles and the lines before; behind its text it is said, and another item may begin.
record IsFitting (roles : List (List ℕ)) (back : List Symbol) (item : Written) : Type 0 where
  fits : IsLineFor (length roles) (said roles item)
  alone : IsAlone (lines_before roles back) (said roles item)
  over : is_between (backward (item_text item) back) ≡ true
  lines_are : lines_before roles (backward (item_text item) back) ≡ lines_before roles back ++ said roles item ∷ []

every_fits : (roles : List (List ℕ)) (back : List Symbol) (r : List ℕ) (n : ℕ) (rest : List Symbol) → Fresh back → IsClear roles back (Word (codes "every") ∷ Word r ∷ Number n ∷ rest) → IsFitting roles back (WrittenEvery r n)
every_fits roles back r n rest f clear = record {
  fits = (known_place roles r (rw f.between at clear.1.0.known), number.0, number.1);
  alone = tt;
  over = refl;
  lines_are = rw (f.word (codes "every"), f.hosted (lines_before roles back) (place roles (codes "every")), f.between) refl;
}
  where
    number : (1 ≤ n) × (n ≤ 100000)
    number = in_range 1 100000 n (not_false (within 1 100000 n) (λ w. let ranged = rw (f.between, f.word (codes "every"), w) at clear.1.1.0.ranged in cc))

crash_fits : (roles : List (List ℕ)) (back : List Symbol) (r : List ℕ) (n : ℕ) (rest : List Symbol) → Fresh back → IsClear roles back (Word (codes "crash") ∷ Word r ∷ Number n ∷ rest) → IsFitting roles back (WrittenCrash r n)
crash_fits roles back r n rest f clear = record {
  fits = (known_place roles r (rw f.between at clear.1.0.known), omega (arith, number.1));
  alone = rw (f.between, f.hosted (lines_before roles back) (place roles (codes "crash"))) at clear.1.1.0.single;
  over = refl;
  lines_are = rw (f.word (codes "crash"), f.hosted (lines_before roles back) (place roles (codes "crash")), f.between) refl;
}
  where
    number : (0 ≤ n) × (n ≤ 100000)
    number = in_range 0 100000 n (not_false (within 0 100000 n) (λ w. let ranged = rw (f.between, f.word (codes "crash"), w) at clear.1.1.0.ranged in cc))

limit_fits : (roles : List (List ℕ)) (back : List Symbol) (n : ℕ) (rest : List Symbol) → Fresh back → IsClear roles back (Word (codes "limit") ∷ Number n ∷ rest) → IsFitting roles back (WrittenLimit n)
limit_fits roles back n rest f clear = record {
  fits = in_range 1 100000 n (not_false (within 1 100000 n) (λ w. let ranged = rw (f.behind (codes "every"), f.behind (codes "crash"), f.between, w) at clear.1.0.ranged in cc));
  alone = tt;
  over = refl;
  lines_are = rw (f.hosted (lines_before roles back) (place roles (codes "limit")), f.between) refl;
}

room_fits : (roles : List (List ℕ)) (back : List Symbol) (n : ℕ) (rest : List Symbol) → Fresh back → IsClear roles back (Word (codes "room") ∷ Number n ∷ rest) → IsFitting roles back (WrittenRoom n)
room_fits roles back n rest f clear = record {
  fits = in_range 1 1024 n (not_false (within 1 1024 n) (λ w. let ranged = rw (f.behind (codes "every"), f.behind (codes "crash"), f.between, w) at clear.1.0.ranged in cc));
  alone = tt;
  over = refl;
  lines_are = rw (f.hosted (lines_before roles back) (place roles (codes "room")), f.between) refl;
}

-- ---- a host

-- a host of these members is said behind the lines
record HasHost (roles : List (List ℕ)) (back : List Symbol) (lines : List PlanLine) (members : List ℕ) : Type 0 where
  fits : All (λ q. q < length roles) members
  over : is_between back ≡ true
  lines_are : lines_before roles back ≡ lines ++ HostLine members ∷ []

-- the other roles, behind one that stands behind a comma
others_fit : (roles : List (List ℕ)) (lines : List PlanLine) (others : List (List ℕ)) (q : List ℕ) (back : List Symbol) (members : List ℕ) (rest : List Symbol) → Behind roles lines q back members
    → IsClear roles (Word q ∷ Is Comma ∷ back) (more_roles others ++ rest) → HasHost roles (backward (more_roles others) (Word q ∷ Is Comma ∷ back)) lines (members ++ map (place roles) others)
others_fit roles lines [] q back members rest behind clear =
    subst (λ (all : List ℕ). HasHost roles (Word q ∷ Is Comma ∷ back) lines all) (sym (append-nil members)) (record { fits = behind.known; over = refl; lines_are = behind.lines_are })
others_fit roles lines (r ∷ others) q back members rest behind clear =
    let more : Behind roles lines r (Word q ∷ Is Comma ∷ back) (members ++ place roles r ∷ []) =
    grown roles lines q back members (members ++ place roles r ∷ []) r behind refl (known_place roles r clear.1.0.known) in
    subst (λ (all : List ℕ). HasHost roles (backward (more_roles others) (Word r ∷ Is Comma ∷ Word q ∷ Is Comma ∷ back)) lines all) (append_assoc members (place roles r ∷ []) (map (place roles) others))
    (others_fit roles lines others r (Word q ∷ Is Comma ∷ back) (members ++ place roles r ∷ []) rest more clear.1.1)

host_fits : (roles : List (List ℕ)) (back : List Symbol) (h a b : List ℕ) (others : List (List ℕ)) (rest : List Symbol) → Fresh back
    → IsClear roles back (Word (codes "host") ∷ Word h ∷ Is Equals ∷ Word a ∷ Is Comma ∷ Word b ∷ more_roles others ++ rest) → IsFitting roles back (WrittenHost h a b others)
host_fits roles back h a b others rest f clear = record { fits = all.fits; alone = tt; over = all.over; lines_are = all.lines_are }
  where
    first : place roles a < length roles
    first = known_place roles a clear.1.1.1.0.known

    second : place roles b < length roles
    second = known_place roles b clear.1.1.1.1.1.0.known

    behind : Behind roles (lines_before roles back) b (Word a ∷ Is Equals ∷ Word h ∷ Word (codes "host") ∷ back) (place roles a ∷ place roles b ∷ [])
    behind = record {
      lines_are =
          ap (λ (lines : List PlanLine). with_role (lines ++ HostLine (place roles a ∷ []) ∷ []) (place roles b)) (f.hosted (lines_before roles back) (place roles (codes "host")))
          ∙ last_grows (lines_before roles back) (place roles a ∷ []) (place roles b);
      known = All-cons (λ q. q < length roles) (place roles a) (place roles b ∷ []) first (All-cons (λ q. q < length roles) (place roles b) [] second (All-nil (λ q. q < length roles)));
    }

    all : HasHost roles (backward (more_roles others) (Word b ∷ Is Comma ∷ Word a ∷ Is Equals ∷ Word h ∷ Word (codes "host") ∷ back)) (lines_before roles back) (map (place roles) (a ∷ b ∷ others))
    all = others_fit roles (lines_before roles back) others b (Word a ∷ Is Equals ∷ Word h ∷ Word (codes "host") ∷ back) (place roles a ∷ place roles b ∷ []) rest behind clear.1.1.1.1.1.1

item_fits : (roles : List (List ℕ)) (back : List Symbol) (item : Written) (rest : List Symbol) → Fresh back → IsClear roles back (item_text item ++ rest) → IsFitting roles back item
item_fits roles back (WrittenEvery r n) rest f clear = every_fits roles back r n rest f clear
item_fits roles back (WrittenCrash r n) rest f clear = crash_fits roles back r n rest f clear
item_fits roles back (WrittenLimit n) rest f clear = limit_fits roles back n rest f clear
item_fits roles back (WrittenRoom n) rest f clear = room_fits roles back n rest f clear
item_fits roles back (WrittenHost h a b others) rest f clear = host_fits roles back h a b others rest f clear

-- ---- all items

-- each crash line is the first of its role at its count, also among the lines before
abbrev IsOnceBehind : List PlanLine → List PlanLine → Type 0
IsOnceBehind before lines = (front after : List PlanLine) (r n : ℕ) → lines ≡ front ++ CrashLine r n ∷ after → has_crash r n (before ++ front) ≡ false

once_at_end : (before front after : List PlanLine) (r n : ℕ) → [] ≡ front ++ CrashLine r n ∷ after → has_crash r n (before ++ front) ≡ false
once_at_end before [] after r n e = absurd cc
once_at_end before (x ∷ front) after r n e = absurd cc

once_from : (before : List PlanLine) (line : PlanLine) (lines : List PlanLine) → IsAlone before line → IsOnceBehind (before ++ line ∷ []) lines → (front after : List PlanLine) (r n : ℕ) → line ∷ lines ≡ front ++ CrashLine r n ∷ after
    → has_crash r n (before ++ front) ≡ false
once_from before line lines alone once [] after r n e =
    let same : line ≡ CrashLine r n = cc in
    subst (λ (l : List PlanLine). has_crash r n l ≡ false) (sym (append-nil before)) (subst (λ (x : PlanLine). IsAlone before x) same alone)
once_from before line lines alone once (x ∷ front) after r n e =
    let same : line ≡ x = cc in
    let cut : lines ≡ front ++ CrashLine r n ∷ after = cc in
    subst (λ (y : PlanLine). has_crash r n (before ++ y ∷ front) ≡ false) same (subst (λ (l : List PlanLine). has_crash r n l ≡ false) (append_assoc before (line ∷ []) front) (once front after r n cut))

-- These lines fit so many roles, and the lines before.
record AreFitting (roles : ℕ) (before lines : List PlanLine) : Type 0 where
  fits : IsPlanFor roles lines
  once : IsOnceBehind before lines

items_fit : (roles : List (List ℕ)) (items : List Written) (back : List Symbol) → is_between back ≡ true → IsClear roles back (plan_text items) → AreFitting (length roles) (lines_before roles back) (map (said roles) items)
items_fit roles [] back e clear = record { fits = All-nil (IsLineFor (length roles)); once = once_at_end (lines_before roles back) }
items_fit roles (item ∷ items) back e clear =
    let first = item_fits roles back item (plan_text items) (fresh back e) clear in
    let others = items_fit roles items (backward (item_text item) back) first.over (clear_behind roles (item_text item) (plan_text items) back clear) in
    record {
      fits = All-cons (IsLineFor (length roles)) (said roles item) (map (said roles) items) first.fits others.fits;
      once = once_from (lines_before roles back) (said roles item) (map (said roles) items) first.alone (subst (λ (before : List PlanLine). IsOnceBehind before (map (said roles) items)) first.lines_are others.once);
    }

-- A plan that was read for these roles.
pub read_is_planned : (roles : List (List ℕ)) (symbols : List Symbol) (lines : List PlanLine) → IsRead roles symbols lines → IsPlanned (length roles) lines
read_is_planned roles symbols lines read =
    let clear : IsClear roles [] (plan_text read.items) = subst (λ (text : List Symbol). IsClear roles [] text) read.derived (left_clear roles symbols read.free [] symbols refl) in
    let all = items_fit roles read.items [] refl clear in
    subst (λ (plan : List PlanLine). IsPlanned (length roles) plan) (sym read.said_by) (record { fits = all.fits; once = all.once })
