-- Each item in the words of the table.
use Rattle.std.proofs.Common.{◌≡◌, ℕ, Bool, true, false, List, [], ◌∷◌, ◌++◌, ◌<◌, length, arith, refl, sym, ap, subst, ◌∙◌, append_assoc, append-nil}
use Rattle.std.specs.Prelude.{◌&&◌, ◌||◌, codes, cond, map}
use Rattle.std.specs.List.{All}
use Rattle.std.specs.Str.{bytes_eq}
use Rattle.rcv_model.specs.Plan.{PlanLine, HostLine}
use Rattle.rcv_lexer.proofs.Refusing.{backward_append}
use Rattle.rcv_plan.specs.declared.sign.Sign.{Sign}
use Rattle.rcv_plan.specs.declared.sign.Sign.TheVariants.{Equals, Comma, Foreign}
use Rattle.rcv_plan.specs.Symbols.{Symbol, Word, Number, Is, Text}
use Rattle.rcv_plan.specs.declared.fault.Fault.{Fault}
use Rattle.rcv_plan.specs.declared.fault.Fault.TheVariants.{Token, Role, Twice, Range}
use Rattle.rcv_plan.specs.Lines.{is_hosted}
use Rattle.rcv_plan.specs.Grammar.{WrittenEvery, WrittenCrash, WrittenLimit, WrittenRoom, WrittenHost, more_roles, item_text, place}
use Rattle.rcv_plan.specs.Codes.{is_among, with_role, lines_before, hosts_before, is_second}
use Rattle.rcv_plan.specs.Items.{KnownView, Step, Takes, Stops, goes_on, with_host, next_sign, next_member, next_members, host_roles, every_line, crash_line, limit_line, room_line, host_line, line_by, next_item, is_first_word}
use Rattle.rcv_plan.proofs.Fresh.{Fresh}
use Rattle.rcv_plan.proofs.Telling.{has, NoneAt, AllFree, Speaks, Knows, Tells, StopsAt, Completes, Allowed, fits_more, free_append, stops, first_free, every_tells, crash_tells, limit_tells, room_tells}
use Rattle.rcv_plan.proofs.Hosting.{same_bytes, IsWordAt, TellsRole, role_tells, TellsRoles, Behind, free_comma, roles_tell, last_grows, hosted_so_far}
use Rattle.std.proofs.lemmas.List.Elements.{All-push}

more_roles_append : (xs ys : List (List ℕ)) → more_roles (xs ++ ys) ≡ more_roles xs ++ more_roles ys
more_roles_append [] ys = refl
more_roles_append (x ∷ xs) ys = ap (λ (z : List Symbol). Is Comma ∷ Word x ∷ z) (more_roles_append xs ys)

host_free : (roles : List (List ℕ)) (back : List Symbol) (ts : List Symbol) → Fresh back → NoneAt roles back (Word (codes "host")) ts
host_free roles back ts f = first_free roles back (codes "host") ts f refl refl

names_before : (roles : List (List ℕ)) (back : List Symbol) (k : KnownView) → Fresh back → Knows roles back k → hosts_before (Word (codes "host") ∷ back) ≡ k.names
names_before roles back k f kn = rw (f.behind (codes "host")) (sym kn.names)

name_free : (roles : List (List ℕ)) (back : List Symbol) (k : KnownView) (h : List ℕ) (ts : List Symbol) → Fresh back → Knows roles back k → is_among h k.names ≡ false → NoneAt roles (Word (codes "host") ∷ back) (Word h) ts
name_free roles back k h ts f kn e =
    let before : is_among h (hosts_before back) ≡ false = subst (λ (x : List (List ℕ)). is_among h x ≡ false) kn.names e in
    record {
      had = rw f.between refl;
      known = rw f.between refl;
      single = rw (f.word (codes "host"), f.between, f.behind (codes "host"), before) refl;
      ranged = refl;
    }

equals_free : (roles : List (List ℕ)) (back : List Symbol) (h : List ℕ) (ts : List Symbol) → Fresh back → NoneAt roles (Word h ∷ Word (codes "host") ∷ back) (Is Equals) ts
equals_free roles back h ts f = record { had = rw f.between refl; known = refl; single = refl; ranged = refl }

-- the symbols up to the mark behind the name
abbrev opening : List ℕ → List Symbol
opening h = Word (codes "host") ∷ Word h ∷ Is Equals ∷ []

opening_free : (roles : List (List ℕ)) (back : List Symbol) (k : KnownView) (h : List ℕ) (ts : List Symbol) → Fresh back → Knows roles back k → is_among h k.names ≡ false → AllFree roles back (opening h) ts
opening_free roles back k h ts f kn e = (host_free roles back (Word h ∷ Is Equals ∷ ts) f, (name_free roles back k h (Is Equals ∷ ts) f kn e, (equals_free roles back h ts f, tt)))

lines_open : (roles : List (List ℕ)) (back : List Symbol) (k : KnownView) (h : List ℕ) → Fresh back → Knows roles back k → lines_before roles (Word h ∷ Word (codes "host") ∷ back) ≡ k.lines
lines_open roles back k h f kn = f.hosted (lines_before roles back) (place roles (codes "host")) ∙ sym kn.lines

-- with a word that stands there
with_word : (f : Fault) (front left : List Symbol) → IsWordAt f left → ((r : List ℕ) → Completes (front ++ Word r ∷ [])) → Allowed f front left
with_word Token front left w c = tt
with_word Role front left w c = subst (λ (z : List Symbol). Allowed Role front z) (sym w.2) (c w.0)
with_word Twice front left w c = subst (λ (z : List Symbol). Allowed Twice front z) (sym w.2) (c w.0)
with_word Range front left w c = subst (λ (z : List Symbol). Allowed Range front z) (sym w.2) (c w.0)

-- the roles of a host, behind its first two
host_ends : (roles : List (List ℕ)) (back : List Symbol) (k : KnownView) (h a b : List ℕ) (qs : List ℕ) (ts : List Symbol) (s : Step (List ℕ)) → Fresh back → Knows roles back k → is_among h k.names ≡ false
    → qs ≡ place roles a ∷ place roles b ∷ []
    → AllFree roles back (Word (codes "host") ∷ Word h ∷ Is Equals ∷ Word a ∷ Is Comma ∷ Word b ∷ []) ts
    → TellsRoles roles (Word b ∷ Is Comma ∷ Word a ∷ Is Equals ∷ Word h ∷ Word (codes "host") ∷ back) k.lines qs ts s
    → Tells roles back k (Word (codes "host") ∷ Word h ∷ Is Equals ∷ Word a ∷ Is Comma ∷ Word b ∷ ts) (goes_on s (λ all left. Takes (with_host k h all) left))
host_ends roles back k h a b qs ts (Takes all left) f kn e two free t = record {
  item = WrittenHost h a b t.names;
  cut = ap (λ (z : List Symbol). Word (codes "host") ∷ Word h ∷ Is Equals ∷ Word a ∷ Is Comma ∷ Word b ∷ z) t.cut;
  free = free_append roles back (Word (codes "host") ∷ Word h ∷ Is Equals ∷ Word a ∷ Is Comma ∷ Word b ∷ []) (more_roles t.names) left (subst (λ (z : List Symbol). AllFree roles back (Word (codes "host") ∷ Word h ∷ Is Equals ∷ Word a ∷ Is Comma ∷ Word b ∷ []) z) t.cut free) t.free;
  knows = record {
    lines = sym t.lines_are;
    names = sym (t.hosts ∙ named);
    fits = fits_more (length roles) k.lines (HostLine all) kn.fits t.known;
  };
  over = t.over;
  settled = t.settled;
  more = ap (λ (x : List ℕ). k.lines ++ HostLine x ∷ []) (t.more ∙ ap (λ (x : List ℕ). x ++ map (place roles) t.names) two);
  alone = λ r c x. absurd cc;
}
  where
    named : hosts_before (Word h ∷ Word (codes "host") ∷ back) ≡ k.names ++ h ∷ []
    named = rw (f.between) (ap (λ (x : List (List ℕ)). x ++ h ∷ []) (names_before roles back k f kn))
host_ends roles back k h a b qs ts (Stops fault left) f kn e two free t = record {
  front = Word (codes "host") ∷ Word h ∷ Is Equals ∷ Word a ∷ Is Comma ∷ Word b ∷ more_roles t.names ++ Is Comma ∷ [];
  cut = ap (λ (z : List Symbol). Word (codes "host") ∷ Word h ∷ Is Equals ∷ Word a ∷ Is Comma ∷ Word b ∷ z) (t.cut ∙ sym (append_assoc (more_roles t.names) (Is Comma ∷ []) left));
  free = free_append roles back (Word (codes "host") ∷ Word h ∷ Is Equals ∷ Word a ∷ Is Comma ∷ Word b ∷ []) (more_roles t.names ++ Is Comma ∷ []) left
      (subst (λ (z : List Symbol). AllFree roles back (Word (codes "host") ∷ Word h ∷ Is Equals ∷ Word a ∷ Is Comma ∷ Word b ∷ []) z) (t.cut ∙ sym (append_assoc (more_roles t.names) (Is Comma ∷ []) left)) free) t.free;
  speaks = subst (λ (z : List Symbol). Speaks roles fault z left) (sym (backward_append (more_roles t.names) (Is Comma ∷ []) (Word b ∷ Is Comma ∷ Word a ∷ Is Equals ∷ Word h ∷ Word (codes "host") ∷ back))) t.speaks;
  item = WrittenHost h a b (t.names ++ h ∷ []);
  rest = Word h ∷ [];
  begins = ap (λ (z : List Symbol). Word (codes "host") ∷ Word h ∷ Is Equals ∷ Word a ∷ Is Comma ∷ Word b ∷ z)
      (append_assoc (more_roles t.names) (Is Comma ∷ []) (Word h ∷ []) ∙ sym (more_roles_append t.names (h ∷ [])));
  allowed = with_word fault (Word (codes "host") ∷ Word h ∷ Is Equals ∷ Word a ∷ Is Comma ∷ Word b ∷ more_roles t.names ++ Is Comma ∷ []) left t.word
      (λ r. (
        WrittenHost h a b (t.names ++ r ∷ []),
        [],
        ap (λ (z : List Symbol). Word (codes "host") ∷ Word h ∷ Is Equals ∷ Word a ∷ Is Comma ∷ Word b ∷ z)
            (append-nil ((more_roles t.names ++ Is Comma ∷ []) ++ Word r ∷ []) ∙ append_assoc (more_roles t.names) (Is Comma ∷ []) (Word r ∷ []) ∙ sym (more_roles_append t.names (r ∷ []))),
      ));
}

-- the second role
second_role : (roles : List (List ℕ)) (back : List Symbol) (k : KnownView) (h a : List ℕ) (qs : List ℕ) (ts : List Symbol) (s : Step (List ℕ)) → Fresh back → Knows roles back k → is_among h k.names ≡ false
    → qs ≡ place roles a ∷ [] → All (λ q. q < length roles) qs
    → ((us : List Symbol) → Is Comma ∷ ts ≡ us → NoneAt roles (Is Equals ∷ Word h ∷ Word (codes "host") ∷ back) (Word a) us)
    → lines_before roles (Word a ∷ Is Equals ∷ Word h ∷ Word (codes "host") ∷ back) ≡ k.lines ++ HostLine qs ∷ []
    → TellsRole roles Comma (Word a ∷ Is Equals ∷ Word h ∷ Word (codes "host") ∷ back) qs ts s
    → Tells roles back k (Word (codes "host") ∷ Word h ∷ Is Equals ∷ Word a ∷ Is Comma ∷ ts) (goes_on (goes_on s (next_members roles k)) (λ all left. Takes (with_host k h all) left))
second_role roles back k h a qs ts (Stops fault left) f kn e one within first lines t = record {
  front = Word (codes "host") ∷ Word h ∷ Is Equals ∷ Word a ∷ Is Comma ∷ [];
  cut = ap (λ (z : List Symbol). Word (codes "host") ∷ Word h ∷ Is Equals ∷ Word a ∷ Is Comma ∷ z) (sym t.same);
  free = (
    host_free roles back (Word h ∷ Is Equals ∷ Word a ∷ Is Comma ∷ left) f,
    (
      name_free roles back k h (Is Equals ∷ Word a ∷ Is Comma ∷ left) f kn e,
      (
        equals_free roles back h (Word a ∷ Is Comma ∷ left) f,
        (first (Is Comma ∷ left) (ap (λ (z : List Symbol). Is Comma ∷ z) (sym t.same)), (free_comma roles Equals a (Word h ∷ Word (codes "host") ∷ back) left refl, tt)),
      ),
    ),
  );
  speaks = t.speaks;
  item = WrittenHost h a h [];
  rest = Word h ∷ [];
  begins = refl;
  allowed = with_word fault (Word (codes "host") ∷ Word h ∷ Is Equals ∷ Word a ∷ Is Comma ∷ []) left t.word (λ r. (WrittenHost h a r [], [], refl));
}
second_role roles back k h a qs ts (Takes two left) f kn e one within first lines t =
    subst (λ (z : List Symbol). Tells roles back k (Word (codes "host") ∷ Word h ∷ Is Equals ∷ Word a ∷ Is Comma ∷ z) (goes_on (next_members roles k two left) (λ all end. Takes (with_host k h all) end))) (sym t.cut)
    (host_ends roles back k h a t.name two left (next_members roles k two left) f kn e (t.more ∙ ap (λ (x : List ℕ). x ++ place roles t.name ∷ []) one) (
      host_free roles back (Word h ∷ Is Equals ∷ Word a ∷ Is Comma ∷ Word t.name ∷ left) f,
      (
        name_free roles back k h (Is Equals ∷ Word a ∷ Is Comma ∷ Word t.name ∷ left) f kn e,
        (
          equals_free roles back h (Word a ∷ Is Comma ∷ Word t.name ∷ left) f,
          (first (Is Comma ∷ Word t.name ∷ left) (ap (λ (z : List Symbol). Is Comma ∷ z) t.cut), (free_comma roles Equals a (Word h ∷ Word (codes "host") ∷ back) (Word t.name ∷ left) refl, (t.free, tt))),
        ),
      ),
    )
    (roles_tell roles k t.name (Word a ∷ Is Equals ∷ Word h ∷ Word (codes "host") ∷ back) two left behind))
  where
    behind : Behind roles k.lines t.name (Word a ∷ Is Equals ∷ Word h ∷ Word (codes "host") ∷ back) two
    behind = record {
      lines_are = ap (λ (x : List PlanLine). with_role x (place roles t.name)) lines ∙ last_grows k.lines qs (place roles t.name) ∙ sym (ap (λ (x : List ℕ). k.lines ++ HostLine x ∷ []) t.more);
      known = subst (λ (x : List ℕ). All (λ p. p < length roles) x) (sym t.more) (All-push (λ p. p < length roles) qs (place roles t.name) within t.known);
    }

-- ---- the whole item of a host

host_stops : (roles : List (List ℕ)) (back : List Symbol) (fault : Fault) (ts : List Symbol) → Fresh back → Speaks roles fault (Word (codes "host") ∷ back) ts → Allowed fault (Word (codes "host") ∷ []) ts → StopsAt roles back (Word (codes "host") ∷ ts) fault ts
host_stops roles back fault ts f speaks allowed =
    stops roles back (Word (codes "host") ∷ []) fault ts (WrittenHost [] [] [] [], Word [] ∷ Is Equals ∷ Word [] ∷ Is Comma ∷ Word [] ∷ [], refl) (host_free roles back ts f, tt) speaks allowed

name_stops : (roles : List (List ℕ)) (back : List Symbol) (k : KnownView) (h : List ℕ) (fault : Fault) (ts : List Symbol) → Fresh back → Knows roles back k → is_among h k.names ≡ false
    → Speaks roles fault (Word h ∷ Word (codes "host") ∷ back) ts → Allowed fault (Word (codes "host") ∷ Word h ∷ []) ts → StopsAt roles back (Word (codes "host") ∷ Word h ∷ ts) fault ts
name_stops roles back k h fault ts f kn e speaks allowed =
    stops roles back (Word (codes "host") ∷ Word h ∷ []) fault ts (WrittenHost h [] [] [], Is Equals ∷ Word [] ∷ Is Comma ∷ Word [] ∷ [], refl)
    (host_free roles back (Word h ∷ ts) f, (name_free roles back k h ts f kn e, tt)) speaks allowed

open_stops : (roles : List (List ℕ)) (back : List Symbol) (k : KnownView) (h : List ℕ) (fault : Fault) (ts : List Symbol) → Fresh back → Knows roles back k → is_among h k.names ≡ false
    → Speaks roles fault (Is Equals ∷ Word h ∷ Word (codes "host") ∷ back) ts → Allowed fault (opening h) ts → StopsAt roles back (Word (codes "host") ∷ Word h ∷ Is Equals ∷ ts) fault ts
open_stops roles back k h fault ts f kn e speaks allowed =
    stops roles back (opening h) fault ts (WrittenHost h [] [] [], Word [] ∷ Is Comma ∷ Word [] ∷ [], refl) (opening_free roles back k h ts f kn e) speaks allowed

first_stops : (roles : List (List ℕ)) (back : List Symbol) (k : KnownView) (h a : List ℕ) (fault : Fault) (ts : List Symbol) → Fresh back → Knows roles back k → is_among h k.names ≡ false
    → NoneAt roles (Is Equals ∷ Word h ∷ Word (codes "host") ∷ back) (Word a) ts
    → Speaks roles fault (Word a ∷ Is Equals ∷ Word h ∷ Word (codes "host") ∷ back) ts → Allowed fault (Word (codes "host") ∷ Word h ∷ Is Equals ∷ Word a ∷ []) ts → StopsAt roles back (Word (codes "host") ∷ Word h ∷ Is Equals ∷ Word a ∷ ts) fault ts
first_stops roles back k h a fault ts f kn e first speaks allowed =
    stops roles back (Word (codes "host") ∷ Word h ∷ Is Equals ∷ Word a ∷ []) fault ts (WrittenHost h a [] [], Is Comma ∷ Word [] ∷ [], refl)
    (host_free roles back (Word h ∷ Is Equals ∷ Word a ∷ ts) f, (name_free roles back k h (Is Equals ∷ Word a ∷ ts) f kn e, (equals_free roles back h (Word a ∷ ts) f, (first, tt)))) speaks allowed

-- what stands behind the first role
behind_first : (roles : List (List ℕ)) (back : List Symbol) (k : KnownView) (h a : List ℕ) (qs : List ℕ) (ts : List Symbol) → Fresh back → Knows roles back k → is_among h k.names ≡ false
    → qs ≡ place roles a ∷ [] → All (λ q. q < length roles) qs
    → NoneAt roles (Is Equals ∷ Word h ∷ Word (codes "host") ∷ back) (Word a) ts
    → lines_before roles (Word a ∷ Is Equals ∷ Word h ∷ Word (codes "host") ∷ back) ≡ k.lines ++ HostLine qs ∷ []
    → Tells roles back k (Word (codes "host") ∷ Word h ∷ Is Equals ∷ Word a ∷ ts)
    (goes_on (goes_on (next_sign Comma ts) (λ m vs. goes_on (next_member roles k qs vs) (next_members roles k))) (λ all left. Takes (with_host k h all) left))
behind_first roles back k h a qs [] f kn e one within first lines = first_stops roles back k h a Token [] f kn e first refl tt
behind_first roles back k h a qs (Word w ∷ ts) f kn e one within first lines = first_stops roles back k h a Token (Word w ∷ ts) f kn e first refl tt
behind_first roles back k h a qs (Number w ∷ ts) f kn e one within first lines = first_stops roles back k h a Token (Number w ∷ ts) f kn e first refl tt
behind_first roles back k h a qs (Text w ∷ ts) f kn e one within first lines = first_stops roles back k h a Token (Text w ∷ ts) f kn e first refl tt
behind_first roles back k h a qs (Is Equals ∷ ts) f kn e one within first lines = first_stops roles back k h a Token (Is Equals ∷ ts) f kn e first refl tt
behind_first roles back k h a qs (Is Foreign ∷ ts) f kn e one within first lines = first_stops roles back k h a Token (Is Foreign ∷ ts) f kn e first refl tt
behind_first roles back k h a qs (Is Comma ∷ ts) f kn e one within first lines =
    second_role roles back k h a qs ts (next_member roles k qs ts) f kn e one within
    (λ us u. subst (λ (z : List Symbol). NoneAt roles (Is Equals ∷ Word h ∷ Word (codes "host") ∷ back) (Word a) z) u first) lines
    (role_tells roles k Comma (Word a ∷ Is Equals ∷ Word h ∷ Word (codes "host") ∷ back) qs ts refl (λ p. ap (λ (x : List PlanLine). is_hosted p x) lines ∙ hosted_so_far k.lines qs p))

-- the first role
first_role : (roles : List (List ℕ)) (back : List Symbol) (k : KnownView) (h : List ℕ) (ts : List Symbol) (s : Step (List ℕ)) → Fresh back → Knows roles back k → is_among h k.names ≡ false
    → TellsRole roles Equals (Word h ∷ Word (codes "host") ∷ back) [] ts s
    → Tells roles back k (Word (codes "host") ∷ Word h ∷ Is Equals ∷ ts)
    (goes_on (goes_on s (λ q us. goes_on (next_sign Comma us) (λ m vs. goes_on (next_member roles k q vs) (next_members roles k)))) (λ all left. Takes (with_host k h all) left))
first_role roles back k h ts (Stops fault left) f kn e t =
    subst (λ (z : List Symbol). StopsAt roles back (Word (codes "host") ∷ Word h ∷ Is Equals ∷ z) fault left) t.same (open_stops roles back k h fault left f kn e t.speaks (with_word fault (opening h) left t.word (λ r. (WrittenHost h r [] [], Is Comma ∷ Word [] ∷ [], refl))))
first_role roles back k h ts (Takes qs left) f kn e t =
    subst (λ (z : List Symbol). Tells roles back k (Word (codes "host") ∷ Word h ∷ Is Equals ∷ z)
    (goes_on (goes_on (next_sign Comma left) (λ m vs. goes_on (next_member roles k qs vs) (next_members roles k))) (λ all end. Takes (with_host k h all) end))) (sym t.cut)
    (behind_first roles back k h t.name qs left f kn e t.more
    (subst (λ (x : List ℕ). All (λ p. p < length roles) x) (sym t.more) (All-push (λ p. p < length roles) [] (place roles t.name) (λ i d l. absurd (omega (arith, l))) t.known))
    t.free
    (ap (λ (x : List PlanLine). x ++ HostLine (place roles t.name ∷ []) ∷ []) (lines_open roles back k h f kn) ∙ sym (ap (λ (x : List ℕ). k.lines ++ HostLine x ∷ []) t.more)))

-- what stands behind the name
behind_name : (roles : List (List ℕ)) (back : List Symbol) (k : KnownView) (h : List ℕ) (ts : List Symbol) → Fresh back → Knows roles back k → is_among h k.names ≡ false
    → Tells roles back k (Word (codes "host") ∷ Word h ∷ ts) (goes_on (next_sign Equals ts) (λ m vs. goes_on (host_roles roles k vs) (λ qs ws. Takes (with_host k h qs) ws)))
behind_name roles back k h [] f kn e = name_stops roles back k h Token [] f kn e refl tt
behind_name roles back k h (Word w ∷ ts) f kn e = name_stops roles back k h Token (Word w ∷ ts) f kn e (rw (f.word (codes "host")) refl) tt
behind_name roles back k h (Number w ∷ ts) f kn e = name_stops roles back k h Token (Number w ∷ ts) f kn e (rw (f.between, f.word (codes "host")) refl) tt
behind_name roles back k h (Text w ∷ ts) f kn e = name_stops roles back k h Token (Text w ∷ ts) f kn e refl tt
behind_name roles back k h (Is Comma ∷ ts) f kn e = name_stops roles back k h Token (Is Comma ∷ ts) f kn e (rw f.between refl) tt
behind_name roles back k h (Is Foreign ∷ ts) f kn e = name_stops roles back k h Token (Is Foreign ∷ ts) f kn e (rw f.between refl) tt
behind_name roles back k h (Is Equals ∷ ts) f kn e =
    first_role roles back k h ts (next_member roles k [] ts) f kn e
    (role_tells roles k Equals (Word h ∷ Word (codes "host") ∷ back) [] ts refl (λ p. ap (λ (x : List PlanLine). is_hosted p x) (lines_open roles back k h f kn)))

pub host_tells : (roles : List (List ℕ)) (back : List Symbol) (k : KnownView) (ts : List Symbol) → Fresh back → Knows roles back k → Tells roles back k (Word (codes "host") ∷ ts) (host_line roles k ts)
host_tells roles back k [] f kn = host_stops roles back Token [] f (f.word (codes "host")) tt
host_tells roles back k (Number n ∷ ts) f kn = host_stops roles back Token (Number n ∷ ts) f (rw (f.behind (codes "every"), f.behind (codes "crash"), f.between) refl) tt
host_tells roles back k (Is n ∷ ts) f kn = host_stops roles back Token (Is n ∷ ts) f (rw (f.behind (codes "host"), f.in_list) refl) tt
host_tells roles back k (Text n ∷ ts) f kn = host_stops roles back Token (Text n ∷ ts) f refl tt
host_tells roles back k (Word h ∷ ts) f kn = go (is_among h k.names) refl
  where
    go : (c : Bool) → is_among h k.names ≡ c
        → Tells roles back k (Word (codes "host") ∷ Word h ∷ ts) (goes_on (cond c (Stops Twice (Word h ∷ ts)) (Takes h ts)) (λ h us. goes_on (next_sign Equals us) (λ m vs. goes_on (host_roles roles k vs) (λ qs ws. Takes (with_host k h qs) ws))))
    go false e = behind_name roles back k h ts f kn e
    go true e =
        let before : is_among h (hosts_before back) ≡ true = subst (λ (x : List (List ℕ)). is_among h x ≡ true) kn.names e in
        host_stops roles back Twice (Word h ∷ ts) f (rw f.between refl, rw f.between refl, rw (f.word (codes "host"), f.between, f.behind (codes "host"), before) refl) (WrittenHost h [] [] [], Is Equals ∷ Word [] ∷ Is Comma ∷ Word [] ∷ [], refl)

-- ---- any item

empty_stops : (roles : List (List ℕ)) (back : List Symbol) (fault : Fault) (ts : List Symbol) → Speaks roles fault back ts → Allowed fault [] ts → StopsAt roles back ts fault ts
empty_stops roles back fault ts speaks allowed = stops roles back [] fault ts (WrittenLimit 1, item_text (WrittenLimit 1), refl) tt speaks allowed

-- a second line of a kind
second_speaks : (roles : List (List ℕ)) (back : List Symbol) (w : List ℕ) (ts : List Symbol) → Fresh back → is_first_word w ≡ true → is_second roles (lines_before roles back) w ts ≡ true → Speaks roles Twice back (Word w ∷ ts)
second_speaks roles back w ts f first e = (
  rw (f.behind (codes "every"), f.behind (codes "crash"), f.behind (codes "host"), f.in_list, f.between, first) refl,
  rw (f.behind (codes "every"), f.behind (codes "crash"), f.in_list) refl,
  rw (f.between, f.behind (codes "host"), f.in_list, e) refl,
)

unknown_word : (roles : List (List ℕ)) (back : List Symbol) (w : List ℕ) (ts : List Symbol) → Fresh back → is_first_word w ≡ false → Speaks roles Token back (Word w ∷ ts)
unknown_word roles back w ts f first = rw (f.behind (codes "every"), f.behind (codes "crash"), f.behind (codes "host"), f.in_list, f.between, first) refl

second_is_first : (e c l r h x y z : Bool) → (((e && x) || (l && y)) || (r && z)) ≡ true → ((((e || c) || l) || r) || h) ≡ true
second_is_first true c l r h x y z p = refl
second_is_first false true l r h x y z p = refl
second_is_first false false true r h x y z p = refl
second_is_first false false false true h x y z p = refl
second_is_first false false false false h x y z p = absurd cc

first_completes : (w : List ℕ) → is_first_word w ≡ true → Completes (Word w ∷ [])
first_completes w e = go (bytes_eq w (codes "every")) (bytes_eq w (codes "crash")) (bytes_eq w (codes "limit")) (bytes_eq w (codes "room")) (bytes_eq w (codes "host")) refl refl refl refl refl e
  where
    turn : (v : List ℕ) → bytes_eq w v ≡ true → Completes (Word v ∷ []) → Completes (Word w ∷ [])
    turn v t c = subst (λ (z : List ℕ). Completes (Word z ∷ [])) (sym (same_bytes w v t)) c

    go : (a b c d h : Bool) → bytes_eq w (codes "every") ≡ a → bytes_eq w (codes "crash") ≡ b → bytes_eq w (codes "limit") ≡ c → bytes_eq w (codes "room") ≡ d → bytes_eq w (codes "host") ≡ h → ((((a || b) || c) || d) || h) ≡ true → Completes (Word w ∷ [])
    go true b c d h p q r s t any = turn (codes "every") p (WrittenEvery [] 1, Word [] ∷ Number 1 ∷ [], refl)
    go false true c d h p q r s t any = turn (codes "crash") q (WrittenCrash [] 1, Word [] ∷ Number 1 ∷ [], refl)
    go false false true d h p q r s t any = turn (codes "limit") r (WrittenLimit 1, Number 1 ∷ [], refl)
    go false false false true h p q r s t any = turn (codes "room") s (WrittenRoom 1, Number 1 ∷ [], refl)
    go false false false false true p q r s t any = turn (codes "host") t (WrittenHost [] [] [] [], Word [] ∷ Is Equals ∷ Word [] ∷ Is Comma ∷ Word [] ∷ [], refl)
    go false false false false false p q r s t any = absurd cc

line_tells : (roles : List (List ℕ)) (back : List Symbol) (k : KnownView) (w : List ℕ) (ts : List Symbol) → Fresh back → Knows roles back k → is_first_word w ≡ true → is_second roles (lines_before roles back) w ts ≡ false
    → Tells roles back k (Word w ∷ ts) (line_by roles k w ts)
line_tells roles back k w ts f kn first e = go (bytes_eq w (codes "every")) (bytes_eq w (codes "crash")) (bytes_eq w (codes "limit")) (bytes_eq w (codes "room")) (bytes_eq w (codes "host")) refl refl refl refl refl first
  where
    turn : (v : List ℕ) (s : Step KnownView) → bytes_eq w v ≡ true → (is_second roles (lines_before roles back) v ts ≡ false → Tells roles back k (Word v ∷ ts) s) → Tells roles back k (Word w ∷ ts) s
    turn v s t tells =
        let same = same_bytes w v t in
        subst (λ (z : List ℕ). Tells roles back k (Word z ∷ ts) s) (sym same) (tells (subst (λ (z : List ℕ). is_second roles (lines_before roles back) z ts ≡ false) same e))

    go : (a b c d h : Bool) → bytes_eq w (codes "every") ≡ a → bytes_eq w (codes "crash") ≡ b → bytes_eq w (codes "limit") ≡ c → bytes_eq w (codes "room") ≡ d → bytes_eq w (codes "host") ≡ h → ((((a || b) || c) || d) || h) ≡ true
        → Tells roles back k (Word w ∷ ts) (cond a (every_line roles k ts) (cond b (crash_line roles k ts) (cond c (limit_line k ts) (cond d (room_line k ts) (host_line roles k ts)))))
    go true b c d h p q r s t any = turn (codes "every") (every_line roles k ts) p (every_tells roles back k f kn ts)
    go false true c d h p q r s t any = turn (codes "crash") (crash_line roles k ts) q (crash_tells roles back k f kn ts)
    go false false true d h p q r s t any = turn (codes "limit") (limit_line k ts) r (limit_tells roles back k f kn ts)
    go false false false true h p q r s t any = turn (codes "room") (room_line k ts) s (room_tells roles back k f kn ts)
    go false false false false true p q r s t any = turn (codes "host") (host_line roles k ts) t (λ n. host_tells roles back k ts f kn)
    go false false false false false p q r s t any = absurd cc

pub item_tells : (roles : List (List ℕ)) (back : List Symbol) (k : KnownView) (ts : List Symbol) → Fresh back → Knows roles back k → ((ts ≡ []) → ⊥) → ((m : Sign) (us : List Symbol) → ts ≡ Is m ∷ us → has back (Is m) ≡ false)
    → Tells roles back k ts (next_item roles k ts)
item_tells roles back k [] f kn some end = absurd (some refl)
item_tells roles back k (Number n ∷ ts) f kn some end = empty_stops roles back Token (Number n ∷ ts) (rw (f.role (codes "every"), f.role (codes "crash"), f.behind (codes "limit"), f.behind (codes "room")) refl) tt
item_tells roles back k (Text n ∷ ts) f kn some end = empty_stops roles back Token (Text n ∷ ts) refl tt
item_tells roles back k (Is n ∷ ts) f kn some end = empty_stops roles back Token (Is n ∷ ts) (end n ts refl) tt
item_tells roles back k (Word w ∷ ts) f kn some end = go (is_second roles k.lines w ts) (is_first_word w) refl refl
  where
    before : (b : Bool) → is_second roles k.lines w ts ≡ b → is_second roles (lines_before roles back) w ts ≡ b
    before b e = subst (λ (l : List PlanLine). is_second roles l w ts ≡ b) kn.lines e

    go : (a b : Bool) → is_second roles k.lines w ts ≡ a → is_first_word w ≡ b → Tells roles back k (Word w ∷ ts) (cond a (Stops Twice (Word w ∷ ts)) (cond b (line_by roles k w ts) (Stops Token (Word w ∷ ts))))
    go true true e first = empty_stops roles back Twice (Word w ∷ ts) (second_speaks roles back w ts f first (before true e)) (first_completes w first)
    go true false e first = absurd (let is = second_is_first (bytes_eq w (codes "every")) (bytes_eq w (codes "crash")) (bytes_eq w (codes "limit")) (bytes_eq w (codes "room")) (bytes_eq w (codes "host")) _ _ _ e in cc)
    go false true e first = line_tells roles back k w ts f kn first (before false e)
    go false false e first = empty_stops roles back Token (Word w ∷ ts) (unknown_word roles back w ts f first) tt
