-- Heads that are added one after another, and the group that holds them.
use Rattle.std.proofs.Common.{◌≡◌, ℕ, zero, suc, ◌+◌, ◌<◌, List, [], ◌∷◌, ◌++◌, length, take, slice_index_or, codes, refl, sym, ◌∙◌, ap, subst, arith, append_assoc, append-nil}
use Rattle.std.specs.Borrow.{Bor}
use Rattle.rcv_model.specs.Plan.{PlanLine, host_in}
use Rattle.rcv_session.specs.Session.{SessionView, roles_of}
use Rattle.rcv_journal.specs.JournalText.{name_of}
use Rattle.rcv_picture.specs.declared.pixels.Pixels.{Pixels}
use Rattle.rcv_picture.specs.declared.pixels.At.{At}
use Rattle.rcv_picture.specs.declared.look.Look.TheVariants as looks
use Rattle.rcv_picture.specs.declared.shape.Anchor.TheVariants.{Middle}
use Rattle.rcv_picture.specs.declared.group.Group.{Group}
use Rattle.rcv_scene.specs.Seen.{Seen, Frame, Words, seen, at, further, back}
use Rattle.rcv_scene.specs.Grid.{Grid, column}
use Rattle.rcv_picture.specs.Names.{joined}
use Rattle.rcv_scene.specs.Feet.{AddsGroup}
use Rattle.rcv_scene.specs.Heads.{AreLines, NoLine, NextLine, AddsLines, IsHost, no_host, on_host, AddsHostName, AddsHost, AddsHead, AreHeads, Title, NextHead, HasHeads}
use Rattle.rcv_picture.proofs.Naming.{joined_more}

pub no_lines : (x top : Pixels) (old : List Seen) → AddsLines x top [] top old old
no_lines x top old = record { lines = []; is = sym (append-nil old); right = NoLine }

-- one more of these lines
one_taken : (all : List (Bor (List ℕ))) (n : ℕ) (d : Bor (List ℕ)) → n < length all → take (suc n) all ≡ take n all ++ slice_index_or all n d ∷ []
one_taken [] n d within = absurd (omega (arith, within))
one_taken (y ∷ all) zero d within = refl
one_taken (y ∷ all) (suc n) d within = ap (λ (l : List (Bor (List ℕ))). y ∷ l) (one_taken all n d (omega (arith, within)))

pub next_line : (x top y next : Pixels) (place : At) (all : List (Bor (List ℕ))) (n : ℕ) (d : Bor (List ℕ)) (old now new : List Seen)
    → n < length all → place ≡ at x y → next ≡ further y 15
    → AddsLines x top (joined (take n all)) y old now → new ≡ now ++ Words place Middle looks.Head (slice_index_or all n d).now ∷ []
    → AddsLines x top (joined (take (n + 1) all)) next old new
next_line x top y next place all n d old now new within there lower so_far one =
    let line : Bor (List ℕ) = slice_index_or all n d in
    let last : List Seen = Words (at x y) Middle looks.Head line.now ∷ [] in
    let after : n + 1 ≡ suc n = omega arith in
    record {
      lines = so_far.lines ++ last;
      is = one ∙ ap (λ (p : At). now ++ Words p Middle looks.Head line.now ∷ []) there
          ∙ ap (λ (d : List Seen). d ++ last) so_far.is ∙ append_assoc old so_far.lines last;
      right = NextLine y next (joined (take n all)) (joined (take (n + 1) all)) line.now so_far.lines (so_far.lines ++ last) so_far.right
          (joined_more (take n all) (take (n + 1) all) line (ap (λ (m : ℕ). take m all) after ∙ one_taken all n d within)) lower refl;
    }

-- the name of a role, in lines
pub name_is : (setup : SessionView) (role : ℕ) (x top under : Pixels) (lines : List (Bor (List ℕ))) (name : List ℕ) (old new : List Seen)
    → joined lines ≡ name → name ≡ name_of setup role → AddsLines x top (joined lines) under old new → AddsLines x top (name_of setup role) under old new
name_is setup role x top under lines name old new whole of adds =
    subst (λ (n : List ℕ). AddsLines x top n under old new) (whole ∙ of) adds

-- the name of a host, after `on`
pub host_named : (place : At) (host text : List ℕ) (old new : List Seen) → text ≡ codes "on " ++ host → new ≡ old ++ Words place Middle looks.Note text ∷ []
    → AddsHostName place old new
host_named place host text old new says is =
    record { host = host; is = is ∙ ap (λ (t : List ℕ). old ++ Words place Middle looks.Note t ∷ []) says }

pub host_there : (setup : SessionView) (role : ℕ) (x under high : Pixels) (place : At) (old new : List Seen) → high ≡ back under 3 → place ≡ at x high
    → AddsHostName place old new → AddsHost setup role x under old new
host_there setup role x under high place old new low there adds =
    record {
      host = Words (at x (back under 3)) Middle looks.Note (codes "on " ++ adds.host) ∷ [];
      is = adds.is ∙ ap (λ (p : At). old ++ Words p Middle looks.Note (codes "on " ++ adds.host) ∷ []) (there ∙ ap (at x) low);
      right = on_host adds.host refl;
    }

pub host_lacks : (setup : SessionView) (plan : List PlanLine) (role : ℕ) (x under : Pixels) (old : List Seen) → plan ≡ setup.plan → host_in plan role ≡ []
    → AddsHost setup role x under old old
host_lacks setup plan role x under old of none =
    record { host = []; is = sym (append-nil old); right = no_host (ap (λ (p : List PlanLine). host_in p role) (sym of) ∙ none) refl }

pub head_is : (setup : SessionView) (grid : Grid) (top : Pixels) (role : ℕ) (x under : Pixels) (corner : At) (width height round : Pixels)
    (old boxed named new : List Seen) → x ≡ column grid role → boxed ≡ old ++ Frame corner width height round looks.Box ∷ []
    → AddsLines x top (name_of setup role) under boxed named → AddsHost setup role x under named new → AddsHead setup grid top role old new
head_is setup grid top role x under corner width height round old boxed named new here box lines host =
    let frame : Seen = Frame corner width height round looks.Box in
    record {
      corner = corner;
      width = width;
      height = height;
      round = round;
      under = under;
      lines = lines.lines;
      host = host.host;
      named = subst (λ (p : Pixels). AreLines p top (name_of setup role) under lines.lines) here lines.right;
      hosted = subst (λ (p : Pixels). IsHost setup role p under host.host) here host.right;
      is = host.is ∙ ap (λ (d : List Seen). d ++ host.host) (lines.is ∙ ap (λ (d : List Seen). d ++ lines.lines) box ∙ append_assoc old (frame ∷ []) lines.lines)
          ∙ append_assoc old (frame ∷ lines.lines) host.host;
    }

pub title_first : (setup : SessionView) (grid : Grid) (top : Pixels) (title : Seen) (old drawn : List Seen) → old ≡ [] → drawn ≡ old ++ title ∷ [] → AreHeads setup grid top 0 drawn
title_first setup grid top title old drawn none is =
    subst (AreHeads setup grid top 0) (sym (is ∙ ap (λ (d : List Seen). d ++ title ∷ []) none)) (Title title)

pub next_head : (setup : SessionView) (grid : Grid) (top : Pixels) (role : ℕ) (now new : List Seen) → AreHeads setup grid top role now → AddsHead setup grid top role now new
    → AreHeads setup grid top (role + 1) new
next_head setup grid top role now new so_far one = NextHead role (role + 1) now new so_far one refl

pub heads_first : (setup : SessionView) (grid : Grid) (top : Pixels) (a b c : List Group) (heads bar : List Seen) → AreHeads setup grid top (roles_of setup) heads
    → AddsGroup a b heads → AddsGroup b c bar → HasHeads setup grid c
heads_first setup grid top a b c heads bar are first second =
    record {
      top = top;
      before = a;
      after = second.group ∷ [];
      group = first.group;
      is = second.is ∙ ap (λ (l : List Group). l ++ second.group ∷ []) first.is ∙ append_assoc a (first.group ∷ []) (second.group ∷ []);
      right = subst (AreHeads setup grid top (roles_of setup)) (sym first.shows) are;
    }

pub heads_stay : (setup : SessionView) (grid : Grid) (a b : List Group) (drawn : List Seen) → HasHeads setup grid a → AddsGroup a b drawn → HasHeads setup grid b
heads_stay setup grid a b drawn has one =
    record {
      top = has.top;
      before = has.before;
      after = has.after ++ one.group ∷ [];
      group = has.group;
      is = one.is ∙ ap (λ (l : List Group). l ++ one.group ∷ []) has.is ∙ append_assoc has.before (has.group ∷ has.after) (one.group ∷ []);
      right = has.right;
    }
