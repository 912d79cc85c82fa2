-- Each module that has the form, and short texts, is expanded or refused.
use Rattle.std.proofs.Common.{◌≡◌, ℕ, zero, suc, ◌+◌, ◌<◌, ◌≤◌, Option, Some, None, List, [], ◌∷◌, length, map, get_or, refl, sym, ap, subst, ◌∙◌, ◌⊎◌, inl, inr, ⊎_elim, length-append, arith}
use Rattle.std.specs.Prelude.{nat_lt}
use Rattle.std.specs.List.{AllByRecursion}
use Rattle.std.proofs.lemmas.Option.{slice_get_within, slice_get-get_or}
use Rattle.rcv_tree.specs.Lists.{protocols}
use Rattle.rcv_tree.specs.declared.module.Module.{Module}
use Rattle.rcv_tree.specs.declared.protocol.Protocol.{Protocol}
use Rattle.rcv_tree.specs.declared.refusal.Refusal.{Refusal}
use Rattle.rcv_tree.specs.declared.refusal.Refusal.TheVariants as refusals
use Rattle.rcv_model.specs.Text.{Body, End, Bodies}
use Rattle.rcv_module.specs.declared.fault.Fault.{Fault}
use Rattle.rcv_module.specs.declared.fault.Fault.TheVariants.{Deep, TooMany}
use Rattle.rcv_module.specs.Parts.{Part, part_of, parts_of, calls, calls_of, sites, sites_from}
use Rattle.rcv_module.specs.Sizes as sizes
use Rattle.rcv_module.specs.Sizes.{Size, Passes, AllPass, heading, blamed, AreMarks, first_deep, first_many}
use Rattle.rcv_module.specs.Refusing.{code_of, itself, AreCallable, IsSmall, IsRefusedAt}
use Rattle.rcv_module.specs.Expansion.{themselves}
use Rattle.rcv_module.specs.Form.{HasModuleForm}
use Rattle.rcv_module.specs.Short.{AreShort, IsShort}
use Rattle.rcv_module.specs.Answers.{IsExpanded, IsRefused}
use Rattle.rcv_module.specs.Laws.{ModulesHaveAnswers}
use Rattle.rcv_module.proofs.Sites.{of_module}
use Rattle.rcv_module.proofs.Entered.{enters_full}
use Rattle.rcv_module.proofs.Points.{few_points}
use Rattle.rcv_module.proofs.Reaching.{first_within}
use Rattle.rcv_module.proofs.Deciding.{calls_decided}
use Rattle.rcv_module.proofs.Measured.{has_size}
use Rattle.rcv_module.proofs.Unfolding.{unfolds}
use Rattle.rcv_module.proofs.Knowing.{calls_known}
use Rattle.rcv_module.proofs.Building.{built}
use Rattle.rcv_module.proofs.Roomy.{AllShort, own_room, room_inside}

-- ---- a mark for each call of the first protocol

mutual
  pub as_many : {parts : List Part} {d : ℕ} {s t : Size} {b : Body} {ends : List Size} (h : ℕ) → Passes parts d s b ends t → length ends ≡ length (calls h b)
  as_many h sizes.at_end = refl
  as_many h (sizes.message p) = as_many h p
  as_many h (sizes.choice {inner = inner} {ends = ends} {bs = bs} {rest = rest} a p) =
      length-append inner ends ∙ ap (λ n. n + length ends) (all_as_many h a) ∙ ap (λ n. length (calls_of h bs) + n) (as_many h p) ∙ sym (length-append (calls_of h bs) (calls h rest))
  as_many h (sizes.loop {inner = inner} {ends = ends} {body = body} {rest = rest} a p) =
      length-append inner ends ∙ ap (λ n. n + length ends) (as_many h a) ∙ ap (λ n. length (calls h body) + n) (as_many h p) ∙ sym (length-append (calls h body) (calls h rest))
  as_many h (sizes.again p) = as_many h p
  as_many h (sizes.beside {inner = inner} {ends = ends} {bs = bs} {rest = rest} a p) =
      length-append inner ends ∙ ap (λ n. n + length ends) (all_as_many h a) ∙ ap (λ n. length (calls_of h bs) + n) (as_many h p) ∙ sym (length-append (calls_of h bs) (calls h rest))
  as_many h (sizes.call p i a r) = ap suc (as_many h r)

  all_as_many : {parts : List Part} {d : ℕ} {s t : Size} {bs : Bodies} {ends : List Size} (h : ℕ) → AllPass parts d s bs ends t → length ends ≡ length (calls_of h bs)
  all_as_many h sizes.no_more = refl
  all_as_many h (sizes.one_more {inner = inner} {ends = ends} {b = b} {bs = bs} a p) =
      length-append inner ends ∙ ap (λ n. n + length ends) (as_many h a) ∙ ap (λ n. length (calls h b) + n) (all_as_many h p) ∙ sym (length-append (calls h b) (calls_of h bs))

blamed_long : (ends : List Size) (whole : Size) → length (blamed ends whole) ≡ length ends
blamed_long [] whole = refl
blamed_long (s ∷ []) whole = refl
blamed_long (s ∷ r ∷ ends) whole = ap suc (blamed_long (r ∷ ends) whole)

-- ---- a refusal has a line

short_at : (ps : List Part) → AllByRecursion IsShort ps → AllShort ps
short_at [] all i p e = absurd (cc)
short_at (q ∷ ps) all zero p e = let same : q ≡ p = cc in subst IsShort same all.0
short_at (q ∷ ps) all (suc i) p e = short_at ps all.1 i p e

module _ (m : Module) (form : HasModuleForm m) (short : AreShort m) where
  abbrev parts : List Part
  parts = parts_of m

  abbrev main : Part
  main = part_of m.main

  abbrev HasAnswer : Type 0
  HasAnswer = ((p : Protocol) × IsExpanded m p) ⊎ ((r : Refusal) × IsRefused m r)

  refused : (f : Fault) (n : ℕ) → n < length (sites parts) → IsRefusedAt parts f n → HasAnswer
  refused f n lt r =
      let lines = form.lines in
      let line = get_or m.dos n 0 in
      inr (refusals.Text (code_of f) line, record { fault = f; number = n; line = line; refused = r; at_line = slice_get-get_or m.dos n 0 (omega (arith, lines, lt)); said = refl })

  expanded : AreCallable parts → IsSmall parts → HasAnswer
  expanded callable small =
      let u = unfolds parts 0 themselves main.body (calls_known parts callable 0 main refl) in
      let x = u.1 1 End tt in
      let e = x.expands in
      let full = enters_full 0 form.formed callable (itself 0) (λ s a. of_module parts 0 main s refl a) e in
      let few = few_points parts main x.whole refl form.formed.0.form.few_points small e in
      let all = short_at parts short in
      let block = built x.whole (own_room e full (all 0 main refl) few) (room_inside all e full (all 0 main refl) few tt) in
      let p : Protocol = record { «module» = m.main.«module»; decls = m.main.decls; name = m.main.name; roles = m.main.roles; body = block.0 } in
      inl (
        p,
        record {
          free = (callable, small);
          modules = refl;
          declared = refl;
          named = refl;
          role_names = refl;
          body = record {
            main = main;
            first = refl;
            expands = rw block.1 e;
            numbered = rw block.1 x.numbered;
          };
        },
      )

  -- by the sizes at the calls of the first protocol
  module _ (callable : AreCallable parts) (marks : List Size) (are : AreMarks parts marks) (few : length marks ≤ length (sites parts)) where
    by_points : first_deep marks ≡ None → (o : Option ℕ) → first_many marks ≡ o → HasAnswer
    by_points flat None small = expanded callable (marks, are, flat, small)
    by_points flat (Some n) large =
        let lt = first_within (λ (s : Size). nat_lt 256 s.points) n marks large in
        refused TooMany n (omega (arith, lt, few)) (inr (callable, (marks, are, flat, large)))

    by_size : (o : Option ℕ) → first_deep marks ≡ o → HasAnswer
    by_size None flat = by_points flat (first_many marks) refl
    by_size (Some n) deep =
        let lt = first_within (λ (s : Size). nat_lt 32 s.blocks) n marks deep in
        refused Deep n (omega (arith, lt, few)) (inr (callable, (marks, are, deep)))

  measured : AreCallable parts → HasAnswer
  measured callable =
      let x = has_size parts 0 1 heading main.body (calls_known parts callable 0 main refl) in
      let marks = blamed x.0 x.1 in
      let are : AreMarks parts marks = record { main = main; first = refl; ends = x.0; whole = x.1; passes = x.2; blames = refl } in
      let long = blamed_long x.0 x.1 in
      let same = as_many 0 x.2 in
      let all = length-append (calls 0 main.body) (sites_from 1 (map part_of (protocols m.others))) in
      by_size callable marks are (omega (arith, long, same, all)) (first_deep marks) refl

  answered : HasAnswer
  answered = ⊎_elim (λ c. refused c.0 c.1 (slice_get_within (sites parts) c.1 c.2.here c.2.is) (inl c.2)) measured (calls_decided parts)

pub modules_have_answers : ModulesHaveAnswers
modules_have_answers = answered
