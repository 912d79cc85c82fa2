-- What an option is given has passed the test of the option.
use Rattle.std.proofs.Common.{◌≡◌, ◌∙◌, ◌<◌, ◌||◌, ℕ, Bool, true, false, true≢false, zero, suc, List, [], ◌∷◌, map, length, Option, Some, None, refl, sym, ap, subst, inl, inr, arith, codes}
use Rattle.std.specs.Prelude.{pos, option_map, option_and_then, slice_get, unwrap_or}
use Rattle.std.specs.List.{All, slice_index_or}
use Rattle.std.specs.Str.{bytes_eq}
use Rattle.std.specs.Borrow.{Bor}
use Rattle.std.proofs.lemmas.List.Elements.{All-get_or}
use Rattle.std.proofs.lemmas.List.{length-map}
use Rattle.std.proofs.lemmas.Slice.Eq.{bytes_eq-Decides}
use Rattle.clap.specs.Facts.{HasReading, parser_of_value, EntryPasses, PassesArg, Entry, args_of, groups_of}
use Rattle.clap.specs.Built.{IsAuto, IsParsedFrom}
use Rattle.clap.specs.Matches.{found_of, matched_of, one_text}
use Rattle.clap.specs.Simple.{app_of}
use Rattle.clap.specs.Values.{Accepts, read_as, reading_of}
use Rattle.clap.specs.Walk.{Rule, Text, rule_of}
use Rattle.clap.specs.declared.builder.arg.Arg.{Arg}
use Rattle.clap.specs.declared.builder.command.Command.{Command}
use Rattle.clap.specs.declared.builder.value_parser.ValueParser.{ValueParser}
use Rattle.clap.specs.declared.builder.value_parser.ValueParser.TheVariants as vp
use Rattle.clap.specs.declared.builder.value_parser.Reading.{Reading}
use Rattle.clap.specs.declared.parser.matches.ArgMatches.{ArgMatches}
use Rattle.clap.specs.declared.parser.matches.Found.{Found}
use Rattle.clap.specs.declared.parser.matches.MatchedArg.{MatchedArg}
use Rattle.clap.proofs.CallerLemmas.{entry_by_id, same_rules_by_id}
use Rattle.clap.proofs.SimpleLemmas.{all_simple, plain_fields, simple_groups}
use Rattle.rcv_look.specs.Program.{rcv_show, IsNumberText, IsOfProgram}

-- The rule of an argument, by its place.
rule_at : (xs : List Arg) (rules : List Rule) (k : ℕ) (d : Arg) → map rule_of xs ≡ rules → k < length xs → rule_of (slice_index_or xs k d) ≡ slice_index_or rules k (rule_of d)
rule_at xs rules k d same inside = at xs k inside ∙ ap (λ rs. slice_index_or rs k (rule_of d)) same
  where
    at : (xs : List Arg) (k : ℕ) → k < length xs → rule_of (slice_index_or xs k d) ≡ slice_index_or (map rule_of xs) k (rule_of d)
    at [] k inside = absurd (omega arith)
    at (x ∷ xs) zero inside = refl
    at (x ∷ xs) (suc k) inside = at xs k (omega arith)

-- The entry whose first value a text is.
first_text : (found : Found) (name text : Text) → one_text found name ≡ Some text
    → (x : MatchedArg) × (matched_of found name ≡ Some x) × (option_map (λ s. read_as x.reading s.now) (slice_get x.vals.items 0) ≡ Some text)
first_text found name text is = go (matched_of found name) refl is
  where
    go : (o : Option MatchedArg) → matched_of found name ≡ o → option_and_then (λ (a : MatchedArg). option_map (λ s. read_as a.reading s.now) (slice_get a.vals.items 0)) o ≡ Some text
        → (x : MatchedArg) × (matched_of found name ≡ Some x) × (option_map (λ s. read_as x.reading s.now) (slice_get x.vals.items 0) ≡ Some text)
    go None e is = cc
    go (Some x) e is = (x, e, is)

-- The first of values that all pass.
first_passes : (P : Bor Text → Type 0) (how : Reading) (values : List (Bor Text)) (text : Text) → All P values
    → option_map (λ s. read_as how s.now) (slice_get values 0) ≡ Some text → (v : Bor Text) × (text ≡ read_as how v.now) × P v
first_passes P how [] text all is = cc
first_passes P how (v ∷ vs) text all is = (v, sym (ap (λ (o : Option Text). unwrap_or o []) is), All-get_or P (v ∷ vs) 0 v (omega arith) all)

abbrev all_rules : List Rule
all_rules = rcv_show.top.rules

-- The arguments of the program have the rules that it told.
told : (program : Command) → app_of program ≡ rcv_show → map rule_of (args_of program) ≡ all_rules
told program is = ap (λ a. a.top.rules) is

six : (program : Command) → app_of program ≡ rcv_show → length (args_of program) ≡ 6
six program is = sym (length-map (args_of program) rule_of) ∙ ap length (told program is)

rule_of_arg : (program : Command) → app_of program ≡ rcv_show → (k : ℕ) (d : Arg) → k < 6 → rule_of (slice_index_or (args_of program) k d) ≡ slice_index_or all_rules k (rule_of d)
rule_of_arg program is k d inside = rule_at (args_of program) all_rules k d (told program is) (omega (arith, six program is))

name_at : (program : Command) → app_of program ≡ rcv_show → (k : ℕ) (d : Arg) → k < 6 → (slice_index_or (args_of program) k d).id.now ≡ (slice_index_or all_rules k (rule_of d)).id
name_at program is k d inside = ap (λ (r : Rule). r.id) (rule_of_arg program is k d inside)

-- Each name is that of one place.
only_code : (j : ℕ) (a : Rule) → j < 6 → bytes_eq (slice_index_or all_rules j a).id (codes "code") ≡ true → j ≡ 2
only_code zero a inside same = absurd (true≢false (sym same))
only_code (suc zero) a inside same = absurd (true≢false (sym same))
only_code (suc (suc zero)) a inside same = refl
only_code (suc (suc (suc zero))) a inside same = absurd (true≢false (sym same))
only_code (suc (suc (suc (suc zero)))) a inside same = absurd (true≢false (sym same))
only_code (suc (suc (suc (suc (suc zero))))) a inside same = absurd (true≢false (sym same))
only_code (suc (suc (suc (suc (suc (suc j)))))) a inside same = absurd (omega arith)

only_session : (j : ℕ) (a : Rule) → j < 6 → bytes_eq (slice_index_or all_rules j a).id (codes "session") ≡ true → j ≡ 3
only_session zero a inside same = absurd (true≢false (sym same))
only_session (suc zero) a inside same = absurd (true≢false (sym same))
only_session (suc (suc zero)) a inside same = absurd (true≢false (sym same))
only_session (suc (suc (suc zero))) a inside same = refl
only_session (suc (suc (suc (suc zero)))) a inside same = absurd (true≢false (sym same))
only_session (suc (suc (suc (suc (suc zero))))) a inside same = absurd (true≢false (sym same))
only_session (suc (suc (suc (suc (suc (suc j)))))) a inside same = absurd (omega arith)

only_text : (j : ℕ) (a : Rule) → j < 6 → bytes_eq (slice_index_or all_rules j a).id (codes "text") ≡ true → j ≡ 4
only_text zero a inside same = absurd (true≢false (sym same))
only_text (suc zero) a inside same = absurd (true≢false (sym same))
only_text (suc (suc zero)) a inside same = absurd (true≢false (sym same))
only_text (suc (suc (suc zero))) a inside same = absurd (true≢false (sym same))
only_text (suc (suc (suc (suc zero)))) a inside same = refl
only_text (suc (suc (suc (suc (suc zero))))) a inside same = absurd (true≢false (sym same))
only_text (suc (suc (suc (suc (suc (suc j)))))) a inside same = absurd (omega arith)

only_json : (j : ℕ) (a : Rule) → j < 6 → bytes_eq (slice_index_or all_rules j a).id (codes "json") ≡ true → j ≡ 5
only_json zero a inside same = absurd (true≢false (sym same))
only_json (suc zero) a inside same = absurd (true≢false (sym same))
only_json (suc (suc zero)) a inside same = absurd (true≢false (sym same))
only_json (suc (suc (suc zero))) a inside same = absurd (true≢false (sym same))
only_json (suc (suc (suc (suc zero)))) a inside same = absurd (true≢false (sym same))
only_json (suc (suc (suc (suc (suc zero))))) a inside same = refl
only_json (suc (suc (suc (suc (suc (suc j)))))) a inside same = absurd (omega arith)

-- An entry of an argument, whose name isn't empty, where the program has no groups.
values_pass : (built : Command) (e : Entry) (name : Text) → groups_of built ≡ [] → (name ≡ [] → ⊥) → e.0.now ≡ name → EntryPasses built e → All (λ v. PassesArg built name v.now) e.1.vals.items
values_pass built e name no_groups named is pass = elim pass.0 [
  | inl group ↦ absurd (elim (pass.3 group) [
    | inl empty ↦ named (sym is ∙ empty)
    | inr some ↦
        let bad : 0 < 0 = rw no_groups at some in
        omega arith
  ])
  | inr values ↦ subst (λ (w : Text). All (λ v. PassesArg built w v.now) e.1.vals.items) is values
]

reads_of : (built : Command) (e : Entry) (name : Text) → groups_of built ≡ [] → (name ≡ [] → ⊥) → e.0.now ≡ name → EntryPasses built e → HasReading built name e.1.reading
reads_of built e name no_groups named is pass = elim pass.4 [
  | inl group ↦ absurd (elim (pass.3 group) [
    | inl empty ↦ named (sym is ∙ empty)
    | inr some ↦
        let bad : 0 < 0 = rw no_groups at some in
        omega arith
  ])
  | inr reads ↦ subst (λ (w : Text). HasReading built w e.1.reading) is reads
]

-- The program has no groups, built or not.
no_groups : (program : Command) (m : ArgMatches) (p : IsParsedFrom program m) → app_of program ≡ rcv_show → groups_of p.built ≡ []
no_groups program m p is =
    let plain = plain_fields program (ap (λ a. a.top.is_plain) is) in
    (p.from.same_groups (simple_groups program (ap (λ a. all_simple a.top.rules) is))).1 ∙ plain.groups

-- What an option is given, at its place, has passed its parser, and is read as that parser says.
passed : (program : Command) (m : ArgMatches) (p : IsParsedFrom program m) → app_of program ≡ rcv_show → (k : ℕ) (d : Arg) (name : Text) (q : ValueParser) → k < 6
    → (slice_index_or all_rules k (rule_of d)).id ≡ name → (slice_index_or all_rules k (rule_of d)).parser ≡ Some q → (slice_index_or all_rules k (rule_of d)).ignore_case ≡ false
    → ((j : ℕ) (a : Rule) → j < 6 → bytes_eq (slice_index_or all_rules j a).id name ≡ true → j ≡ k)
    → (name ≡ [] → ⊥) → (name ≡ codes "help" → ⊥) → (name ≡ codes "version" → ⊥)
    → (text : Text) → one_text (found_of m) name ≡ Some text → (v : Text) × (text ≡ read_as (reading_of q) v) × Accepts false q v
passed program m p is k d name q inside id_is parser_is case_is only named help version text given =
    let arg = slice_index_or (args_of program) k d in
    let arg_id : arg.id.now ≡ name = name_at program is k d inside ∙ id_is in
    let arg_parser : arg.value_parser ≡ Some q = ap (λ (r : Rule). r.parser) (rule_of_arg program is k d inside) ∙ parser_is in
    let arg_case : arg.ignore_case ≡ false = ap (λ (r : Rule). r.ignore_case) (rule_of_arg program is k d inside) ∙ case_is in
    let plain = plain_fields program (ap (λ a. a.top.is_plain) is) in
    let parsed = p.parsed (p.from.globals ∙ plain.globals) in
    let first = first_text (found_of m) name text given in
    let entry = entry_by_id (EntryPasses p.built) (found_of m).entries.items name first.0 parsed.values first.1 in
    let key : entry.0.0.now ≡ name = (bytes_eq-Decides entry.0.0.now name).0 entry.2 in
    let within : k < length (args_of program) = omega (arith, six program is) in
    let unique : (j : ℕ) (e : Arg) → j < length (args_of program) → bytes_eq (slice_index_or (args_of program) j e).id.now arg.id.now ≡ true → j ≡ k =
    λ j e low same. only j (rule_of e) (omega (arith, six program is)) (rw (← name_at program is j e (omega (arith, six program is)), ← arg_id) same) in
    let own : IsAuto arg → ⊥ = λ auto. elim auto [ inl h ↦ help (sym arg_id ∙ h) | inr h ↦ version (sym arg_id ∙ h) ] in
    let reads = reads_of p.built entry.0 name (no_groups program m p is) named key entry.3 in
    let how : first.0.reading ≡ reading_of q =
    let s = same_rules_by_id program m p k d within unique own reads.0 reads.1 reads.2 reads.3 (rw arg_id reads.4.0) in
    ap (λ (y : MatchedArg). y.reading) (sym entry.1) ∙ sym reads.4.1 ∙ ap (λ o. reading_of (parser_of_value o)) (s.parser q arg_parser) in
    let all : All (λ v. PassesArg p.built name v.now) first.0.vals.items =
    subst (λ (y : MatchedArg). All (λ v. PassesArg p.built name v.now) y.vals.items) entry.1 (values_pass p.built entry.0 name (no_groups program m p is) named key entry.3) in
    let one = first_passes (λ v. PassesArg p.built name v.now) first.0.reading first.0.vals.items text all first.2 in
    let pass = one.2 in
    let s = same_rules_by_id program m p k d within unique own pass.0 pass.1 pass.2 pass.3 (rw arg_id pass.4.0) in
    let accepts : Accepts pass.1.ignore_case q one.0.now = subst (λ o. Accepts pass.1.ignore_case (parser_of_value o) one.0.now) (s.parser q arg_parser) pass.4.1 in (
      one.0.now,
      one.1 ∙ ap (λ h. read_as h one.0.now) how,
      subst (λ (b : Bool). Accepts b q one.0.now) (s.ignore_case ∙ arg_case) accepts,
    )

-- Texts that differ in a byte.
pub apart : (a b : Text) → bytes_eq a b ≡ false → a ≡ b → ⊥
apart a b differ same = true≢false (sym ((bytes_eq-Decides b b).1 refl) ∙ ap (λ w. bytes_eq w b) (sym same) ∙ differ)

some_arg : (xs : List Arg) → 0 < length xs → Arg
some_arg [] some = absurd (omega arith)
some_arg (x ∷ xs) some = x

an_arg : (program : Command) → app_of program ≡ rcv_show → Arg
an_arg program is = some_arg (args_of program) (omega (arith, six program is))

-- What `--code`, `--session`, `--text` and `--json` are given.
pub code_pass : (m : ArgMatches) → IsOfProgram m → (text : Text) → one_text (found_of m) (codes "code") ≡ Some text → IsNumberText 0 255 text
code_pass m (program, is, p) = passed program m p is 2 (an_arg program is) (codes "code") (vp.Signed (pos 0) (pos 255)) (omega arith) refl refl refl only_code (apart _ _ refl) (apart _ _ refl) (apart _ _ refl)

pub session_pass : (m : ArgMatches) → IsOfProgram m → (text : Text) → one_text (found_of m) (codes "session") ≡ Some text → IsNumberText 1 64 text
session_pass m (program, is, p) = passed program m p is 3 (an_arg program is) (codes "session") (vp.Signed (pos 1) (pos 64)) (omega arith) refl refl refl only_session (apart _ _ refl) (apart _ _ refl) (apart _ _ refl)

pub text_pass : (m : ArgMatches) → IsOfProgram m → (text : Text) → one_text (found_of m) (codes "text") ≡ Some text → (bytes_eq text (codes "true") || bytes_eq text (codes "false")) ≡ true
text_pass m (program, is, p) text given =
    let pass = passed program m p is 4 (an_arg program is) (codes "text") vp.Bool (omega arith) refl refl refl only_text (apart _ _ refl) (apart _ _ refl) (apart _ _ refl) text given in
    subst (λ (w : Text). (bytes_eq w (codes "true") || bytes_eq w (codes "false")) ≡ true) (sym pass.1) pass.2

pub json_pass : (m : ArgMatches) → IsOfProgram m → (text : Text) → one_text (found_of m) (codes "json") ≡ Some text → (bytes_eq text (codes "true") || bytes_eq text (codes "false")) ≡ true
json_pass m (program, is, p) text given =
    let pass = passed program m p is 5 (an_arg program is) (codes "json") vp.Bool (omega arith) refl refl refl only_json (apart _ _ refl) (apart _ _ refl) (apart _ _ refl) text given in
    subst (λ (w : Text). (bytes_eq w (codes "true") || bytes_eq w (codes "false")) ≡ true) (sym pass.1) pass.2
