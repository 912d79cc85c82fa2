-- Which text bytes open with.
use Rattle.std.proofs.Common.{◌≡◌, ◌∙◌, ◌+◌, ◌<◌, ◌≤◌, ◌==◌, ◌&&◌, ℕ, Bool, true, false, true≢false, cond, List, [], ◌∷◌, ◌++◌, flat_map, length, take, drop, take_at, length-take-le, Option, Result, Err, inl, inr, refl, sym, ap, subst, arith, append_assoc, append-nil, length-append, codes}
use Rattle.std.specs.Prelude.{if◌then◌else◌}
use Rattle.std.specs.List.{All, list_all}
use Rattle.std.specs.Prelude.{Vec}
use Rattle.std.specs.declared.alloc.Global.{Global}
use Rattle.std.proofs.lemmas.List.{drop_at}
use Rattle.std.proofs.lemmas.List.Concat.{flat_map-append}
use Rattle.std.proofs.lemmas.List.Elements.{All-append, All-cons, All-head, All-tail}
use Rattle.rcv_io.specs.Source.{Took}
use Rattle.rcv_pipe.specs.declared.opening.OpeningError.{OpeningError}
use Rattle.rcv_pipe.specs.declared.opening.OpeningError.TheVariants.{NoEvents, ReadFault, TooLong, Memory}
use Rattle.rcv_pipe.specs.Feeds.{HasNoFeed, IsFeed, ended}
use Rattle.rcv_pipe.specs.Pipe.{PipeView}
use Rattle.rcv_pipe.specs.Opening.{IsEvents, IsEventsLine, IsOpening, IsOther, IsTooLong, Opens, OpensNone, Takes, most}
use Rattle.rcv_pipe.proofs.Feeds.{both_lack, ended_has, line_longer, one_line}

-- By a test.
no_feed : (bytes : List ℕ) → list_all (λ b. if b == 10 then false else true) bytes ≡ true → HasNoFeed bytes
no_feed [] all = tt
no_feed (b ∷ bytes) all = go (b == 10) refl all (no_feed bytes)
  where
    go : (t : Bool) → (b == 10) ≡ t → (cond t false true && list_all (λ b. if b == 10 then false else true) bytes) ≡ true
        → (list_all (λ b. if b == 10 then false else true) bytes ≡ true → HasNoFeed bytes) → HasNoFeed (b ∷ bytes)
    go true is all later = absurd (true≢false (sym all))
    go false is all later = ((λ same. true≢false (sym (ap (λ x. x == 10) same) ∙ is)), later all)

pub no_feed_in_events : (line : List ℕ) → IsEvents line → HasNoFeed line
no_feed_in_events line (inl is) = subst HasNoFeed (sym is) (no_feed (codes "%% events") refl)
no_feed_in_events line (inr is) = subst HasNoFeed (sym is) (no_feed (codes "%% events" ++ 13 ∷ []) refl)

pub events_short : (line : List ℕ) → IsEvents line → length line ≤ 10
events_short line (inl is) = subst (λ l. length l ≤ 10) (sym is) (omega arith)
events_short line (inr is) = subst (λ l. length l ≤ 10) (sym is) (omega arith)

-- The text's first line, and what stands behind it.
first_of : (bytes text events behind l : List ℕ) (ls : List (List ℕ)) → bytes ≡ text ++ (ended events ++ behind) → text ≡ flat_map ended (l ∷ ls)
    → bytes ≡ ended l ++ (flat_map ended ls ++ (ended events ++ behind))
first_of bytes text events behind l ls whole is =
    let regroup : (ended l ++ flat_map ended ls) ++ (ended events ++ behind) ≡ ended l ++ (flat_map ended ls ++ (ended events ++ behind)) =
    append_assoc (ended l) (flat_map ended ls) (ended events ++ behind) in
    whole ∙ ap (λ (t : List ℕ). t ++ (ended events ++ behind)) is ∙ regroup

none_of : (bytes text events behind : List ℕ) → bytes ≡ text ++ (ended events ++ behind) → text ≡ [] → bytes ≡ ended events ++ behind
none_of bytes text events behind whole none = whole ∙ ap (λ (t : List ℕ). t ++ (ended events ++ behind)) none

-- Behind other lines the same text goes on.
pub strip : (lines : List (List ℕ)) → All IsOther lines → (bytes text behind : List ℕ) → Opens (flat_map ended lines ++ bytes) text behind
    → (rest : List ℕ) × (text ≡ flat_map ended lines ++ rest) × Opens bytes rest behind
strip [] others bytes text behind opens = (text, refl, opens)
strip (m ∷ lines) others bytes text behind opens =
    go (strip lines (All-tail IsOther m lines others) bytes) opens.lines opens.others opens.text_is (sym (append_assoc (ended m) (flat_map ended lines) bytes) ∙ opens.whole)
  where
    go : ((inner behind : List ℕ) → Opens (flat_map ended lines ++ bytes) inner behind → (rest : List ℕ) × (inner ≡ flat_map ended lines ++ rest) × Opens bytes rest behind)
        → (ls : List (List ℕ)) → All IsOther ls → text ≡ flat_map ended ls → ended m ++ (flat_map ended lines ++ bytes) ≡ text ++ (ended opens.events ++ behind)
        → (rest : List ℕ) × (text ≡ flat_map ended (m ∷ lines) ++ rest) × Opens bytes rest behind
    go again [] all none whole =
        let first = one_line m opens.events (flat_map ended lines ++ bytes) behind (All-head IsOther m lines others).one (no_feed_in_events opens.events opens.is)
        (none_of _ text opens.events behind whole none) in
        absurd ((All-head IsOther m lines others).other (subst IsEvents (sym first.0) opens.is))
    go again (l ∷ ls) all is whole =
        let more = flat_map ended ls ++ (ended opens.events ++ behind) in
        let first = one_line m l (flat_map ended lines ++ bytes) more (All-head IsOther m lines others).one (All-head IsOther l ls all).one
        (first_of _ text opens.events behind l ls whole is) in
        let inner : Opens (flat_map ended lines ++ bytes) (flat_map ended ls) behind =
        record { lines = ls; others = All-tail IsOther l ls all; text_is = refl; events = opens.events; is = opens.is; whole = first.1 } in
        let later = again (flat_map ended ls) behind inner in (
          later.0,
          is ∙ ap (λ x. ended x ++ flat_map ended ls) (sym first.0) ∙ ap (λ t. ended m ++ t) later.1 ∙ sym (append_assoc (ended m) (flat_map ended lines) later.0),
          later.2,
        )

-- A text ends with a feed.
none_without_feed : (front text behind : List ℕ) → HasNoFeed front → Opens front text behind → ⊥
none_without_feed front text behind lack opens = go opens.lines opens.text_is
  where
    go : (ls : List (List ℕ)) → text ≡ flat_map ended ls → ⊥
    go [] none = ended_has opens.events behind (subst HasNoFeed (none_of front text opens.events behind opens.whole none) lack)
    go (l ∷ ls) is =
        ended_has l (flat_map ended ls ++ (ended opens.events ++ behind))
        (subst HasNoFeed (first_of front text opens.events behind l ls opens.whole is) lack)

pub opens_none : (lines : List (List ℕ)) (front : List ℕ) → All IsOther lines → HasNoFeed front → OpensNone (flat_map ended lines ++ front)
opens_none lines front others lack text behind opens =
    let s = strip lines others front text behind opens in
    none_without_feed front s.0 behind lack s.2

-- Other lines of too many bytes; and a line that is too long for the last one.
pub lines_too_long : (lines : List (List ℕ)) (rest : List ℕ) → All IsOther lines → most < length (flat_map ended lines) → IsTooLong (flat_map ended lines ++ rest)
lines_too_long lines rest others long more text behind opens =
    let s = strip lines others (rest ++ more) text behind (subst (λ bytes. Opens bytes text behind) (append_assoc (flat_map ended lines) rest more) opens) in
    let both = length-append (flat_map ended lines) s.0 in
    subst (λ t. most < length t) (sym s.1) (omega (arith, long, both))

front_longer : (front more text behind : List ℕ) → HasNoFeed front → 11 ≤ length front → Opens (front ++ more) text behind → length front < length text
front_longer front more text behind lack long opens = go opens.lines opens.text_is
  where
    go : (ls : List (List ℕ)) → text ≡ flat_map ended ls → length front < length text
    go [] none =
        let within = line_longer front opens.events more behind lack (none_of (front ++ more) text opens.events behind opens.whole none) in
        let short = events_short opens.events opens.is in
        absurd (omega (arith, long, within, short))
    go (l ∷ ls) is =
        let within = line_longer front l more (flat_map ended ls ++ (ended opens.events ++ behind)) lack
        (first_of (front ++ more) text opens.events behind l ls opens.whole is) in
        let one = length-append l (10 ∷ []) in
        let all = length-append (ended l) (flat_map ended ls) in
        subst (λ t. length front < length t) (sym is) (omega (arith, within, one, all))

pub line_too_long : (lines : List (List ℕ)) (front rest : List ℕ) → All IsOther lines → HasNoFeed front → length (flat_map ended lines) ≤ most
    → most + 11 ≤ length (flat_map ended lines) + length front → IsTooLong (flat_map ended lines ++ (front ++ rest))
line_too_long lines front rest others lack few long more text behind opens =
    let regroup : (flat_map ended lines ++ (front ++ rest)) ++ more ≡ flat_map ended lines ++ (front ++ (rest ++ more)) =
    append_assoc (flat_map ended lines) (front ++ rest) more ∙ ap (λ t. flat_map ended lines ++ t) (append_assoc front rest more) in
    let s = strip lines others (front ++ (rest ++ more)) text behind (subst (λ bytes. Opens bytes text behind) regroup opens) in
    let longer = front_longer front (rest ++ more) s.0 behind lack (omega (arith, few, long)) s.2 in
    let both = length-append (flat_map ended lines) s.0 in
    subst (λ t. most < length t) (sym s.1) (omega (arith, long, longer, both))

-- ---- what was read so far

-- The text is other lines, and the front of one behind them, which begins there.
pub record IsSoFar (text : List ℕ) (line : ℕ) : Type 0 where
  pub lines : List (List ℕ)
  pub others : All IsOther lines
  pub front : List ℕ
  pub lack : HasNoFeed front
  pub text_is : text ≡ flat_map ended lines ++ front
  pub line_is : line ≡ length (flat_map ended lines)
  pub few : line ≤ most

pub so_far_none : IsSoFar [] 0
so_far_none = record { lines = []; others = λ k d inside. absurd (omega (arith, inside)); front = []; lack = tt; text_is = refl; line_is = refl; few = omega arith }

-- The last line begins there.
pub last_line : (text : List ℕ) (line : ℕ) (s : IsSoFar text line) → drop line text ≡ s.front
last_line text line s = ap (drop line) s.text_is ∙ drop_at (flat_map ended s.lines) s.front line (sym s.line_is)

-- More of it.
pub so_far_more : (text more : List ℕ) (line : ℕ) → IsSoFar text line → HasNoFeed more → IsSoFar (text ++ more) line
so_far_more text more line s lack = record {
  lines = s.lines;
  others = s.others;
  front = s.front ++ more;
  lack = both_lack s.front more s.lack lack;
  text_is = ap (λ t. t ++ more) s.text_is ∙ append_assoc (flat_map ended s.lines) s.front more;
  line_is = s.line_is;
  few = s.few;
}

-- Its end, where it is another one.
pub so_far_ended : (text more : List ℕ) (line : ℕ) (s : IsSoFar text line) → HasNoFeed more → (IsEvents (s.front ++ more) → ⊥) → length (text ++ ended more) ≤ most
    → IsSoFar (text ++ ended more) (length (text ++ ended more))
so_far_ended text more line s lack other few =
    let whole : text ++ ended more ≡ flat_map ended (s.lines ++ (s.front ++ more) ∷ []) = ended_whole text more line s in
    record {
      lines = s.lines ++ (s.front ++ more) ∷ [];
      others = All-append IsOther s.lines ((s.front ++ more) ∷ []) s.others
          (All-cons IsOther (s.front ++ more) [] (record { one = both_lack s.front more s.lack lack; other = other }) (λ k d inside. absurd (omega (arith, inside))));
      front = [];
      lack = tt;
      text_is = whole ∙ sym (append-nil (flat_map ended (s.lines ++ (s.front ++ more) ∷ [])));
      line_is = ap length whole;
      few = few;
    }
  where
    ended_whole : (text more : List ℕ) (line : ℕ) (s : IsSoFar text line) → text ++ ended more ≡ flat_map ended (s.lines ++ (s.front ++ more) ∷ [])
    ended_whole text more line s =
        ap (λ t. t ++ ended more) s.text_is
        ∙ append_assoc (flat_map ended s.lines) s.front (ended more)
        ∙ ap (λ t. flat_map ended s.lines ++ t) (sym (append_assoc s.front more (10 ∷ [])) ∙ sym (append-nil (ended (s.front ++ more))))
        ∙ sym (flat_map-append ended s.lines ((s.front ++ more) ∷ []))

-- Its end, where it is the one that ends the text.
pub opens_so : (text more behind : List ℕ) (line : ℕ) (s : IsSoFar text line) → IsEvents (s.front ++ more) → Opens (text ++ (ended more ++ behind)) (take line (text ++ ended more)) behind
opens_so text more behind line s is =
    let regroup : text ++ (ended more ++ behind) ≡ flat_map ended s.lines ++ (ended (s.front ++ more) ++ behind) =
    ap (λ t. t ++ (ended more ++ behind)) s.text_is
    ∙ append_assoc (flat_map ended s.lines) s.front (ended more ++ behind)
    ∙ ap (λ t. flat_map ended s.lines ++ t) (sym (append_assoc s.front (ended more) behind) ∙ ap (λ t. t ++ behind) (sym (append_assoc s.front more (10 ∷ [])))) in
    let cut : take line (text ++ ended more) ≡ flat_map ended s.lines =
    ap (λ t. take line (t ++ ended more)) s.text_is
    ∙ ap (take line) (append_assoc (flat_map ended s.lines) s.front (ended more))
    ∙ take_at (flat_map ended s.lines) (s.front ++ ended more) line (sym s.line_is) in
    record {
      lines = s.lines;
      others = s.others;
      text_is = cut;
      events = s.front ++ more;
      is = is;
      whole = regroup ∙ ap (λ t. t ++ (ended (s.front ++ more) ++ behind)) (sym cut);
    }

pub none_so_far : (text : List ℕ) (line : ℕ) → IsSoFar text line → OpensNone text
none_so_far text line s = subst OpensNone (sym s.text_is) (opens_none s.lines s.front s.others s.lack)

-- ---- one step

-- A line's bytes with its feed.
pub with_feed : (held : List ℕ) (feed : ℕ) → IsFeed held feed → take (feed + 1) held ≡ ended (take feed held)
with_feed held feed f =
    let short = length-take-le feed held (le_of feed held f.inside) in
    let long : length (ended (take feed held)) ≡ feed + 1 = length-append (take feed held) (10 ∷ []) ∙ ap (λ n. n + 1) short in
    ap (take (feed + 1)) f.whole ∙ take_at (ended (take feed held)) (drop (feed + 1) held) (feed + 1) long
  where
    le_of : (feed : ℕ) (held : List ℕ) → feed < length held → feed ≤ length held
    le_of feed held inside = omega (arith, inside)

pub regrouped : (text held : List ℕ) (feed : ℕ) → IsFeed held feed → text ++ held ≡ (text ++ take (feed + 1) held) ++ drop (feed + 1) held
regrouped text held feed f =
    ap (λ h. text ++ h) f.whole ∙ sym (append_assoc text (ended (take feed held)) (drop (feed + 1) held))
    ∙ ap (λ t. (text ++ t) ++ drop (feed + 1) held) (sym (with_feed held feed f))

-- Where there is no room for a piece.
pub piece_too_long : (text held : List ℕ) (feed line : ℕ) → IsSoFar text line → IsFeed held feed → 1048587 < length text + length (take (feed + 1) held) → IsTooLong (text ++ held)
piece_too_long text held feed line s f long =
    let flat = flat_map ended s.lines in
    let more = take feed held in
    let rest = 10 ∷ drop (feed + 1) held in
    let whole : text ++ held ≡ flat ++ ((s.front ++ more) ++ rest) =
    ap (λ t. t ++ held) s.text_is ∙ append_assoc flat s.front held
    ∙ ap (λ t. flat ++ t) (ap (λ h. s.front ++ h) (f.whole ∙ append_assoc more (10 ∷ []) (drop (feed + 1) held)) ∙ sym (append_assoc s.front more rest)) in
    let one = ap length s.text_is in
    let two = length-append flat s.front in
    let three = length-append s.front more in
    let four = ap length (with_feed held feed f) in
    let five = length-append more (10 ∷ []) in
    let begin = s.line_is in
    let few = s.few in
    subst IsTooLong (sym whole)
    (line_too_long s.lines (s.front ++ more) rest s.others (both_lack s.front more s.lack f.line) (omega (arith, begin, few)) (omega (arith, one, two, three, four, five, long)))

pub front_too_long : (text held : List ℕ) (line : ℕ) → IsSoFar text line → HasNoFeed held → 1048587 < length text + length held → IsTooLong (text ++ held)
front_too_long text held line s lack long =
    let flat = flat_map ended s.lines in
    let whole : text ++ held ≡ flat ++ ((s.front ++ held) ++ []) =
    ap (λ t. t ++ held) s.text_is ∙ append_assoc flat s.front held ∙ ap (λ t. flat ++ t) (sym (append-nil (s.front ++ held))) in
    let one = ap length s.text_is in
    let two = length-append flat s.front in
    let three = length-append s.front held in
    let begin = s.line_is in
    let few = s.few in
    subst IsTooLong (sym whole) (line_too_long s.lines (s.front ++ held) [] s.others (both_lack s.front held s.lack lack) (omega (arith, begin, few)) (omega (arith, one, two, three, long)))

-- What was asked of a line.
pub is_last : (text held : List ℕ) (feed line : ℕ) (s : IsSoFar text line) → IsFeed held feed → drop line (text ++ take (feed + 1) held) ≡ ended (s.front ++ take feed held)
is_last text held feed line s f =
    ap (λ t. drop line (text ++ t)) (with_feed held feed f)
    ∙ ap (λ t. drop line (t ++ ended (take feed held))) s.text_is
    ∙ ap (drop line) (append_assoc (flat_map ended s.lines) s.front (ended (take feed held)))
    ∙ drop_at (flat_map ended s.lines) (s.front ++ ended (take feed held)) line (sym s.line_is)
    ∙ sym (append_assoc s.front (take feed held) (10 ∷ []))

same_events : (bytes line : List ℕ) → HasNoFeed line → bytes ≡ ended line → IsEventsLine bytes → IsEvents line
same_events bytes line lack is e =
    subst IsEvents (one_line e.line line [] [] (no_feed_in_events e.line e.is) lack (append-nil (ended e.line) ∙ sym e.bytes_are ∙ is ∙ sym (append-nil (ended line)))).0 e.is

pub is_events_so : (text held bytes : List ℕ) (feed line : ℕ) (s : IsSoFar text line) → IsFeed held feed → bytes ≡ drop line (text ++ take (feed + 1) held) → IsEventsLine bytes
    → IsEvents (s.front ++ take feed held)
is_events_so text held bytes feed line s f are e =
    same_events bytes (s.front ++ take feed held) (both_lack s.front (take feed held) s.lack f.line) (are ∙ is_last text held feed line s f) e

pub is_other_so : (text held bytes : List ℕ) (feed line : ℕ) (s : IsSoFar text line) → IsFeed held feed → bytes ≡ drop line (text ++ take (feed + 1) held) → (IsEventsLine bytes → ⊥)
    → IsEvents (s.front ++ take feed held) → ⊥
is_other_so text held bytes feed line s f are other is =
    other (record { line = s.front ++ take feed held; is = is; bytes_are = are ∙ is_last text held feed line s f })

-- The text ends.
pub opened : (text held : List ℕ) (feed line : ℕ) (s : IsSoFar text line) → IsFeed held feed → IsEvents (s.front ++ take feed held)
    → Opens (text ++ held) (take line (text ++ take (feed + 1) held)) (drop (feed + 1) held)
opened text held feed line s f is =
    let o = opens_so text (take feed held) (drop (feed + 1) held) line s is in
    subst (λ t. Opens t (take line (text ++ take (feed + 1) held)) (drop (feed + 1) held)) (ap (λ h. text ++ h) (sym f.whole))
    (subst (λ t. Opens (text ++ (ended (take feed held) ++ drop (feed + 1) held)) (take line (text ++ t)) (drop (feed + 1) held)) (sym (with_feed held feed f)) o)

-- It goes on.
pub goes_on : (text held : List ℕ) (feed line : ℕ) (s : IsSoFar text line) → IsFeed held feed → (IsEvents (s.front ++ take feed held) → ⊥)
    → length (text ++ take (feed + 1) held) ≤ most → IsSoFar (text ++ take (feed + 1) held) (length (text ++ take (feed + 1) held))
goes_on text held feed line s f other few =
    subst (λ t. IsSoFar (text ++ t) (length (text ++ t))) (sym (with_feed held feed f))
    (so_far_ended text (take feed held) line s f.line other (subst (λ t. length (text ++ t) ≤ most) (with_feed held feed f) few))

-- It is too long.
pub too_long_so : (text held : List ℕ) (feed line : ℕ) (s : IsSoFar text line) → IsFeed held feed → (IsEvents (s.front ++ take feed held) → ⊥)
    → most < length (text ++ take (feed + 1) held) → IsTooLong (text ++ held)
too_long_so text held feed line s f other long =
    let lines = s.lines ++ (s.front ++ take feed held) ∷ [] in
    let whole : text ++ ended (take feed held) ≡ flat_map ended lines =
    ap (λ t. t ++ ended (take feed held)) s.text_is
    ∙ append_assoc (flat_map ended s.lines) s.front (ended (take feed held))
    ∙ ap (λ t. flat_map ended s.lines ++ t) (sym (append_assoc s.front (take feed held) (10 ∷ [])) ∙ sym (append-nil (ended (s.front ++ take feed held))))
    ∙ sym (flat_map-append ended s.lines ((s.front ++ take feed held) ∷ [])) in
    let others = All-append IsOther s.lines ((s.front ++ take feed held) ∷ []) s.others
    (All-cons IsOther (s.front ++ take feed held) [] (record { one = both_lack s.front (take feed held) s.lack f.line; other = other }) (λ k d inside. absurd (omega (arith, inside)))) in
    subst IsTooLong (ap (λ t. t ++ drop (feed + 1) held) (sym whole) ∙ append_assoc text (ended (take feed held)) (drop (feed + 1) held) ∙ ap (λ h. text ++ h) (sym f.whole))
    (lines_too_long lines (drop (feed + 1) held) others (subst (λ t. most < length t) (ap (λ t. text ++ t) (with_feed held feed f) ∙ whole) long))

-- ---- what is answered

takes_so : (rest_old rest_new : Option (List ℕ)) (given_old given_new : ℕ) (taken : List ℕ) (pipe : PipeView) (result : Result (Vec ℕ Global) OpeningError)
    → Took rest_old rest_new given_old given_new taken → pipe.long ≡ false → IsOpening rest_new taken pipe result → Takes rest_old rest_new given_old given_new pipe result
takes_so rest_old rest_new given_old given_new taken pipe result took short is = record { taken = taken; took = took; is = is; short = short }

pub add_failed : (rest_old rest_new : Option (List ℕ)) (given_old given_new : ℕ) (taken : List ℕ) (pipe : PipeView) (result : Result (Vec ℕ Global) OpeningError) (e : OpeningError)
    → result ≡ Err e → Took rest_old rest_new given_old given_new taken → pipe.long ≡ false → (e ≡ TooLong → IsTooLong taken) → (e ≡ ReadFault → ⊥) → (e ≡ NoEvents → ⊥)
    → Takes rest_old rest_new given_old given_new pipe result
add_failed rest_old rest_new given_old given_new taken pipe result TooLong is took short long fault none =
    takes_so rest_old rest_new given_old given_new taken pipe result took short (subst (IsOpening rest_new taken pipe) (sym is) (long refl))
add_failed rest_old rest_new given_old given_new taken pipe result Memory is took short long fault none =
    takes_so rest_old rest_new given_old given_new taken pipe result took short (subst (IsOpening rest_new taken pipe) (sym is) tt)
add_failed rest_old rest_new given_old given_new taken pipe result ReadFault is took short long fault none = absurd (fault refl)
add_failed rest_old rest_new given_old given_new taken pipe result NoEvents is took short long fault none = absurd (none refl)

pub fill_failed : (rest_old rest_new : Option (List ℕ)) (given_old given_new : ℕ) (taken : List ℕ) (pipe : PipeView) (result : Result (Vec ℕ Global) OpeningError) (e : OpeningError)
    → result ≡ Err e → e ≡ ReadFault → Took rest_old rest_new given_old given_new taken → pipe.long ≡ false → OpensNone taken
    → Takes rest_old rest_new given_old given_new pipe result
fill_failed rest_old rest_new given_old given_new taken pipe result e is fault took short none =
    takes_so rest_old rest_new given_old given_new taken pipe result took short (subst (IsOpening rest_new taken pipe) (sym (is ∙ ap (λ x. Err x) fault)) none)
