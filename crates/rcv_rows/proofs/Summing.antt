-- What the rows say adds up to the entries.
use Rattle.std.proofs.Common.{◌≡◌, ℕ, suc, ◌+◌, ◌<◌, cond, Some, List, [], ◌∷◌, length, drop, get_or, refl, sym, ◌∙◌, ap, arith}
use Rattle.std.specs.Prelude.{slice_get, slice_range}
use Rattle.std.specs.List.{All, count_by, sum_by}
use Rattle.std.proofs.lemmas.List.Folds.{drop_split}
use Rattle.std.proofs.lemmas.List.Sums.{sum_by-cons, sum_by-append}
use Rattle.std.proofs.lemmas.List.Elements.{All-head, All-tail}
use Rattle.std.proofs.Math.ListN.{drop_of_length-le}
use Rattle.std.proofs.Math.Seq.{drop-cons}
use Rattle.std.proofs.lemmas.Option.{slice_get-get_or}
use Rattle.rcv_tree.specs.declared.event.Event.{Event}
use Rattle.rcv_tree.specs.declared.entry.Entry.{Entry}
use Rattle.rcv_tree.specs.declared.entry.Entry.TheVariants.{Send, Recv, Crash, Recover}
use Rattle.rcv_picture.specs.declared.group.Says.{Says}
use Rattle.rcv_picture.specs.declared.group.Says.TheVariants as says
use Rattle.rcv_rows.specs.Told.{ArePieces, is_send, is_recv, is_crash, is_recover, IsRight}
use Rattle.rcv_rows.specs.Laws.{size_of, send_in, sends_of, RowsAddUp, SendsAddUp, CountsAddUp}
use Rattle.rcv_rows.proofs.Adding.{pieces_le}

sizes : (a b : ℕ) (rows : List Says) → ArePieces a b rows → a + sum_by size_of rows ≡ b
sizes a b [] p = omega (arith, p)
sizes a b (says.Entry place undone ∷ rows) p =
    let rest = sizes (a + 1) b rows p.1 in
    let sum = sum_by-cons size_of (says.Entry place undone) rows in
    omega (arith, rest, sum)
sizes a b (says.Fold first end counts ∷ rows) p =
    let rest = sizes end b rows p.3 in
    let sum = sum_by-cons size_of (says.Fold first end counts) rows in
    omega (arith, rest, sum, p.0, p.1)
sizes a b (says.Nothing ∷ rows) p = absurd p
sizes a b (says.Arrow s t undone ∷ rows) p = absurd p

pub rows_add_up : RowsAddUp
rows_add_up kept entries rows are = let all = sizes 0 (length entries) rows are.pieces in omega (arith, all)

one_send : (e : Entry) (rest : List Entry) → count_by is_send (e ∷ rest) ≡ send_in (Some e) + count_by is_send rest
one_send (Send e) rest = sum_by-cons (λ x. cond (is_send x) 1 0) (Send e) rest
one_send (Recv e) rest = sum_by-cons (λ x. cond (is_send x) 1 0) (Recv e) rest
one_send (Crash p) rest = sum_by-cons (λ x. cond (is_send x) 1 0) (Crash p) rest
one_send (Recover p c k u) rest = sum_by-cons (λ x. cond (is_send x) 1 0) (Recover p c k u) rest

nth : (entries : List Entry) (i : ℕ) → i < length entries → Entry
nth [] i lt = absurd (omega arith)
nth (e ∷ entries) i lt = get_or (e ∷ entries) i e

-- the Sends from a place on are those at it and those behind it
sends_at : (entries : List Entry) (i : ℕ) → i < length entries → count_by is_send (drop i entries) ≡ send_in (slice_get entries i) + count_by is_send (drop (suc i) entries)
sends_at entries i lt =
    let e = nth entries i lt in
    ap (count_by is_send) (drop-cons entries i e lt)
    ∙ one_send (get_or entries i e) (drop (suc i) entries)
    ∙ ap (λ o. send_in o + count_by is_send (drop (suc i) entries)) (sym (slice_get-get_or entries i e lt))

sends_from : (kept : List Event) (entries : List Entry) (a : ℕ) (rows : List Says) → ArePieces a (length entries) rows → All (IsRight kept entries) rows → sum_by (sends_of entries) rows ≡ count_by is_send (drop a entries)
sends_from kept entries a [] p right = ap (count_by is_send) (sym (drop_of_length-le entries (omega (arith, p))))
sends_from kept entries a (says.Entry place undone ∷ rows) p right =
    let le = pieces_le (a + 1) (length entries) rows p.1 in
    let rest = sends_from kept entries (a + 1) rows p.1 (All-tail (IsRight kept entries) (says.Entry place undone) rows right) in
    let here = sends_at entries a (omega (arith, le)) in
    let next : count_by is_send (drop (suc a) entries) ≡ count_by is_send (drop (a + 1) entries) = ap (λ n. count_by is_send (drop n entries)) (let one : suc a ≡ a + 1 = omega arith in one) in
    let sum = sum_by-cons (sends_of entries) (says.Entry place undone) rows in
    let at : send_in (slice_get entries place) ≡ send_in (slice_get entries a) = ap (λ n. send_in (slice_get entries n)) p.0 in
    omega (arith, rest, here, next, at, sum)
sends_from kept entries a (says.Fold first end counts ∷ rows) p right =
    let rest = sends_from kept entries end rows p.3 (All-tail (IsRight kept entries) (says.Fold first end counts) rows right) in
    let counted = (All-head (IsRight kept entries) (says.Fold first end counts) rows right).sends in
    let split = ap (count_by is_send) (drop_split entries first end (let lt = p.1 in omega (arith, lt))) ∙ sum_by-append (λ x. cond (is_send x) 1 0) (slice_range entries first end) (drop end entries) in
    let from : count_by is_send (drop first entries) ≡ count_by is_send (drop a entries) = ap (λ n. count_by is_send (drop n entries)) p.0 in
    let sum = sum_by-cons (sends_of entries) (says.Fold first end counts) rows in
    omega (arith, rest, counted, split, from, sum)
sends_from kept entries a (says.Nothing ∷ rows) p right = absurd p
sends_from kept entries a (says.Arrow s t undone ∷ rows) p right = absurd p

pub sends_add_up : SendsAddUp
sends_add_up kept entries rows are = sends_from kept entries 0 rows are.pieces are.right

-- one entry more is of one kind
kinds_more : (e : Entry) (run : List Entry) → count_by is_send (e ∷ run) + count_by is_recv (e ∷ run) + count_by is_crash (e ∷ run) + count_by is_recover (e ∷ run) ≡ suc (count_by is_send run + count_by is_recv run + count_by is_crash run + count_by is_recover run)
kinds_more e run = go e (sum_by-cons (λ x. cond (is_send x) 1 0) e run) (sum_by-cons (λ x. cond (is_recv x) 1 0) e run) (sum_by-cons (λ x. cond (is_crash x) 1 0) e run) (sum_by-cons (λ x. cond (is_recover x) 1 0) e run)
  where
    go : (e : Entry) → count_by is_send (e ∷ run) ≡ cond (is_send e) 1 0 + count_by is_send run → count_by is_recv (e ∷ run) ≡ cond (is_recv e) 1 0 + count_by is_recv run
        → count_by is_crash (e ∷ run) ≡ cond (is_crash e) 1 0 + count_by is_crash run → count_by is_recover (e ∷ run) ≡ cond (is_recover e) 1 0 + count_by is_recover run
        → count_by is_send (e ∷ run) + count_by is_recv (e ∷ run) + count_by is_crash (e ∷ run) + count_by is_recover (e ∷ run) ≡ suc (count_by is_send run + count_by is_recv run + count_by is_crash run + count_by is_recover run)
    go (Send e) s r c v = omega (arith, s, r, c, v)
    go (Recv e) s r c v = omega (arith, s, r, c, v)
    go (Crash p) s r c v = omega (arith, s, r, c, v)
    go (Recover p q k u) s r c v = omega (arith, s, r, c, v)

kinds : (run : List Entry) → count_by is_send run + count_by is_recv run + count_by is_crash run + count_by is_recover run ≡ length run
kinds [] = refl
kinds (e ∷ run) = let rest = kinds run in let more = kinds_more e run in omega (arith, rest, more)

pub counts_add_up : CountsAddUp
counts_add_up kept run counts are =
    let all = kinds run in
    omega (arith, all, are.sends, are.receives, are.crashes, are.recoveries)
