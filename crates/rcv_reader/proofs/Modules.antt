-- A whole module: its head, and one protocol behind another.
use Rattle.std.proofs.Common.{◌≡◌, ℕ, ◌+◌, ◌≤◌, ◌<◌, Result, Ok, Err, IfErr, IsErrAnd, List, [], ◌∷◌, ◌++◌, length, refl, sym, ap, ◌∙◌, arith, length-append}
use Rattle.std.specs.List.{All}
use Rattle.std.proofs.lemmas.List.Elements.{All-nil, All-cons, All-push}
use Rattle.rcv_tree.specs.Lists.{declarations}
use Rattle.rcv_tree.specs.declared.protocol.Protocol.{Protocol as ProtocolTree}
use Rattle.rcv_model.specs.Text.{body_of}
use Rattle.rcv_model.specs.Form.{HasForm}
use Rattle.rcv_machine.specs.Words.{Global, Protocol, Symbol, Is, IsNotNext, Token, Decl, WrittenProtocol, Source, protocol, protocols, modules, AreDecls, AreProperBodies, IsTreeOf, AreTreesOf, Reads, Named, Item, This, ProtocolName, MoreProtocols, Taken, in_head, answer, reading, known}
use Rattle.rcv_machine.proofs.Exactly.{refusal_is_first, taken_is_free}
use Rattle.rcv_reader.specs.declared.stop.Stop.TheVariants as errors
use Rattle.rcv_reader.specs.Refusals.{AreReadAs}
use Rattle.rcv_reader.specs.Descent.{Stop, Standing, answers, at, afresh, at_first, Halts, Ends, IsHead, IsProtocol}
use Rattle.rcv_reader.proofs.Named.{nobody_named}
use Rattle.rcv_reader.proofs.Reading.{one_more}
use Rattle.rcv_reader.proofs.Stops.{not_ended}
use Rattle.rcv_reader.proofs.Whole.{parts_of}

-- what the machine awaits at a protocol
abbrev pub at_protocol : List Item
at_protocol = This (Is Protocol) ∷ ProtocolName ∷ []

-- nothing is read yet
pub begun : (old : Standing) → old ≡ at_first old.rest → reading old.rest ≡ answers old (in_head at_protocol)
begun old fresh =
    ap (λ (since : Named). answer (known [] [] 0 since) (in_head at_protocol) old.rest) (sym (nobody_named []))
    ∙ ap (λ (x : Standing). answers x (in_head at_protocol)) (sym fresh)

-- behind the word global
pub head_fresh : (old p : Standing) (names : List (List ℕ)) (ds : List Decl) → old ≡ at_first old.rest → IsHead names ds old p
    → p ≡ afresh p.protocols p.rest
head_fresh old p names ds fresh head = ap (λ (x : Standing). at x p.rest) (sym head.spelled ∙ fresh) ∙ same
  where
    same : at_first p.rest ≡ afresh p.protocols p.rest
    same = ap (λ (x : Standing). afresh x.protocols p.rest) (sym fresh ∙ head.spelled)

-- what stops there stops the whole
pub ends_by : {X : Type 0} (r : Result X Stop) (e : Stop) (start : List Symbol) (p new : Standing) (front : List Item → List Item)
    (k : List Item) → IsErrAnd r (λ f. f ≡ e) → reading start ≡ answers p (front k) → Halts e p new front
    → IfErr r (λ f. Ends f start new.rest)
ends_by (Ok x) e start p new front k is begun h = absurd is
ends_by (Err f) errors.Memory start p new front k is begun h = rw is tt
ends_by (Err f) (errors.Refused fault) start p new front k is begun h = rw is (refusal_is_first start fault new.rest (begun ∙ h k))

abbrev pub IsFormed : ProtocolTree → Type 0
IsFormed p = HasForm (body_of p.body) (length p.roles)

-- The first protocols were read.
pub record ModuleSoFar (start : List Symbol) (now : Standing) (main : ProtocolTree) (others : List ProtocolTree) : Type 0 where
  pub goes : reading start ≡ answers now (MoreProtocols ∷ [])
  pub fresh : now ≡ afresh now.protocols now.rest
  pub counted : length now.protocols ≡ 1 + length others
  pub few : length now.protocols ≤ 64
  pub formed : All IsFormed (main ∷ others)
  pub source : Source
  pub sound : AreDecls source.declared × AreProperBodies (source.first ∷ source.others)
  pub spelled : start ≡ modules source now.rest
  pub names : main.«module» ≡ source.module_name ∷ source.module_more
  pub declared : declarations main.decls ≡ source.declared
  pub first : IsTreeOf source.first main
  pub more : AreTreesOf source.others others

pub module_first : (old p now : Standing) (main : ProtocolTree) (names : List (List ℕ)) (ds : List Decl) (none : List ProtocolTree)
    → old ≡ at_first old.rest → ((k : List Item) → answers old (in_head k) ≡ answers p k) → IsHead names ds old p
    → ((k : List Item) → answers p (This (Is Protocol) ∷ ProtocolName ∷ k) ≡ answers now (MoreProtocols ∷ k)) → IsProtocol p now main
    → (main.«module» ≡ names) × (declarations main.decls ≡ ds) → none ≡ [] → ModuleSoFar old.rest now main none
module_first old p now main names ds none fresh goes head on is given empty =
    let (first, more, both) = parts_of names head.some_module in
    let text = ap (λ (x : Standing). x.rest) head.spelled in
    let no_names : p.protocols ≡ [] = ap (λ (x : Standing). x.protocols) (sym head.spelled ∙ fresh) in
    let one = ap (λ (x : Standing). length x.protocols) is.anew in
    let few = is.few in
    rw empty (record {
      goes = begun old fresh ∙ goes at_protocol ∙ on [];
      fresh = rw is.anew refl;
      counted = one ∙ rw no_names refl;
      few = few;
      formed = All-cons IsFormed main [] is.form (All-nil IsFormed);
      source = record { module_name = first; module_more = more; declared = ds; first = is.written; others = [] };
      sound = (head.words, (is.proper, tt));
      spelled = rw (both, is.spelled) at text;
      names = given.0 ∙ both;
      declared = given.1;
      first = is.tree;
      more = tt;
    })

-- one protocol more at the end
trees_push : (ws : List WrittenProtocol) (w : WrittenProtocol) (ps : List ProtocolTree) (p : ProtocolTree) → AreTreesOf ws ps → IsTreeOf w p
    → p.«module» ≡ [] → declarations p.decls ≡ [] → AreTreesOf (ws ++ w ∷ []) (ps ++ p ∷ [])
trees_push [] w [] p all is names ds = (is, names, ds, tt)
trees_push [] w (q ∷ ps) p all is names ds = absurd all
trees_push (v ∷ ws) w [] p all is names ds = absurd all
trees_push (v ∷ ws) w (q ∷ ps) p all is names ds = (all.0, all.1, all.2, trees_push ws w ps p all.3 is names ds)

proper_push : (ws : List WrittenProtocol) (w : WrittenProtocol) → AreProperBodies ws → AreProperBodies (w ∷ []) → AreProperBodies (ws ++ w ∷ [])
proper_push [] w all is = is
proper_push (v ∷ ws) w all is = (all.0, proper_push ws w all.1 is)

-- at the word global behind a protocol
pub behind_global : (start : List Symbol) (p q : Standing) (main : ProtocolTree) (others : List ProtocolTree) → ModuleSoFar start p main others
    → p ≡ at q (Is Global ∷ q.rest) → (q ≡ afresh q.protocols q.rest) × (reading start ≡ answers q at_protocol)
behind_global start p q main others so_far e =
    let so = rw e at so_far in
    let fresh : q ≡ afresh q.protocols q.rest = ap (λ (x : Standing). at x q.rest) so.fresh in (
      fresh,
      so.goes ∙ ap (λ (since : Named). answer (known q.protocols [] 0 since) at_protocol q.rest) (sym (nobody_named []))
          ∙ ap (λ (x : Standing). answers x at_protocol) (sym fresh),
    )

pub module_next : (start : List Symbol) (p q now : Standing) (main r : ProtocolTree) (others others' : List ProtocolTree)
    → ModuleSoFar start p main others → p ≡ at q (Is Global ∷ q.rest)
    → ((k : List Item) → answers q (This (Is Protocol) ∷ ProtocolName ∷ k) ≡ answers now (MoreProtocols ∷ k)) → IsProtocol q now r
    → (r.«module» ≡ []) × (declarations r.decls ≡ []) → others' ≡ others ++ r ∷ [] → ModuleSoFar start now main others'
module_next start p q now main r others others' so_far e on is given added =
    let so = rw e at so_far in
    let to = (behind_global start p q main others so_far e).1 in
    let names = ap (λ (x : Standing). length x.protocols) is.anew in
    rw added (record {
      goes = to ∙ on [];
      fresh = rw is.anew refl;
      counted = omega (arith, names, so.counted, length-append q.protocols (r.name ∷ []), length-append others (r ∷ []));
      few = is.few;
      formed = All-push IsFormed (main ∷ others) r so.formed is.form;
      source = record {
        module_name = so.source.module_name;
        module_more = so.source.module_more;
        declared = so.source.declared;
        first = so.source.first;
        others = so.source.others ++ is.written ∷ [];
      };
      sound = (so.sound.0, proper_push (so.source.first ∷ so.source.others) is.written so.sound.1 (is.proper, tt));
      spelled = rw (one_more protocols protocol (λ next. refl) (λ w ws next. refl) so.source.others is.written now.rest, ← is.spelled) so.spelled;
      names = so.names;
      declared = so.declared;
      first = so.first;
      more = trees_push so.source.others is.written others r so.more is.tree given.0 given.1;
    })

pub module_read : (start : List Symbol) (now : Standing) (main : ProtocolTree) (others : List ProtocolTree) → ModuleSoFar start now main others
    → now.rest ≡ [] → AreReadAs start main others × (length others < 64) × All IsFormed (main ∷ others)
module_read start now main others so_far done =
    let so = rw done at so_far in
    let taken : reading start ≡ Taken = so.goes in
    let reads : Reads start main others = record {
      source = so.source;
      spelled = (so.sound.0, so.sound.1, so.spelled);
      modules = so.names;
      declared = so.declared;
      first = so.first;
      more = so.more;
    } in
    (((taken_is_free start taken).1, reads), omega (arith, so_far.counted, so_far.few), so_far.formed)

-- Something else stands behind a protocol.
pub module_ends : (start : List Symbol) (p now : Standing) (main : ProtocolTree) (others : List ProtocolTree) → ModuleSoFar start p main others
    → p ≡ now → IsNotNext (Is Global) now.rest → (now.rest ≡ [] → ⊥) → Ends (errors.Refused Token) start now.rest
module_ends start p now main others so_far same other some =
    let so = rw same at so_far in refusal_is_first start Token now.rest (so.goes ∙ not_ended now other some)

-- whether symbols are left, by their number
pub left_some : {n : ℕ} (ts : List Symbol) → n ≡ length ts → (n ≡ 0 → ⊥) → ts ≡ [] → ⊥
left_some ts is some none = let no = ap length none in some (is ∙ no)

pub left_none : {n : ℕ} (ts : List Symbol) → n ≡ length ts → n ≡ 0 → ts ≡ []
left_none [] is none = refl
left_none (t ∷ ts) is none = absurd (omega (arith, is, none))
