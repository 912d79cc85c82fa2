-- A session's history begins with nothing, goes on by what is told, and outlasts forgetting.
use Rattle.std.proofs.Common.{◌≡◌, List, [], ◌∷◌, ◌++◌, length, refl, sym, ap, subst}
use Rattle.rcv_tree.specs.declared.entry.Entry.{Entry}
use Rattle.rcv_model.specs.Text.{body_of}
use Rattle.rcv_model.specs.Places.{net_of}
use Rattle.rcv_told.specs.Told.{Terms, Remembered, nothing_told, told, told_from, told_after, MayBeTold, IsTold, IsToldFrom}
use Rattle.rcv_told.specs.Forgetting.{IsShorter}
use Rattle.rcv_told.proofs.Adding.{adds_up}
use Rattle.rcv_told.proofs.Remembering.{no_answer}
use Rattle.rcv_guide.specs.Guide.{GuideView, net_for, terms_of, IsMemory}
use Rattle.rcv_guide.specs.History.{HasHistory, HistoriesBegin, HistoriesGoOn, HistoriesOutlastForgetting}
use Rattle.rcv_guide.proofs.Starting.{memory_first}
use Rattle.rcv_guide.proofs.Tracking.{start_shorter, to_longer}

pub histories_begin : HistoriesBegin
histories_begin protocol plan room = record {
  may = tt;
  memory = nothing_told (length protocol.roles);
  is = memory_first protocol plan room;
  shorter = start_shorter (net_of (body_of protocol.body)) (length protocol.roles);
}

-- one thing more that is told
told_more : (terms : Terms) (m : Remembered) (entries : List Entry) (e : Entry) → IsToldFrom terms m entries → MayBeTold terms (told_from terms m entries) e → IsToldFrom terms m (entries ++ e ∷ [])
told_more terms m [] e all may = (may, tt)
told_more terms m (x ∷ entries) e all may = (all.0, told_more terms (told_after terms m x) entries e all.1 may)

after_more : (terms : Terms) (m : Remembered) (entries : List Entry) (e : Entry) → told_from terms m (entries ++ e ∷ []) ≡ told_after terms (told_from terms m entries) e
after_more terms m [] e = refl
after_more terms m (x ∷ entries) e = after_more terms (told_after terms m x) entries e

-- A shorter memory of a history.
record IsMemoryOf (terms : Terms) (entries : List Entry) (m : Remembered) : Type 0 where
  may : IsTold terms entries
  shorter : IsShorter terms.net (told_from terms (nothing_told terms.roles) entries) m

goes_on : (terms : Terms) (entries : List Entry) (m : Remembered) (e : Entry) → IsMemoryOf terms entries m → MayBeTold terms m e → IsMemoryOf terms (entries ++ e ∷ []) (told_after terms m e)
goes_on terms entries m e of may = record {
  may = told_more terms (nothing_told terms.roles) entries e of.may (to_longer terms (told terms entries) m of.shorter e may);
  shorter = subst (λ (x : Remembered). IsShorter terms.net x (told_after terms m e)) (sym (after_more terms (nothing_told terms.roles) entries e)) ((no_answer terms (told terms entries) m e of.shorter).1 may);
}

history_of : (g : GuideView) (terms : Terms) (entries : List Entry) (m : Remembered) → terms_of g ≡ terms → IsMemory g m → IsMemoryOf terms entries m → HasHistory g entries
history_of g terms entries m same is of =
    let own = subst (λ (t : Terms). IsMemoryOf t entries m) (sym same) of in
    record { may = own.may; memory = m; is = is; shorter = own.shorter }

pub histories_go_on : HistoriesGoOn
histories_go_on old new history e after same has =
    history_of new (terms_of old) (history ++ e ∷ []) (told_after (terms_of old) has.memory e) same (after.memory has.memory has.is)
    (goes_on (terms_of old) history has.memory e (record { may = has.may; shorter = has.shorter }) (after.may has.memory has.is))

pub histories_outlast_forgetting : HistoriesOutlastForgetting
histories_outlast_forgetting old new history counts room forgot has =
    let short = forgot.shorter has.memory has.is in
    history_of new (terms_of old) history short.0 (ap (λ (g : GuideView). terms_of g) forgot.rest) short.1
    (record { may = has.may; shorter = adds_up (net_for old) (told (terms_of old) history) has.memory short.0 has.shorter short.2 })
